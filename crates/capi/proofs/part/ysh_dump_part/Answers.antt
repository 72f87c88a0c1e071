-- Words that pass have their part written at once; else part and count are as they were, and the lines decide.
use Rattle.capi.proofs.{Parting.part_passed, Parting.part_kept}
use Rattle.capi.proofs.part.ysh_dump_part.Goals as goal

pub returns-then-part_words : goal.returns-then-part_words
returns-then-part_words c = part_passed _ _ _ _ _ _ c.part_words.ensures c.if-part_words.true

pub returns : goal.returns
returns c =
    part_kept _ _ _ _ _ _ c.part_words.ensures c.if-part_words.false c.part_judged.ensures
