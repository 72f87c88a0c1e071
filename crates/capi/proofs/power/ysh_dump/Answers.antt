-- Words that pass are dumped at once; else the area is as it was, and the lines decide.
use Rattle.capi.proofs.{Powering.dump_passed, Powering.dump_kept}
use Rattle.capi.proofs.power.ysh_dump.Goals as goal

pub returns-then-dump_words : goal.returns-then-dump_words
returns-then-dump_words c = dump_passed _ _ _ _ _ _ c.dump_words.ensures c.if-dump_words.true

pub returns : goal.returns
returns c =
    dump_kept _ _ _ _ _ _ c.dump_words.ensures c.if-dump_words.false c.dump_judged.ensures
