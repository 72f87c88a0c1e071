-- The words of the state fill the array, and are packed.
use Rattle.words.specs.Prelude.{ap, ◌∙◌}
use Rattle.words.specs.{Words.overwrite}
use Rattle.records.specs.{StateWords.words_of}
use Rattle.heads.specs.{Laws.Packed.head_words}
use Rattle.heads.proofs.packed.head_words.Goals as goal

pub returns : goal.returns
unfolding words_of overwrite
returns c =
    let a = c.args in
    c.pack.ensures ∙ ap (head_words a.s.slots a.s.depth a.held) c.put_state.ensures
