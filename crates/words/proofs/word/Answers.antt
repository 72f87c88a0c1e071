-- `word_from` from word 0 on.
use Rattle.words.specs.Prelude.{zero-add}
use Rattle.words.proofs.word.Goals as goal

pub returns : goal.returns
returns c = simp (c.word_from.ensures, zero-add)
