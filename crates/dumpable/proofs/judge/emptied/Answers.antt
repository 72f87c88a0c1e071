-- Field by field.
use Rattle.words.specs.Prelude.{refl}
use Rattle.engine.specs.{Books.emptied}
use Rattle.dumpable.proofs.judge.emptied.Goals as goal

pub returns : goal.returns
unfolding emptied
returns c = refl
