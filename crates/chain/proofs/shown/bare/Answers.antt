-- No word is used. Assumes nothing.
use Rattle.words.specs.Prelude.{refl}
use Rattle.chain.specs.{Lines.detail}
use Rattle.chain.proofs.shown.bare.Goals as goal

pub returns : goal.returns
unfolding detail
returns c = refl
