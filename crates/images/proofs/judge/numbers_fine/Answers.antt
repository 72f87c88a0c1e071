-- Six tests in the order of the definition, none of them a branch.
use Rattle.images.specs.{Refused.numbers_fine}
use Rattle.images.proofs.judge.numbers_fine.Goals as goal

pub returns : goal.returns
unfolding numbers_fine
returns c = cc
