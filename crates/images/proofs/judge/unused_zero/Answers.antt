-- Five tests in the order of the definition, none of them a branch.
use Rattle.images.specs.{Refused.unused_zero}
use Rattle.images.proofs.judge.unused_zero.Goals as goal

pub returns : goal.returns
unfolding unused_zero
returns c = cc
