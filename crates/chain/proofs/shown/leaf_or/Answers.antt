-- One return for each case of what was found. Assumes nothing.
use Rattle.chain.specs.{Lines.leaf_or, Lines.detail}
use Rattle.chain.proofs.shown.leaf_or.Goals as goal

pub returns-in-Some : goal.returns-in-Some
unfolding leaf_or detail
returns-in-Some c = rw c.in-Some.is

pub returns-in-None : goal.returns-in-None
unfolding leaf_or detail
returns-in-None c = rw c.in-None.is
