-- One return for each case of the first. Assumes nothing.
use Rattle.chain.specs.{Missing.first_found}
use Rattle.chain.proofs.missing.first_found.Goals as goal

pub returns-in-Some : goal.returns-in-Some
unfolding first_found
returns-in-Some c = rw c.in-Some.is

pub returns-in-None : goal.returns-in-None
unfolding first_found
returns-in-None c = rw c.in-None.is
