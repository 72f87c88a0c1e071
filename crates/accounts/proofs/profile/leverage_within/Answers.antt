-- One case for each.
use Rattle.accounts.specs.{Profile.leverage_within}
use Rattle.accounts.proofs.profile.leverage_within.Goals as goal

pub returns-in-None : goal.returns-in-None
unfolding leverage_within
returns-in-None c = rw c.in-None.is

pub returns-in-Some : goal.returns-in-Some
unfolding leverage_within
returns-in-Some c = rw c.in-Some.is
