-- By the cases of the exit.
use Rattle.engine.specs.{Account.leaving}
use Rattle.engine.proofs.account.leaving.Goals as goal

pub returns-in-None : goal.returns-in-None
unfolding leaving
returns-in-None c =
    simp c.in-None.is

pub returns-in-Some : goal.returns-in-Some
unfolding leaving
returns-in-Some c =
    simp c.in-Some.is
