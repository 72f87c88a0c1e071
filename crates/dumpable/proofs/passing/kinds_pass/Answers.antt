-- The tests, joined.
use Rattle.dumpable.specs.{Laws.Passing.kinds_pass}
use Rattle.dumpable.proofs.passing.kinds_pass.Goals as goal

pub returns : goal.returns
unfolding kinds_pass
returns c = cc
