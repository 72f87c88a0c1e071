-- The tests, joined.
use Rattle.dumpable.specs.{Laws.Passing.levels_pass}
use Rattle.dumpable.proofs.passing.levels_pass.Goals as goal

pub returns : goal.returns
unfolding levels_pass
returns c = cc
