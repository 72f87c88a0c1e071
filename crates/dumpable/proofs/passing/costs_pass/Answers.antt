-- The tests, joined.
use Rattle.dumpable.specs.{Laws.Passing.costs_pass}
use Rattle.dumpable.proofs.passing.costs_pass.Goals as goal

pub returns : goal.returns
unfolding costs_pass
returns c = cc
