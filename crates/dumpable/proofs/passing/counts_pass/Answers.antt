-- The tests, joined.
use Rattle.dumpable.specs.{Laws.Passing.counts_pass}
use Rattle.dumpable.proofs.passing.counts_pass.Goals as goal

pub returns : goal.returns
unfolding counts_pass
returns c = cc
