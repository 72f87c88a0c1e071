-- The tests, joined.
use Rattle.dumpable.specs.{Laws.Passing.entries_pass}
use Rattle.dumpable.proofs.passing.entries_pass.Goals as goal

pub returns : goal.returns
unfolding entries_pass
returns c = cc
