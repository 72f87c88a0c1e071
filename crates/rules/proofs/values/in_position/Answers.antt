-- The test is the definition's. Assumes nothing.
use Rattle.rules.specs.{Values.held}
use Rattle.rules.proofs.values.in_position.Goals as goal

pub returns : goal.returns
unfolding held
returns c = rw (← c.abs.ensures)
