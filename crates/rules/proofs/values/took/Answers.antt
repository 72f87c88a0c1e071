-- The later one where it is better. Assumes nothing.
use Rattle.rules.specs.{Values.took}
use Rattle.rules.proofs.values.took.Goals as goal

pub returns-then-better : goal.returns-then-better
unfolding took
returns-then-better c = rw (← c.better.ensures, c.if-better.true)

pub returns-else-better : goal.returns-else-better
unfolding took
returns-else-better c = rw (← c.better.ensures, c.if-better.false)
