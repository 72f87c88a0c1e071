-- The test on the divisor is the definition's. Assumes nothing.
use Rattle.rules.specs.{Values.divide}
use Rattle.rules.proofs.{Words.nan_is}
use Rattle.rules.proofs.values.divided.Goals as goal

pub returns-then-abs : goal.returns-then-abs
unfolding divide
returns-then-abs c = rw (← c.abs.ensures, c.if-abs.true) nan_is

pub returns : goal.returns
unfolding divide
returns c = rw (← c.abs.ensures, c.if-abs.false)
