-- The definition's one test, of what `abs` ensures.
use Rattle.floats.specs.{Sums.return_pct}
use Rattle.floats.proofs.sums.return_pct.Goals as goal

pub returns-then-abs : goal.returns-then-abs
unfolding return_pct
returns-then-abs c = simp (← c.abs.ensures, c.if-abs.true)

pub returns : goal.returns
unfolding return_pct
returns c = simp (← c.abs.ensures, c.if-abs.false)
