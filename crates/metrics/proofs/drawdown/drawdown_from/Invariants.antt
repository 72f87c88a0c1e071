-- The deepest fall of what is to come, from the peak and the deepest fall so far, is that of the whole.
use Rattle.words.specs.Prelude.{◌≡◌, drop}
use Rattle.metrics.specs.{Records.equity_of, Drawdown.drawdown_from}
use Rattle.floats.specs.Floats as Floats
use Rattle.metrics.proofs.drawdown.drawdown_from.Given as goal

abbrev pub invariant-loop-i : goal.invariant-loop-i
invariant-loop-i l = drawdown_from l.peak l.deepest (drop l.i (equity_of l.equity)) ≡ drawdown_from l.start Floats.zero (equity_of l.equity)
