-- Each of the two sums, with what is to come, makes its whole sum.
use Rattle.metrics.specs.{Returns.itself, Returns.below_zero, Records.equity_of}
use Rattle.metrics.proofs.{Passes.Summing}
use Rattle.metrics.proofs.returns.means_of.Given as goal

abbrev pub invariant-loop-i : goal.invariant-loop-i
invariant-loop-i l = Summing itself (equity_of l.equity) l.before l.itself l.i × Summing below_zero (equity_of l.equity) l.before l.below l.i
