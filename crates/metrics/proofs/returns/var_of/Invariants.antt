-- What is summed and what is to come make the whole sum.
use Rattle.metrics.specs.{Returns.away, Records.equity_of}
use Rattle.metrics.proofs.{Passes.Summing}
use Rattle.metrics.proofs.returns.var_of.Given as goal

abbrev pub invariant-loop-i : goal.invariant-loop-i
invariant-loop-i l = Summing (away l.mean) (equity_of l.equity) l.before l.total l.i
