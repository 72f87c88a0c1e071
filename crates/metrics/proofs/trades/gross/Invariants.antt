-- What is summed and what is to come make the whole sum.
use Rattle.words.specs.Prelude.{◌≡◌, drop}
use Rattle.metrics.specs.{Records.pnls_of, Trades.sizes_on, Trades.gross}
use Rattle.floats.specs.{Sums.sum_from}
use Rattle.metrics.proofs.trades.gross.Given as goal

abbrev pub invariant-loop-i : goal.invariant-loop-i
invariant-loop-i l = sum_from l.total (sizes_on l.side (drop l.i (pnls_of l.trades))) ≡ gross l.side (pnls_of l.trades)
