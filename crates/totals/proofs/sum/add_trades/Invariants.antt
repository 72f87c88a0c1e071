-- What is in the sum and the pnl to come make up the whole. Assumes nothing.
use Rattle.words.specs.Prelude.{◌≡◌, ◌-◌, ◌≤◌, length}
use Rattle.totals.specs.{Number.AreWords, Exact.sum_size}
use Rattle.totals.specs.{Trades.trades_from, Trades.pnl_sum, Totals.sum_with}
use Rattle.totals.proofs.sum.add_trades.Given as goal

abbrev pub invariant-loop-i : goal.invariant-loop-i
invariant-loop-i l = (l.i ≤ l.n) × AreWords l.sum × (length l.sum ≡ sum_size)
    × (sum_with l.sum (pnl_sum (trades_from (l.n - l.i) l.i l.trades)) ≡ sum_with l.initial.sum (pnl_sum (trades_from l.n 0 l.trades)))
