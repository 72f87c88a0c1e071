-- What is counted and what is still to be counted, up to the first trade that cannot be, make up the whole. Assumes nothing.
use Rattle.words.specs.Prelude.{◌≡◌, List, ℕ, ◌+◌, ◌-◌, ◌≤◌, length}
use Rattle.words.specs.{Limits.most_count}
use Rattle.totals.specs.{Trades.Trade, Trades.trades_from, Trades.good_start, Totals.count_size, Totals.AllAtMost}
use Rattle.totals.specs.{Totals.with_counts}
use Rattle.totals.proofs.counts.count_trades.Given as goal

-- the good ones from trade i on, of n
abbrev good_from : ℕ → ℕ → List ℕ → List Trade
good_from n i trades = good_start (trades_from (n - i) i trades)

-- all good ones, as i of them are counted
abbrev Counted : (counts₀ trades : List ℕ) → (n : ℕ) → (counts : List ℕ) → (i : ℕ) → List Trade → Type 0
Counted counts₀ trades n counts i good =
    (with_counts counts good ≡ with_counts counts₀ (good_start (trades_from n 0 trades))) × (i + length good ≡ length (good_start (trades_from n 0 trades)))

abbrev pub invariant-loop-i : goal.invariant-loop-i
invariant-loop-i l = (l.i ≤ l.n) × (length l.counts ≡ count_size) × AllAtMost (most_count + l.i) l.counts × Counted l.initial.counts l.trades l.n l.counts l.i (good_from l.n l.i l.trades)
