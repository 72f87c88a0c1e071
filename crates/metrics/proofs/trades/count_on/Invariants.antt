-- Those so far and those to come are all; there are no more than trades passed.
use Rattle.words.specs.Prelude.{◌≡◌, ◌+◌, ◌≤◌, length, drop}
use Rattle.metrics.specs.{Records.pnls_of, Trades.sizes_on}
use Rattle.metrics.proofs.trades.count_on.Given as goal

abbrev pub invariant-loop-i : goal.invariant-loop-i
invariant-loop-i l = (l.count ≤ l.i) × (l.count + length (sizes_on l.side (drop l.i (pnls_of l.trades))) ≡ length (sizes_on l.side (pnls_of l.trades)))
