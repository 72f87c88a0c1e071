-- One pass over the points that sums a part of the returns, whichever part. Assumes nothing.
use Rattle.words.specs.Prelude.{◌≡◌, List, map, ℕ, ◌+◌, ◌≤◌, ◌<◌, length, get_or, drop, Float}
use Rattle.floats.specs.{Floats.◌⊕◌, Floats.◌⊘◌, Sums.sum_from, Sums.sum, Sums.counted}
use Rattle.metrics.specs.{Returns.bar_return, Returns.returns_from, Returns.bar_returns, Returns.mean_of}
use Rattle.metrics.proofs.{Neighbours.returns_first, Walks.turn, Walks.done}
use Rattle.floats.specs.Floats as Floats

-- What is summed and what is to come from point i, with `before` the point before it, make the whole sum.
pub record Summing (part : Float → Float) (es : List Float) (before total : Float) (i : ℕ) : Type 0 where
  pub whole : sum_from total (map part (returns_from before (drop i es))) ≡ sum (map part (bar_returns es))

-- A pass starts at point 1, with nothing summed.
pub starts : {part : Float → Float} {es : List Float} {before : Float} → before ≡ get_or es 0 Floats.zero → Summing part es before Floats.zero 1
starts e = record { whole = rw (e, returns_first) }

-- One point more is one return more.
pub goes_on : {part : Float → Float} {es : List Float} {before next r x total : Float} {n i : ℕ} → n ≡ length es → i < n
    → next ≡ get_or es i Floats.zero → r ≡ bar_return before next → x ≡ part r
    → Summing part es before total i → Summing part es next (total ⊕ x) (i + 1)
unfolding sum_from returns_from
goes_on {part} {es} {before} {total = total} {i = i} l h e q p s =
    record {
      whole = rw (p, q) (turn (λ (rest : List Float). sum_from total (map part (returns_from before rest))) es i l h e s.whole);
    }

-- After the last point the sum over the count is the mean.
pub ends : {part : Float → Float} {es : List Float} {before total by : Float} {n i k : ℕ} → n ≡ length es → n ≤ i
    → k ≡ length (bar_returns es) → by ≡ counted k → Summing part es before total i → total ⊘ by ≡ mean_of part (bar_returns es)
unfolding sum_from returns_from mean_of
ends {part} {es} {before} {total} {i = i} l h m q s =
    rw (q, m, done (λ (rest : List Float). sum_from total (map part (returns_from before rest))) es i l h s.whole)
