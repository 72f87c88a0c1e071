-- A pass over the returns between two rows: what is left of it at a row. Assumes nothing.
use Rattle.std.specs.Prelude.{None, Option, Some}
use Rattle.words.specs.Prelude.{◌≡◌, sym, ◌∙◌, List, ℕ, suc, ◌+◌, ◌-◌, ◌≤◌, ◌<◌, add-zero, add-one, arith, length, Float}
use Rattle.floats.specs.{Floats.◌⊕◌, Sums.sum_from}
use Rattle.rows.specs.{History.History}
use Rattle.execution.specs.{Volatility.close_at, Volatility.closes, Volatility.simple_return, Volatility.kept, Volatility.returns, Tally.term_of}
use Rattle.execution.specs.{Tally.tally_from}
use Rattle.execution.specs.{declared.volatility.Tally.Tally, declared.volatility.Term.Term}

-- the returns from row i on, up to row `last`
abbrev pub rest : History → ℕ → ℕ → List Float
rest h i last = returns (closes h i (suc (last - i)))

-- the first of them is that to the next row, where it is kept
ahead : (h : History) (i last : ℕ) → i < last → rest h i last ≡ kept (simple_return (close_at h i) (close_at h (i + 1))) (rest h (i + 1) last)
unfolding closes returns
ahead h i last l =
    let e : last - i ≡ suc (last - (i + 1)) = omega arith in
    let s : i + 1 ≡ suc i = add-one i in
    rw (e, s)

-- from the last row on there is none, and what the pass has is the whole
pub ended : (k : Term) (h : History) (i last n : ℕ) (s : Float) {whole : Tally} → last ≤ i → tally_from k n s (rest h i last) ≡ whole
    → record { count = n; total = s } ≡ whole
unfolding closes returns tally_from sum_from
ended k h i last n s l so_far =
    let e : last - i ≡ 0 = omega arith in
    rw (e, add-zero n) at so_far

-- One turn: the closes of row i and of the next, and the return between them, which is added or passed over.
module _ (k : Term) (h : History) (i last n : ℕ) (s : Float) {before now : Float} {change : Option Float} {whole : Tally}
    (left : i < last) (at : before ≡ close_at h i) (next : now ≡ close_at h (i + 1)) (found : change ≡ simple_return before now)
    (so_far : tally_from k n s (rest h i last) ≡ whole) where
  pub added : {r t : Float} → change ≡ Some r → t ≡ term_of k r → tally_from k (n + 1) (s ⊕ t) (rest h (i + 1) last) ≡ whole
  unfolding kept tally_from sum_from
  added {r} e term =
      let pair : simple_return (close_at h i) (close_at h (i + 1)) ≡ Some r = cc in
      let one : n + suc (length (rest h (i + 1) last)) ≡ n + 1 + length (rest h (i + 1) last) = omega arith in
      let turn : tally_from k n s (rest h i last) ≡ tally_from k (n + 1) (s ⊕ term_of k r) (rest h (i + 1) last) =
      rw (ahead h i last left, pair, one) in
      rw term (sym turn ∙ so_far)

  pub passed : change ≡ None → tally_from k n s (rest h (i + 1) last) ≡ whole
  unfolding kept
  passed e =
      let pair : simple_return (close_at h i) (close_at h (i + 1)) ≡ None = cc in
      let turn : tally_from k n s (rest h i last) ≡ tally_from k n s (rest h (i + 1) last) = rw (ahead h i last left, pair) in
      sym turn ∙ so_far
