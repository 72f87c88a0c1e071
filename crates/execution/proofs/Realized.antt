-- The two passes of `realized_vol`, put together. Assumes nothing.
use Rattle.std.specs.Prelude.{None, Option}
use Rattle.words.specs.Prelude.{◌≡◌, sym, ap, ◌∙◌, List, map, ℕ, suc, ◌-◌, ◌≤◌, zero-add, arith, le-ltb, eq-eqb, ne_eqb, length, Float}
use Rattle.floats.specs.{Floats.◌⊘◌, Sums.sum_from, Sums.sum, Sums.counted, Sqrt.sqrt}
use Rattle.rows.specs.{History.History}
use Rattle.execution.specs.{Volatility.closes, Volatility.returns, Volatility.mean_of, Volatility.square_from, Volatility.deviation, Volatility.if_positive}
use Rattle.execution.specs.{Volatility.spread, Volatility.realized_vol, Tally.term_of, Tally.tally_from}
use Rattle.execution.specs.{declared.volatility.Tally.Tally, declared.volatility.Term.Term}
use Rattle.execution.specs.{declared.volatility.Term.TheVariants.Itself, declared.volatility.Term.TheVariants.Squared}
use Rattle.execution.proofs.{Passes.rest}
use mathlib.Core.List.{map-id}
use Rattle.floats.specs.Floats as Floats

module _ (h : History) (held back : ℕ) (are : held ≡ h.rows) (two : 2 ≤ back) (enough : back ≤ held) where
  rets : List Float
  rets = returns (closes h (h.rows - back) back)

  -- what a pass over the last rows gives
  abbrev pub pass : Term → Tally
  pass k = tally_from k 0 Floats.zero (rest h (held - back) (held - 1))

  over_rets : (k : Term) → pass k ≡ record { count = length rets; total = sum (map (term_of k) rets) }
  unfolding rets tally_from
  over_rets k =
      let n : suc (held - 1 - (held - back)) ≡ back = omega arith in
      rw (n, are, zero-add)

  is_spread : realized_vol h back ≡ spread rets
  unfolding realized_vol rets
  is_spread =
      let fits : back ≤ h.rows = omega arith in
      simp (le-ltb _ _ two, le-ltb _ _ fits)

  module _ (t : Tally) (first : t ≡ pass Itself) where
    count : t.count ≡ length rets
    count = rw (first, over_rets)

    -- no return was kept
    pub no_returns : t.count ≡ 0 → None ≡ realized_vol h back
    unfolding spread
    no_returns z = rw is_spread (simp (eq-eqb _ _ (sym count ∙ z)))

    -- some were, and a second pass had their mean
    pub some_returns : (n sd : Float) (u : Tally) (r : Option Float) → (t.count ≡ 0 → ⊥) → n ≡ counted t.count
        → u ≡ pass (Squared (t.total ⊘ n)) → sd ≡ sqrt (u.total ⊘ n) → r ≡ if_positive sd → r ≡ realized_vol h back
    unfolding spread deviation mean_of term_of
    some_returns n sd u r some e f g k =
        let n-is : n ≡ counted (length rets) = rw count at e in
        let total : t.total ≡ sum rets = rw (first, over_rets) (ap (sum_from Floats.zero) (map-id rets)) in
        let mean : t.total ⊘ n ≡ mean_of rets = rw (total, n-is) in
        let squares : u.total ≡ sum (map (square_from (mean_of rets)) rets) = rw (f, over_rets, mean) in
        let deviates : sd ≡ deviation rets = g ∙ rw (squares, n-is) in
        let more : length rets ≡ 0 → ⊥ = λ z. some (count ∙ z) in
        rw is_spread (simp (ne_eqb _ _ more) (k ∙ ap if_positive deviates))
