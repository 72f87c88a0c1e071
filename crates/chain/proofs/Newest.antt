-- A price or a slot some bars back, and the newest bar at which it is missing. Assumes nothing.
use Rattle.std.specs.Prelude.{Float, None, Option, Some, ℕ}
use Rattle.words.specs.Prelude.{ℕ, zero, suc, ◌+◌, ◌-◌, ◌<◌, ◌≤◌, ◌≡◌, refl, ◌∙◌, arith, sub-one, lt-ltb, le-ltb}
use Rattle.rows.specs.{History.History}
use Rattle.table.specs.{declared.series.Series.Series, declared.series.Series.TheVariants.Price, declared.series.Series.TheVariants.Slot, Series.as_operand}
use Rattle.table.specs.{Trees.Operand}
use Rattle.rules.specs.{Values.slot_of, Laws.Meaning.past, Laws.Meaning.price-value, Laws.Meaning.ref_value}
use Rattle.chain.specs.{Missing.first_found, Missing.gone_if, Missing.leaf_gone, Missing.newest_gone}

module _ (h : History) (over : Series) (i bar back : ℕ) where
  pub series_early : bar < back → Some (i, back) ≡ leaf_gone h (as_operand over) i bar back
  unfolding leaf_gone gone_if
  series_early l = rw (lt-ltb bar back l)

  module _ (late : back ≤ bar) where
    pub series_past : (n : ℕ) → n ≡ h.rows → n ≤ bar - back → Some (i, back) ≡ leaf_gone h (as_operand over) i bar back
    unfolding leaf_gone gone_if
    series_past n e l = rw (le-ltb bar back late, past h (as_operand over) (bar - back) (rw e at l))

    module _ (there : bar - back < h.rows) where
      pub series_price : (selector : ℕ) → over ≡ Price selector → None ≡ leaf_gone h (as_operand over) i bar back
      unfolding leaf_gone gone_if as_operand
      series_price selector e = rw (e, le-ltb bar back late, price-value h (bar - back) there selector)

      pub series_slot : (slot : ℕ) → over ≡ Slot slot → (v u : Option Float) → v ≡ slot_of (h.word (bar - back)) slot → v ≡ u
          → gone_if i back u ≡ leaf_gone h (as_operand over) i bar back
      unfolding leaf_gone as_operand
      series_slot slot e v u f g = rw (e, le-ltb bar back late, ref_value h (bar - back) there slot, ← f, g)

module _ (h : History) (a : Operand) (i bar : ℕ) where
  pub newest_front : (at m : ℕ) → 0 < m → newest_gone h a i bar at m ≡ first_found (leaf_gone h a i bar at) (newest_gone h a i bar (at + 1) (m - 1))
  unfolding newest_gone
  newest_front at zero l = absurd (omega arith)
  newest_front at (suc m) l = rw (sub-one (suc m))

  pub newest_here : (at m : ℕ) (f : Option (ℕ × ℕ)) (node back : ℕ) → 0 < m → f ≡ leaf_gone h a i bar at → f ≡ Some (node, back)
      → newest_gone h a i bar at m ≡ Some (node, back)
  unfolding first_found
  newest_here at m f node back l e g = newest_front at m l ∙ rw (← e, g)

  pub newest_further : (at m : ℕ) (f : Option (ℕ × ℕ)) → 0 < m → f ≡ leaf_gone h a i bar at → f ≡ None
      → newest_gone h a i bar at m ≡ newest_gone h a i bar (at + 1) (m - 1)
  unfolding first_found
  newest_further at m f l e g = newest_front at m l ∙ rw (← e, g)

  pub newest_last : (at m : ℕ) → m ≤ 0 → newest_gone h a i bar at m ≡ leaf_gone h a i bar at
  unfolding newest_gone
  newest_last at zero l = refl
  newest_last at (suc m) l = absurd (omega arith)
