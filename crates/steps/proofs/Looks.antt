-- The best over rows one after the other; and rows that are passed over, which leave it as it was.
use Rattle.std.specs.Prelude.{Option, Some}
use Rattle.words.specs.Prelude.{ℕ, zero, suc, ◌+◌, ◌-◌, ◌*◌, ◌<◌, ◌≤◌, ◌≡◌, sym, ◌∙◌, Bool, true, false, true≢false, ⊎_elim, List, arith, add-mul, Float}
use Rattle.words.specs.Prelude.{add-one, length, eq-eqb, ne_eqb, lt-ltb, le-ltb}
use Rattle.words.specs.{Laws.Numbers.less_or_not}
use Rattle.floats.specs.{Floats.◌≺◌}
use Rattle.rows.specs.{History.history_of, Ring.ring_place, Ring.ring_of, Laws.RowEnds.row_ends}
use Rattle.table.specs.{declared.series.Series.Series, declared.series.Series.TheVariants.Price, declared.series.Series.TheVariants.Slot}
use Rattle.rules.specs.{Values.words_from, Values.better, Values.took, Values.pick}
use Rattle.rules.specs.{Meaning.series_at, Meaning.extreme_over, Laws.Meaning.extreme_more}
use Rattle.steps.specs.{Looks.of_row, Looks.place_of, Looks.InRow, Looks.best_after, Looks.PassedOver, Looks.Stopped}
use Rattle.steps.proofs.{Rows.price_in, Rows.slot_in}

-- ---- one row more

-- a word that a row has stands in it
pub place_in : (slots : ℕ) (slot : Bool) (which : ℕ) → InRow slots slot which → place_of slot which < 7 + slots
place_in slots true k has = omega (arith, has.0)
place_in slots false p has = omega (arith, has)

-- where it begins
pub next_row : (base at k m w : ℕ) → at ≡ base + k * w → m ≡ k + 1 → at + w ≡ base + m * w
next_row base at k m w is more = rw (is, more, add-mul k 1 w) (omega arith)

module _ (kind : ℕ) (over : Series) (ws : List ℕ) (slots base : ℕ) (start : Option Float) where
  -- the definition, with + 1 for suc
  best_more : (k : ℕ) → best_after kind over ws slots base start (k + 1)
      ≡ pick kind (best_after kind over ws slots base start k) (of_row over (words_from ws (base + k * (7 + slots))))
  unfolding best_after
  best_more k = rw (add-one k)

  -- what it has takes the place of the best, or leaves it
  pub best_next : (k m : ℕ) (best x next : Float) → m ≡ k + 1 → Some best ≡ best_after kind over ws slots base start k
      → of_row over (words_from ws (base + k * (7 + slots))) ≡ Some x → took kind best x ≡ next → Some next ≡ best_after kind over ws slots base start m
  unfolding pick
  best_next k m best x next more so_far has takes = rw (more, best_more k, ← so_far, has, takes)

-- ---- a row that is no better

module _ (kind : ℕ) (best x : Float) where
  pub not_higher : kind ≡ 9 → (best ≺ x) ≡ false → pick kind (Some best) (Some x) ≡ Some best
  unfolding pick took better
  not_higher is worse = rw (eq-eqb kind 9 is, worse)

  pub not_lower : (kind ≡ 9 → ⊥) → (x ≺ best) ≡ false → pick kind (Some best) (Some x) ≡ Some best
  unfolding pick took better
  not_lower is worse = rw (ne_eqb kind 9 is, worse)

-- one row more
pub passed_more : (kind : ℕ) (over : Series) (ws : List ℕ) (slots base : ℕ) (best : Float) (k : ℕ) → PassedOver kind over ws slots base best k
    → pick kind (Some best) (of_row over (words_from ws (base + k * (7 + slots)))) ≡ Some best → PassedOver kind over ws slots base best (k + 1)
passed_more kind over ws slots base best k before this i l =
    ⊎_elim (λ (near : i < k). before i near) (λ (far : k ≤ i). let here : i ≡ k = omega arith in rw here this) (less_or_not i k)

-- where it stopped
module _ (over : Series) (ws : List ℕ) (slots base count m : ℕ) (later : Option Float) where
  pub no_more : (row : Bool) → Stopped over ws slots base count m row later → m ≤ count
  no_more true s = omega (arith, s.0)
  no_more false s = omega (arith, s)

  pub at_row : (row : Bool) → row ≡ true → Stopped over ws slots base count m row later
      → (m < count) × (later ≡ of_row over (words_from ws (base + m * (7 + slots))))
  at_row true e s = s
  at_row false e s = absurd (true≢false (sym e))

  pub at_end : (row : Bool) → row ≡ false → Stopped over ws slots base count m row later → m ≡ count
  at_end true e s = absurd (true≢false e)
  at_end false e s = s

-- ---- where they stand

module _ (held first : ℕ) where
  near_place : (i : ℕ) → i < held → first + i < held → ring_place held first i ≡ first + i
  unfolding ring_place
  near_place i l m = rw (lt-ltb i held l, lt-ltb (first + i) held m)

  far_place : (i : ℕ) → i < held → held ≤ first + i → ring_place held first i ≡ first + i - held
  unfolding ring_place
  far_place i l m = rw (lt-ltb i held l, le-ltb (first + i) held m)

  -- the row m rows after row i, where the words do not end between them
  place_after : (i m : ℕ) → i + m < held → ring_place held first i + m < held → ring_place held first (i + m) ≡ ring_place held first i + m
  place_after i m l ends =
      ⊎_elim
      (λ (near : first + i < held).
      let here = near_place i (omega arith) near in
      near_place (i + m) l (omega (arith, here, ends)) ∙ omega (arith, here))
      (λ (far : held ≤ first + i).
      let here = far_place i (omega arith) far in
      far_place (i + m) l (omega arith) ∙ omega (arith, here))
      (less_or_not (first + i) held)

module _ (K first : ℕ) (ws : List ℕ) (held : ℕ) (is : held ≡ (history_of K ws).rows) (fits : first ≤ held) where
  pub series_there : (over : Series) (i : ℕ) → i < held
      → series_at (ring_of K first ws) over i ≡ of_row over (words_from ws (ring_place held first i * (7 + K)))
  series_there (Price p) i l = price_in K first ws held 0 is fits p i l
  series_there (Slot k) i l = slot_in K first ws held 0 is fits k i l

  -- rows one after the other end by the words' end
  pub rows_end : (row count m : ℕ) → count ≡ m + 1 → row + m < held → row * (7 + K) + count * (7 + K) ≤ length ws
  rows_end row count m e l = rw e (omega (arith, row_ends K ws (row + m) (rw is at l)))

  -- what the m-th row behind row i + 1 has, where the words do not end between them
  pub series_after : (over : Series) (i m : ℕ) → i + m + 1 < held → ring_place held first (i + 1) + m < held
      → series_at (ring_of K first ws) over (i + m + 1) ≡ of_row over (words_from ws (ring_place held first (i + 1) * (7 + K) + m * (7 + K)))
  series_after over i m l ends =
      let here : i + m + 1 ≡ i + 1 + m = omega arith in
      rw (
        series_there over (i + m + 1) l,
        here,
        place_after held first (i + 1) m (omega arith) ends,
        add-mul (ring_place held first (i + 1)) m (7 + K),
      )

  -- the best over so many rows more
  pub best_on : (kind : ℕ) (over : Series) (best : Option Float) (oldest i m : ℕ) → oldest ≤ i → i + m < held → ring_place held first (i + 1) + m ≤ held
      → best ≡ extreme_over (ring_of K first ws) kind over oldest (i - oldest)
      → best_after kind over ws K (ring_place held first (i + 1) * (7 + K)) best m ≡ extreme_over (ring_of K first ws) kind over oldest (i + m - oldest)
  unfolding best_after
  best_on kind over best oldest i zero le l ends so_far = let none : i + 0 ≡ i = omega arith in rw none so_far
  best_on kind over best oldest i (suc m) le l ends so_far =
      let before = best_on kind over best oldest i m le (omega arith) (omega arith) so_far in
      let next : i + suc m ≡ i + m + 1 = omega arith in
      rw (
        next,
        extreme_more (ring_of K first ws) kind over oldest (i + m) (omega arith),
        ← before,
        series_after over i m (omega arith) (omega arith),
      )

  -- the best stays the best over the rows that are passed
  pub passed_on : (kind : ℕ) (over : Series) (best : Float) (oldest i m : ℕ) → oldest ≤ i → i + m < held → ring_place held first (i + 1) + m ≤ held
      → PassedOver kind over ws K (ring_place held first (i + 1) * (7 + K)) best m
      → Some best ≡ extreme_over (ring_of K first ws) kind over oldest (i - oldest)
      → Some best ≡ extreme_over (ring_of K first ws) kind over oldest (i + m - oldest)
  passed_on kind over best oldest i zero le l ends passed so_far = let none : i + 0 ≡ i = omega arith in rw none so_far
  passed_on kind over best oldest i (suc m) le l ends passed so_far =
      let before = passed_on kind over best oldest i m le (omega arith) (omega arith) (λ k near. passed k (omega arith)) so_far in
      let next : i + suc m ≡ i + m + 1 = omega arith in
      rw (
        next,
        extreme_more (ring_of K first ws) kind over oldest (i + m) (omega arith),
        ← before,
        series_after over i m (omega arith) (omega arith),
      ) (sym (passed m (omega arith)))
