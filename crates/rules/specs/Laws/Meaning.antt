-- Laws of the meaning of operands and conditions, for the proofs that cite it. Assumes nothing.
use Rattle.std.specs.Prelude.{ℕ, zero, suc, ◌+◌, ◌-◌, ◌*◌, ◌≤◌, ◌<◌, ◌≡◌, refl, Bool, true, false, cond, ltb, eqb, Float, None, Option, Some}
use Rattle.words.specs.Prelude.{sym, ap, ◌∙◌, arith, le_refl, sub-zero}
use Rattle.words.specs.Prelude.{nan, inf, fin, lt-ltb, le-ltb, ltb-true, ltb-false}
use Rattle.floats.specs.{Floats.◌≺◌, Floats.float_of}
use Rattle.rows.specs.{History.History}
use Rattle.table.specs.{declared.series.Series.Series, declared.series.Series.TheVariants.Price, declared.series.Series.TheVariants.Slot, Trees.Operand}
use Rattle.table.specs.{Trees.const, Trees.ref, Trees.price, Trees.prev, Trees.arith as sums, Trees.extreme, Trees.trend}
use Rattle.rules.specs.{declared.position.PositionState.PositionState, Values.price_of, Values.slot_of, Values.combined, Values.took, Values.pick}
use Rattle.rules.specs.{Values.tested, Values.compared, Values.trended, Laws.Missing.either_way, Meaning.there, Meaning.series_at, Meaning.extreme_over}
use Rattle.rules.specs.{Meaning.extreme_at, Meaning.value, Meaning.holds}
use Rattle.std.specs.Float.Ieee as Ieee

-- What is asked of a row that is there, and of one that is not.
module _ (h : History) (i : ℕ) (v : Option Float) where
  pub row_there : i < h.rows → there h i v ≡ v
  unfolding there
  row_there l = rw (lt-ltb i h.rows l)

  pub row_missing : h.rows ≤ i → there h i v ≡ None
  unfolding there
  row_missing l = rw (le-ltb i h.rows l)

pub series_past : (h : History) (s : Series) (i : ℕ) → h.rows ≤ i → series_at h s i ≡ None
unfolding series_at
series_past h (Price selector) i l = row_missing h i (Some (price_of (h.word i) selector)) l
series_past h (Slot slot) i l = row_missing h i (slot_of (h.word i) slot) l

pick_late : (kind : ℕ) (v : Option Float) → pick kind v None ≡ None
unfolding pick
pick_late kind None = refl
pick_late kind (Some best) = refl

-- "missing if any is missing": bar j after the oldest
pub any_missing : (h : History) (kind : ℕ) (s : Series) (oldest m j : ℕ) → j ≤ m → series_at h s (oldest + j) ≡ None
    → extreme_over h kind s oldest m ≡ None
unfolding extreme_over pick
any_missing h kind s oldest zero j l e =
    let here : oldest + j ≡ oldest = omega arith in
    rw here at e
any_missing h kind s oldest (suc m) j l e = go (λ near. any_missing h kind s oldest m j near e) (ltb j (suc m)) refl
  where
    go : (j ≤ m → extreme_over h kind s oldest m ≡ None) → (b : Bool) → ltb j (suc m) ≡ b
        → pick kind (extreme_over h kind s oldest m) (series_at h s (oldest + suc m)) ≡ None
    go before true f = rw (before (omega (arith, ltb-true j (suc m) f)))
    go before false f =
        let here : j ≡ suc m = omega (arith, ltb-false j (suc m) f) in
        rw (rw here at e) (pick_late kind (extreme_over h kind s oldest m))

-- one bar; one bar more; too few bars before it; and enough
module _ (h : History) (kind : ℕ) (s : Series) where
  pub extreme_one : (oldest : ℕ) → extreme_over h kind s oldest (oldest - oldest) ≡ series_at h s oldest
  unfolding extreme_over
  extreme_one oldest =
      let none : oldest - oldest ≡ 0 = omega arith in
      rw none

  pub extreme_more : (oldest at : ℕ) → oldest ≤ at
      → extreme_over h kind s oldest (at + 1 - oldest) ≡ pick kind (extreme_over h kind s oldest (at - oldest)) (series_at h s (at + 1))
  unfolding extreme_over
  extreme_more oldest at l =
      let more : at + 1 - oldest ≡ suc (at - oldest) = omega arith in
      let last : oldest + suc (at - oldest) ≡ at + 1 = omega arith in
      rw (more, last)

  pub extreme_early : (n i : ℕ) → i < n - 1 → extreme_at h kind s n i ≡ None
  unfolding extreme_at
  extreme_early n i l = rw (lt-ltb i (n - 1) l)

  pub extreme_late : (n i : ℕ) → n - 1 ≤ i → extreme_at h kind s n i ≡ extreme_over h kind s (i - (n - 1)) (n - 1)
  unfolding extreme_at
  extreme_late n i l = rw (le-ltb i (n - 1) l)

extreme_past : (h : History) (kind : ℕ) (s : Series) (n i : ℕ) → h.rows ≤ i → extreme_at h kind s n i ≡ None
unfolding extreme_at
extreme_past h kind s n i l = go (ltb i (n - 1)) refl
  where
    go : (b : Bool) → ltb i (n - 1) ≡ b → cond b None (extreme_over h kind s (i - (n - 1)) (n - 1)) ≡ None
    go true f = refl
    go false f =
        let last : i - (n - 1) + (n - 1) ≡ i = omega (arith, ltb-false i (n - 1) f) in
        any_missing h kind s (i - (n - 1)) (n - 1) (n - 1) (le_refl (n - 1)) (ap (series_at h s) last ∙ series_past h s i l)

-- Where the row does not exist every operand is missing.
pub past : (h : History) (a : Operand) (i : ℕ) → h.rows ≤ i → value h a i ≡ None
unfolding value combined
past h (const bits) i l = row_missing h i (Some (float_of bits)) l
past h (ref slot) i l = row_missing h i (slot_of (h.word i) slot) l
past h (price selector) i l = row_missing h i (Some (price_of (h.word i) selector)) l
past h (prev a n) i l = row_missing h i _ l
past h (sums kind a b) i l = rw (past h a i l)
past h (extreme kind s n) i l = extreme_past h kind s n i l

-- Each operand at a bar whose row exists.
module _ (h : History) (i : ℕ) (l : i < h.rows) where
  pub const-value : (bits : ℕ) → value h (const bits) i ≡ Some (float_of bits)
  unfolding value
  const-value bits = row_there h i (Some (float_of bits)) l

  pub ref_value : (slot : ℕ) → value h (ref slot) i ≡ slot_of (h.word i) slot
  unfolding value
  ref_value slot = row_there h i (slot_of (h.word i) slot) l

  pub price-value : (selector : ℕ) → value h (price selector) i ≡ Some (price_of (h.word i) selector)
  unfolding value
  price-value selector = row_there h i (Some (price_of (h.word i) selector)) l

  pub early_value : (a : Operand) (n : ℕ) → i < n → value h (prev a n) i ≡ None
  unfolding value there
  early_value a n e = simp (lt-ltb i n e, lt-ltb i h.rows l)

  pub prev-value : (a : Operand) (n : ℕ) → n ≤ i → value h (prev a n) i ≡ value h a (i - n)
  unfolding value there
  prev-value a n e = simp (le-ltb i n e, lt-ltb i h.rows l)

  pub price_series : (selector : ℕ) → series_at h (Price selector) i ≡ Some (price_of (h.word i) selector)
  unfolding series_at
  price_series selector = row_there h i (Some (price_of (h.word i) selector)) l

  pub slot_series : (slot : ℕ) → series_at h (Slot slot) i ≡ slot_of (h.word i) slot
  unfolding series_at
  slot_series slot = row_there h i (slot_of (h.word i) slot) l

-- The best price so far, one bar, and one bar more, where the rows are there.
module _ (h : History) (kind selector oldest : ℕ) where
  pub price_one : oldest < h.rows → Some (price_of (h.word oldest) selector) ≡ extreme_over h kind (Price selector) oldest (oldest - oldest)
  price_one l = sym (extreme_one h kind (Price selector) oldest ∙ price_series h oldest l selector)

  pub price_more : (best : Float) (at : ℕ) → oldest ≤ at → at + 1 < h.rows
      → Some best ≡ extreme_over h kind (Price selector) oldest (at - oldest)
      → Some (took kind best (price_of (h.word (at + 1)) selector)) ≡ extreme_over h kind (Price selector) oldest (at + 1 - oldest)
  unfolding pick
  price_more best at l there so_far =
      rw (extreme_more h kind (Price selector) oldest at l, ← so_far, price_series h (at + 1) there selector)

pub extreme_value : (h : History) (kind : ℕ) (s : Series) (n i : ℕ) → value h (extreme kind s n) i ≡ extreme_at h kind s n i
unfolding value
extreme_value h kind s n i = refl

pub arith_value : (h : History) (kind : ℕ) (a b : Operand) (i : ℕ) → value h (sums kind a b) i ≡ combined kind (value h a i) (value h b i)
unfolding value
arith_value h kind a b i = refl

not-below : (n : ℕ) → ltb n n ≡ false
not-below n = le-ltb n n (le_refl n)

-- "Rising compares now > then, n bars back; n = 0 is no": no float is below itself, a NaN neither.
below_itself : (x : Float) → (x ≺ x) ≡ false
unfolding Ieee.lt
below_itself nan = refl
below_itself (inf true) = refl
below_itself (inf false) = refl
below_itself (fin true m e) = not-below (m * Ieee.up e * Ieee.down e)
below_itself (fin false m e) = not-below (m * Ieee.up e * Ieee.down e)

itself : (kind : ℕ) (v : Option Float) → trended kind v v ≡ false
unfolding trended compared tested
itself kind None = either_way (eqb kind 25) false
itself kind (Some x) = either_way (eqb kind 25) (x ≺ x) ∙ below_itself x

pub trend_now : (h : History) (s : PositionState) (kind : ℕ) (a : Operand) (i : ℕ) → holds h s (trend kind a 0) i ≡ false
unfolding holds
trend_now h s kind a i = rw (sub-zero, itself, le-ltb i 0 (omega arith))
