-- "missing if any is missing", and only then. Assumes nothing.
use Rattle.std.specs.Prelude.{ℕ, zero, suc, ◌+◌, ◌-◌, ◌≤◌, ◌<◌, ◌≡◌, refl, Bool, true, false, ltb, Float, None, Option, Some}
use Rattle.words.specs.Prelude.{sym, ap, ◌∙◌, arith, ltb-true, ltb-false}
use Rattle.rows.specs.{History.History}
use Rattle.table.specs.{declared.series.Series.Series, Trees.extreme}
use Rattle.rules.specs.{Values.pick}
use Rattle.rules.specs.{Meaning.series_at, Meaning.extreme_over, Meaning.value, Laws.Meaning.any_missing, Laws.Meaning.extreme_early}
use Rattle.rules.specs.{Laws.Meaning.extreme_late, Laws.Meaning.extreme_value}

-- Of n bars up to bar i one is missing: there are not so many, or one of them, bar j from the oldest on, is.
pub data SomeMissing (h : History) (s : Series) (n i : ℕ) : Type 0 where
  too_few : i < n - 1 → SomeMissing h s n i
  bar : (j : ℕ) → n - 1 ≤ i → j ≤ n - 1 → series_at h s (i - (n - 1) + j) ≡ None → SomeMissing h s n i

-- a bar that is missing, of those from `oldest` to m bars after it
record OneOf (h : History) (s : Series) (oldest m : ℕ) : Type 0 where
  j : ℕ
  near : j ≤ m
  gone : series_at h s (oldest + j) ≡ None

found : (h : History) (kind : ℕ) (s : Series) (oldest m : ℕ) → extreme_over h kind s oldest m ≡ None → OneOf h s oldest m
unfolding extreme_over pick
found h kind s oldest zero e =
    let here : oldest + 0 ≡ oldest = omega arith in
    record { j = 0; near = omega arith; gone = ap (series_at h s) here ∙ e }
found h kind s oldest (suc m) e = go (found h kind s oldest m) (extreme_over h kind s oldest m) (series_at h s (oldest + suc m)) refl refl e
  where
    go : (extreme_over h kind s oldest m ≡ None → OneOf h s oldest m) → (best later : Option Float) → extreme_over h kind s oldest m ≡ best
        → series_at h s (oldest + suc m) ≡ later → pick kind best later ≡ None → OneOf h s oldest (suc m)
    go before None later p q e = let one = before p in record { j = one.j; near = omega (arith, one.near); gone = one.gone }
    go before (Some x) None p q e = record { j = suc m; near = omega arith; gone = q }
    go before (Some x) (Some y) p q e = absurd (let z : ◌≡◌ {A = ℕ} 0 1 = cc in omega arith)

-- MISSING IF ANY IS
pub missing_if : (h : History) (kind : ℕ) (s : Series) (n i : ℕ) → SomeMissing h s n i → value h (extreme kind s n) i ≡ None
missing_if h kind s n i (too_few l) = extreme_value h kind s n i ∙ extreme_early h kind s n i l
missing_if h kind s n i (bar j l near e) =
    extreme_value h kind s n i ∙ extreme_late h kind s n i l ∙ any_missing h kind s (i - (n - 1)) (n - 1) j near e

-- AND ONLY THEN
pub missing_only_if : (h : History) (kind : ℕ) (s : Series) (n i : ℕ) → value h (extreme kind s n) i ≡ None → SomeMissing h s n i
missing_only_if h kind s n i e = go (ltb i (n - 1)) refl
  where
    go : (b : Bool) → ltb i (n - 1) ≡ b → SomeMissing h s n i
    go true early = too_few (ltb-true i (n - 1) early)
    go false late =
        let l = ltb-false i (n - 1) late in
        let one = found h kind s (i - (n - 1)) (n - 1) (sym (extreme_value h kind s n i ∙ extreme_late h kind s n i l) ∙ e) in
        bar one.j l one.near one.gone
