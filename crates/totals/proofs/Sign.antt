-- The sign of a number in two's complement, and its size. Assumes nothing.
use Rattle.words.specs.Prelude.{◌≡◌, refl, sym, ap, ◌∙◌, true, false, List, ℕ, suc, ◌+◌, ◌-◌, ◌*◌, ◌%◌, ◌^◌, ◌≤◌, ◌<◌}
use Rattle.words.specs.Prelude.{mod-eq_of_lt, mul-le-mul_right, add-mul, le_of_eq, zero-add, le_trans, arith, lt-ltb, le-ltb, length, get_or, take, drop}
use Rattle.words.specs.Prelude.{drop_of_length-le, pos, negsuc, binary64, round, to_bits}
use Rattle.totals.specs.{Number.place, Number.number_of, Number.shifted, Number.AreWords, Exact.signed, Exact.nearest_to}
use Rattle.totals.specs.{Laws.Places.place_some}
use Rattle.totals.proofs.{Patterns.round_units, Patterns.pattern_units, Reading.number_split, Reading.take_below, Reading.drop_word, Rounding.kept_most}
use Rattle.totals.proofs.{Rounding.kept_fits, Rounding.pattern_sign}
use native.Mathlib.Nat.{min-le_right}

module _ (ws : List ℕ) (words : AreWords ws) (n : ℕ) (size : length ws ≡ suc n) where
  -- the last word, and those below it
  parts : number_of ws ≡ get_or ws n 0 * place n + number_of (take n ws)
  unfolding number_of
  parts =
      let none : number_of (drop (suc n) ws) ≡ 0 = ap number_of (drop_of_length-le ws (le_of_eq size)) in
      let last : number_of (drop n ws) ≡ get_or ws n 0 = drop_word ws n ∙ ap (λ (z : ℕ). get_or ws n 0 + 2 ^ 64 * z) none ∙ only (get_or ws n 0) in
      number_split ws n ∙ ap (λ (z : ℕ). z * place n + number_of (take n ws)) last
    where
      only : (x : ℕ) → x + 2 ^ 64 * 0 ≡ x
      only x = omega arith

  pub not_negative : get_or ws n 0 < 2 ^ 63 → signed (place (suc n)) (number_of ws) ≡ pos (number_of ws)
  unfolding signed place
  not_negative h =
      let low = take_below ws n words in
      let next : (get_or ws n 0 + 1) * place n ≡ get_or ws n 0 * place n + 1 * place n = add-mul (get_or ws n 0) 1 (place n) in
      let most : (get_or ws n 0 + 1) * place n ≤ 2 ^ 63 * place n = mul-le-mul_right (place n) (up (get_or ws n 0) h) in
      let half : number_of ws + number_of ws < 2 ^ 64 * place n = omega (arith, parts) in
      rw (lt-ltb _ _ half) refl
    where
      up : (x : ℕ) → x < 2 ^ 63 → x + 1 ≤ 2 ^ 63
      up x l = omega arith

  pub negative : 2 ^ 63 ≤ get_or ws n 0 → signed (place (suc n)) (number_of ws) ≡ negsuc (place (suc n) - 1 - number_of ws)
  unfolding signed place
  negative h =
      let least : 2 ^ 63 * place n ≤ get_or ws n 0 * place n = mul-le-mul_right (place n) h in
      let half : 2 ^ 64 * place n ≤ number_of ws + number_of ws = omega (arith, parts) in
      rw (le-ltb _ _ half) refl

  pub some_of_negative : 2 ^ 63 ≤ get_or ws n 0 → 0 < number_of ws
  some_of_negative h =
      let least : 2 ^ 63 * place n ≤ get_or ws n 0 * place n = mul-le-mul_right (place n) h in
      let one : 0 < place n = place_some n in
      omega (arith, parts)

-- 0 less a number, in two's complement
pub negated : (m x : ℕ) → 0 < x → x < m → shifted true m 0 x ≡ m - x
unfolding shifted
negated m x p h =
    let small : x % m ≡ x = mod-eq_of_lt h in
    ap (λ (z : ℕ). (0 + (m - z)) % m) small ∙ ap (λ (z : ℕ). z % m) (zero-add (m - x)) ∙ mod-eq_of_lt (omega arith)

-- no number is above an infinity
pub pattern_most : (n : ℕ) → to_bits binary64 (round binary64 false n (2 ^ 1074)) ≤ 0x7ff0_0000_0000_0000
pattern_most n =
    le_trans (le_of_eq (ap (to_bits binary64) (round_units false n) ∙ pattern_units false _ _ (kept_most n) (kept_fits n) ∙ zero-add _)) (min-le_right _ _)

-- the pattern of a negative sum, from its size
pub nearest_negative : (m x : ℕ) → 0 < x → x < m
    → 2 ^ 63 + to_bits binary64 (round binary64 false (m - x) (2 ^ 1074)) ≡ to_bits binary64 (nearest_to (negsuc (m - 1 - x)))
unfolding nearest_to
nearest_negative m x p h =
    sym (pattern_sign (m - x)) ∙ ap (λ (z : ℕ). to_bits binary64 (round binary64 true z (2 ^ 1074))) (up m x h)
  where
    up : (a b : ℕ) → b < a → a - b ≡ suc (a - 1 - b)
    up a b l = omega arith
