-- The digits that are kept: to nearest, ties to even, and the pattern that they make. Assumes nothing.
use Rattle.words.specs.Prelude.{◌≡◌, refl, sym, ap, subst, ◌∙◌, true, false, not, ◌⊎◌, inl, inr, List, ℕ, suc, ◌+◌, ◌-◌, ◌*◌, ◌/◌, ◌%◌, ◌^◌}
use Rattle.words.specs.Prelude.{◌≤◌, ◌<◌, min, compare, Ordering, Ordering·lt, Ordering·eq, Ordering·gt, mod-lt}
use Rattle.words.specs.Prelude.{zero-mul, lt_of_lt_of_le, le_of_eq, le_trans}
use Rattle.words.specs.Prelude.{pow-succ', one-mul, eq-zero-or-pos}
use Rattle.words.specs.Prelude.{zero-add, mul-div_cancel, mul-mod_left, le-div_iff_mul-le, arith, add-one, one-add, length, get_or, drop, pow-add, pow_pos}
use Rattle.words.specs.Prelude.{pow_mono, mod-pow-add, lt_of_le-ne, T, is_le, compare_is_eq, eqb, leb→le, nleb→lt, eqb→eq, eqb_refl}
use Rattle.words.specs.Prelude.{nearest, size, binary64, round, to_bits, size-lt, size-le, size_reaches}
use Rattle.words.specs.Prelude.{nearest-le, kept-lt, closest, closest_same, nearest-ge}
use Rattle.totals.specs.{Number.number_of, Number.AreWords, Laws.Places.number_below, Laws.Places.place-pow}
use Rattle.totals.proofs.{Patterns.round_units, Patterns.pattern_units, Patterns.FullDigits, Reading.drop_word}

-- what `compare` says
abbrev Cmp : Ordering → ℕ → ℕ → Type 0
Cmp Ordering·lt a b = a < b
Cmp Ordering·eq a b = a ≡ b
Cmp Ordering·gt a b = b < a

cmp : (a b : ℕ) → Cmp (compare a b) a b
cmp a b = go (compare a b) (leb→le a b) (nleb→lt a b) (eqb→eq a b) (λ (e : a ≡ b). subst (λ (x : ℕ). T (eqb a x)) e (eqb_refl a))
  where
    go : (o : Ordering) → (T (is_le o) → a ≤ b) → (T (not (is_le o)) → b < a) → (T (compare_is_eq o) → a ≡ b) → (a ≡ b → T (compare_is_eq o)) → Cmp o a b
    go Ordering·lt h k e n = lt_of_le-ne (h tt) n
    go Ordering·eq h k e n = e tt
    go Ordering·gt h k e n = k tt

-- the first digit that is dropped is 0: down
pub round_down : (n j : ℕ) → n / 2 ^ j % 2 ≡ 0 → closest n (2 ^ suc j) ≡ n / 2 ^ suc j
round_down n j e = go (compare (n % 2 ^ suc j * 2) (2 ^ suc j)) (cmp (n % 2 ^ suc j * 2) (2 ^ suc j))
  where
    rest : n % 2 ^ suc j * 2 < 2 ^ suc j
    rest =
        let parts : n % 2 ^ suc j ≡ n / 2 ^ j % 2 * 2 ^ j + n % 2 ^ j = ap (λ (z : ℕ). n % 2 ^ z) (sym (one-add j)) ∙ mod-pow-add n 1 j in
        let none : n / 2 ^ j % 2 * 2 ^ j ≡ 0 = ap (λ (z : ℕ). z * 2 ^ j) e ∙ zero-mul (2 ^ j) in
        let low : n % 2 ^ j < 2 ^ j = mod-lt n (pow_pos j) in
        let twice : 2 ^ suc j ≡ 2 * 2 ^ j = pow-succ' 2 j in
        omega arith

    go : (o : Ordering) → Cmp o (n % 2 ^ suc j * 2) (2 ^ suc j) → nearest (n / 2 ^ suc j) o ≡ n / 2 ^ suc j
    go Ordering·lt c = refl
    go Ordering·eq c = absurd (never _ _ c rest)
      where
        never : (a b : ℕ) → a ≡ b → a < b → ⊥
        never a b p q = omega arith
    go Ordering·gt c = absurd (never _ _ c rest)
      where
        never : (a b : ℕ) → b < a → a < b → ⊥
        never a b p q = omega arith

one_is : (n j : ℕ) → n / 2 ^ j % 2 ≡ 1 → n % 2 ^ suc j * 2 ≡ 2 ^ suc j + n % 2 ^ j * 2
one_is n j e =
    let parts : n % 2 ^ suc j ≡ n / 2 ^ j % 2 * 2 ^ j + n % 2 ^ j = ap (λ (z : ℕ). n % 2 ^ z) (sym (one-add j)) ∙ mod-pow-add n 1 j in
    let one : n / 2 ^ j % 2 * 2 ^ j ≡ 2 ^ j = ap (λ (z : ℕ). z * 2 ^ j) e ∙ one-mul (2 ^ j) in
    let twice : 2 ^ suc j ≡ 2 * 2 ^ j = pow-succ' 2 j in
    omega arith

-- it is 1 and all others are 0: to the even one
pub round_even : (n j : ℕ) → n / 2 ^ j % 2 ≡ 1 → n % 2 ^ j ≡ 0 → closest n (2 ^ suc j) ≡ n / 2 ^ suc j + n / 2 ^ suc j % 2
round_even n j e f = go (compare (n % 2 ^ suc j * 2) (2 ^ suc j)) (cmp (n % 2 ^ suc j * 2) (2 ^ suc j))
  where
    same : n % 2 ^ suc j * 2 ≡ 2 ^ suc j
    same = let all = one_is n j e in omega arith

    go : (o : Ordering) → Cmp o (n % 2 ^ suc j * 2) (2 ^ suc j) → nearest (n / 2 ^ suc j) o ≡ n / 2 ^ suc j + n / 2 ^ suc j % 2
    go Ordering·lt c = absurd (never _ _ c same)
      where
        never : (a b : ℕ) → a < b → a ≡ b → ⊥
        never a b p q = omega arith
    go Ordering·eq c = refl
    go Ordering·gt c = absurd (never _ _ c same)
      where
        never : (a b : ℕ) → b < a → a ≡ b → ⊥
        never a b p q = omega arith

-- .. and some are not: up
pub round_up : (n j : ℕ) → n / 2 ^ j % 2 ≡ 1 → 0 < n % 2 ^ j → closest n (2 ^ suc j) ≡ n / 2 ^ suc j + 1
round_up n j e f = go (compare (n % 2 ^ suc j * 2) (2 ^ suc j)) (cmp (n % 2 ^ suc j * 2) (2 ^ suc j))
  where
    over : 2 ^ suc j < n % 2 ^ suc j * 2
    over = let all = one_is n j e in omega arith

    go : (o : Ordering) → Cmp o (n % 2 ^ suc j * 2) (2 ^ suc j) → nearest (n / 2 ^ suc j) o ≡ n / 2 ^ suc j + 1
    go Ordering·lt c = absurd (never _ _ c over)
      where
        never : (a b : ℕ) → a < b → b < a → ⊥
        never a b p q = omega arith
    go Ordering·eq c = absurd (never _ _ c over)
      where
        never : (a b : ℕ) → a ≡ b → b < a → ⊥
        never a b p q = omega arith
    go Ordering·gt c = sym (add-one (n / 2 ^ suc j))

-- ---- of a number of 34 words

pub size_most : (ws : List ℕ) → AreWords ws → length ws ≤ 34 → size (number_of ws) ≤ 2176
size_most ws words h =
    size-le (number_of ws) 2176
    (lt_of_lt_of_le (number_below ws words) (le_trans (le_of_eq (place-pow (length ws))) (pow_mono (most (length ws) h))))
  where
    most : (n : ℕ) → n ≤ 34 → 64 * n ≤ 2176
    most n l = omega arith

-- 53 digits or fewer are the number itself, and lie in the first word
pub nearest_small : (ws : List ℕ) → size (number_of ws) ≤ 53 → get_or ws 0 0 ≡ to_bits binary64 (round binary64 false (number_of ws) (2 ^ 1074))
nearest_small ws few =
    let n = number_of ws in
    let none : size n - 53 ≡ 0 = omega arith in
    let below : n < 2 ^ 53 = lt_of_lt_of_le (size-lt n) (pow_mono few) in
    let one : closest n (2 ^ (size n - 53)) ≡ n = ap (λ (z : ℕ). closest n (2 ^ z)) none ∙ closest_one n in
    first (get_or ws 0 0) n (number_of (drop 1 ws)) below (drop_word ws 0)
    ∙ sym (ap (to_bits binary64) (round_units false n) ∙ pattern_units false _ _ (at_most _ n one below) (inr none)
    ∙ ap (λ (z : ℕ). 0 + min (z * 2 ^ 52 + closest n (2 ^ (size n - 53))) 0x7ff0_0000_0000_0000) none
    ∙ ap (λ (z : ℕ). 0 + min (0 * 2 ^ 52 + z) 0x7ff0_0000_0000_0000) one ∙ last n below)
  where
    closest_one : (n : ℕ) → closest n 1 ≡ n
    closest_one n = closest_same n 1 (n * 2) 2 (omega arith) (omega arith) (omega arith) ∙ even n
      where
        even : (x : ℕ) → closest (x * 2) 2 ≡ x
        even x = ap (λ (z : ℕ). nearest z (compare (x * 2 % 2 * 2) 2)) (mul-div_cancel x (omega arith))
            ∙ ap (λ (z : ℕ). nearest x (compare (z * 2) 2)) (mul-mod_left x 2)

    first : (w n h : ℕ) → n < 2 ^ 53 → n ≡ w + 2 ^ 64 * h → w ≡ n
    first w n h l e = omega arith

    at_most : (q n : ℕ) → q ≡ n → n < 2 ^ 53 → q ≤ 2 ^ 53
    at_most q n e l = omega arith

    last : (n : ℕ) → n < 2 ^ 53 → 0 + min (0 * 2 ^ 52 + n) 0x7ff0_0000_0000_0000 ≡ n
    last n l = omega arith

-- 54 or more are rounded
pub kept_most : (n : ℕ) → closest n (2 ^ (size n - 53)) ≤ 2 ^ 53
kept_most n =
    let u = 2 ^ (size n - 53) in
    le_trans (nearest-le (n / u) (compare (n % u * 2) u)) (kept-lt 53 n)

pub nearest_large : (n : ℕ) → 53 < size n
    → to_bits binary64 (round binary64 false n (2 ^ 1074)) ≡ min ((size n - 53) * 2 ^ 52 + closest n (2 ^ (size n - 53))) 0x7ff0_0000_0000_0000
nearest_large n many =
    let k = size n - 53 in
    let least : 2 ^ (52 + k) ≤ n = size_reaches n (52 + k) (under (size n) many) in
    let some : 2 ^ 52 ≤ n / 2 ^ k = (le-div_iff_mul-le (pow_pos k)).1 (le_trans (le_of_eq (sym (pow-add 2 52 k))) least) in
    ap (to_bits binary64) (round_units false n) ∙ pattern_units false _ k (kept_most n) (inl (le_trans some (nearest-ge (n / 2 ^ k) (compare (n % 2 ^ k * 2)
    (2 ^ k)))))
    ∙ zero-add _
  where
    under : (x : ℕ) → 53 < x → 52 + (x - 53) < x
    under x l = omega arith

-- digits can be kept, whatever the number
pub kept_fits : (n : ℕ) → FullDigits (closest n (2 ^ (size n - 53))) (size n - 53)
kept_fits n = go (eq-zero-or-pos (size n - 53))
  where
    go : (size n - 53 ≡ 0) ⊎ (0 < size n - 53) → FullDigits (closest n (2 ^ (size n - 53))) (size n - 53)
    go (inl e) = inr e
    go (inr p) =
        let least : 2 ^ (52 + (size n - 53)) ≤ n = size_reaches n (52 + (size n - 53)) (under (size n) p) in
        let some : 2 ^ 52 ≤ n / 2 ^ (size n - 53) = (le-div_iff_mul-le (pow_pos (size n - 53))).1 (le_trans (le_of_eq (sym (pow-add 2 52
        (size n - 53)))) least) in
        inl (le_trans some (nearest-ge (n / 2 ^ (size n - 53)) (compare (n % 2 ^ (size n - 53) * 2) (2 ^ (size n - 53)))))
      where
        under : (x : ℕ) → 0 < x - 53 → 52 + (x - 53) < x
        under x l = omega arith

-- A negative number's pattern is that of its size, with the sign.
pub pattern_sign : (n : ℕ) → to_bits binary64 (round binary64 true n (2 ^ 1074)) ≡ 2 ^ 63 + to_bits binary64 (round binary64 false n (2 ^ 1074))
pattern_sign n =
    ap (to_bits binary64) (round_units true n) ∙ pattern_units true _ _ (kept_most n) (kept_fits n)
    ∙ ap (λ (z : ℕ). 2 ^ 63 + z) (sym (ap (to_bits binary64) (round_units false n) ∙ pattern_units false _ _ (kept_most n) (kept_fits n) ∙ zero-add _))
