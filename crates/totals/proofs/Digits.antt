-- The digits of a float, moved to their place, lie in two words at the most. Assumes nothing.
use Rattle.words.specs.Prelude.{◌≡◌, refl, sym, ap, ◌∙◌, List, [], ◌∷◌, ℕ, zero, suc, ◌+◌, ◌-◌, ◌*◌, ◌/◌, ◌%◌, ◌^◌, ◌<◌, mul_assoc, mul_left_comm}
use Rattle.words.specs.Prelude.{div-div-eq-div-mul, mod-lt, zero-mul, arith, get_or, take, pow-add, pow_pos}
use Rattle.floats.specs.{Root.units_of}
use Rattle.totals.specs.{Number.place, Number.number_of, Laws.Places.place-pow}
use native.Mathlib.Nat.{mul-div-mul_right}

-- m moved up by s places: its lower word, and what goes over into the next
pub two_words : (m s : ℕ) → s < 64 → (m * 2 ^ s) % 2 ^ 64 + 2 ^ 64 * (m / 2 / 2 ^ (63 - s)) ≡ m * 2 ^ s
two_words m s h =
    let up : m / 2 / 2 ^ (63 - s) ≡ m / (2 * 2 ^ (63 - s)) = div-div-eq-div-mul m 2 (2 ^ (63 - s)) in
    let pow : 2 * 2 ^ (63 - s) ≡ 2 ^ (64 - s) = sym (pow-add 2 1 (63 - s)) ∙ ap (λ (z : ℕ). 2 ^ z) (one s h) in
    let all : 2 ^ (64 - s) * 2 ^ s ≡ 2 ^ 64 = sym (pow-add 2 (64 - s) s) ∙ ap (λ (z : ℕ). 2 ^ z) (two s h) in
    let over : m * 2 ^ s / (2 ^ (64 - s) * 2 ^ s) ≡ m / 2 ^ (64 - s) = mul-div-mul_right m (2 ^ (64 - s)) (pow_pos s) in
    let same : m / 2 / 2 ^ (63 - s) ≡ m * 2 ^ s / 2 ^ 64 = up ∙ ap (λ (z : ℕ). m / z) pow ∙ sym over ∙ ap (λ (z : ℕ). m * 2 ^ s / z) all in
    ap (λ (z : ℕ). (m * 2 ^ s) % 2 ^ 64 + 2 ^ 64 * z) same ∙ join (m * 2 ^ s)
  where
    one : (x : ℕ) → x < 64 → 1 + (63 - x) ≡ 64 - x
    one x l = omega arith

    two : (x : ℕ) → x < 64 → 64 - x + x ≡ 64
    two x l = omega arith

    join : (x : ℕ) → x % 2 ^ 64 + 2 ^ 64 * (x / 2 ^ 64) ≡ x
    join x = omega arith

-- .. at the place of word k / 64
pub at_place : (m k : ℕ) → ((m * 2 ^ (k % 64)) % 2 ^ 64 + 2 ^ 64 * (m / 2 / 2 ^ (63 - k % 64))) * place (k / 64) ≡ m * 2 ^ k
at_place m k =
    ap (λ (z : ℕ). z * place (k / 64)) (two_words m (k % 64) (mod-lt k (some tt)))
    ∙ ap (λ (z : ℕ). m * 2 ^ (k % 64) * z) (place-pow (k / 64)) ∙ mul_assoc m (2 ^ (k % 64)) (2 ^ (64 * (k / 64)))
    ∙ ap (λ (z : ℕ). m * z) (sym (pow-add 2 (k % 64) (64 * (k / 64))) ∙ ap (λ (z : ℕ). 2 ^ z) (parts k))
  where
    some : Unit {0} → 0 < 64
    some u = omega arith

    parts : (x : ℕ) → x % 64 + 64 * (x / 64) ≡ x
    parts x = omega arith

-- a pattern's units, by the code's branches
pub units_small : (b : ℕ) → b / 2 ^ 52 ≡ 0 → (b % 2 ^ 52 + 2 ^ 64 * 0) * place 0 ≡ units_of b
unfolding units_of place
units_small b e = rw e (omega arith)

pub units_large : (b k : ℕ) → b / 2 ^ 52 ≡ suc k → (2 ^ 52 + b % 2 ^ 52) * 2 ^ k ≡ units_of b
unfolding units_of
units_large b k e = rw e refl

pub number_take : (ws : List ℕ) (i : ℕ) → number_of (take (suc i) ws) ≡ number_of (take i ws) + get_or ws i 0 * place i
unfolding number_of place
number_take [] zero = omega arith
number_take [] (suc i) = omega (arith, zero-mul (2 ^ 64 * place i))
number_take (w ∷ ws) zero = omega arith
number_take (w ∷ ws) (suc i) =
    let rest = number_take ws i in
    let over : get_or ws i 0 * (2 ^ 64 * place i) ≡ 2 ^ 64 * (get_or ws i 0 * place i) = mul_left_comm (get_or ws i 0) (2 ^ 64) (place i) in
    omega arith
