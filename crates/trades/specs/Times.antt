-- One times a float, and minus one times it, is as large as the float: nothing is rounded.
use Rattle.std.specs.Prelude.{ℕ, zero, suc, ◌+◌, ◌-◌, ◌*◌, ◌%◌, ◌^◌, ◌≤◌, ◌<◌, ◌≡◌, refl, Bool, true, false, ◌&&◌, T, eqb, ltb, leb, ℤ, pos, negsuc, Float}
use Rattle.words.specs.Prelude.{mul_assoc, mul_right_comm, mul-one, one-mul, mul-lt-mul_of_pos_right}
use Rattle.words.specs.Prelude.{lt_of_mul-lt-mul_right, zero-mul, mul_comm, le_of_eq, le_of_suc-le-suc, lt_of_not-le, lt_irrefl, lt_of_lt_of_le, arith}
use Rattle.words.specs.Prelude.{sym, ap, ◌∙◌, subst, true≢false, ltb→lt, leb→le, pow-add, pow_pos, pow-lt}
use Rattle.words.specs.Prelude.{pow_mono, shl_lt, nan, inf, fin, binary64, fits, round, up, down, HasValue, round_exact, and_l, and_r}
use Rattle.words.specs.Prelude.{down_pos, ltb-true, lt-ltb}
use Rattle.floats.specs.{Floats.◌⊗◌, Floats.◌≺◌, Floats.abs, Floats.eps}
use Rattle.execution.specs.{declared.level.Side.Side, declared.level.Side.TheVariants.Long, declared.level.Side.TheVariants.Short, Fills.direction}
use Rattle.std.specs.Float.Ieee as Ieee
use Rattle.std.specs.Float.Ieee.{unlike}

-- ---- a finite float is rounded to itself

-- what `fits` says of a float other than 0
record Within (m : ℕ) (e : ℤ) : Type 0 where
  digits : m < 2 ^ 53
  fine : down e ≤ 2 ^ 1074
  below : m * up e < 2 ^ 1024 * down e

within : (s : Bool) (m : ℕ) (e : ℤ) → T (fits binary64 (fin s (suc m) e)) → Within (suc m) e
unfolding fits
within s m e h =
    let a = eqb (suc m % 2) 1 in
    let b = ltb (suc m) (2 ^ 53) in
    let c = leb (down e) (2 ^ 1074) in
    let d = ltb (suc m * up e) (2 ^ 1024 * down e) in
    record {
      digits = ltb→lt _ _ (and_r a b (and_l (a && b) c (and_l (a && b && c) d h)));
      fine = leb→le _ _ (and_r (a && b) c (and_l (a && b && c) d h));
      below = ltb→lt _ _ (and_r (a && b && c) d h);
    }

power_back : (a l : ℕ) → 2 ^ a ≤ 2 ^ l → a ≤ l
power_back a l h = le_of_suc-le-suc (lt_of_not-le (λ (g : suc l ≤ a). lt_irrefl (2 ^ l) (lt_of_lt_of_le (pow-lt g) h)))

rounds_to_itself : (s : Bool) (m : ℕ) (e : ℤ) → Within m e → HasValue (round binary64 s (m * up e) (down e)) s (m * up e) (down e)
rounds_to_itself s m (pos k) w =
    let over : m * 2 ^ k * 2 ^ 1074 ≡ m * 2 ^ (k + 1074) = mul_assoc m (2 ^ k) (2 ^ 1074) ∙ ap (λ (x : ℕ). m * x) (sym (pow-add 2 k 1074)) in
    let most : m * 2 ^ k < 2 ^ 1024 = subst (λ (x : ℕ). m * 2 ^ k < x) (mul-one (2 ^ 1024)) w.below in
    round_exact binary64 s (m * 2 ^ k) 1 m (k + 1074) (pow_pos 0) w.digits
    (subst (λ (x : ℕ). x < 2 ^ 2098) over (shl_lt 1024 1074 most))
    (over ∙ sym (mul-one (m * 2 ^ (k + 1074))))
rounds_to_itself s m (negsuc k) w =
    let j = 1074 - suc k in
    let back : j + suc k ≡ 1074 = up_to k (power_back (suc k) 1074 w.fine) in
    round_exact binary64 s (m * 1) (2 ^ suc k) m j (pow_pos (suc k)) w.digits
    (lt_of_lt_of_le (shl_lt 53 j w.digits) (pow_mono (most k)))
    (ap (λ (x : ℕ). x * 2 ^ 1074) (mul-one m) ∙ ap (λ (x : ℕ). m * 2 ^ x) (sym back) ∙ ap (λ (x : ℕ). m * x) (pow-add 2 j (suc k))
    ∙ sym (mul_assoc m (2 ^ j) (2 ^ suc k)))
  where
    up_to : (k : ℕ) → suc k ≤ 1074 → 1074 - suc k + suc k ≡ 1074
    up_to k h = omega arith

    most : (k : ℕ) → 53 + (1074 - suc k) ≤ 2098
    most k = omega arith

-- ---- above EPS

-- a fraction a / c above 1 / p, and n / d as large
as_large : (a c n d p : ℕ) → 0 < c → 0 < d → n * c ≡ a * d → c < a * p → d < n * p
as_large a c n d p cp dp same h =
    lt_of_mul-lt-mul_right c
    (subst (λ (x : ℕ). x < n * p * c) (mul_comm c d)
    (lt_of_lt_of_le (mul-lt-mul_of_pos_right h dp)
    (le_of_eq (mul_right_comm a p d ∙ ap (λ (x : ℕ). x * p) (sym same) ∙ mul_right_comm n c p))))

above_eps : (y : Float) (s : Bool) (m : ℕ) (e : ℤ) → eps ≺ fin false m e ≡ true → HasValue y s (m * up e) (down e) → eps ≺ abs y ≡ true
unfolding Ieee.lt Ieee.of_bits abs
above_eps nan s m e h v = absurd v
above_eps (inf t) s m e h v = absurd v
above_eps (fin t n d) s m e h v =
    let own : 1 * down e < m * up e * 2 ^ 52 = ltb-true _ _ h in
    lt-ltb _ _
    (subst (λ (x : ℕ). x < n * up d * 2 ^ 52) (sym (one-mul (down d)))
    (as_large (m * up e) (down e) (n * up d) (down d) (2 ^ 52) (down_pos e) (down_pos d) v.1
    (subst (λ (x : ℕ). x < m * up e * 2 ^ 52) (one-mul (down e)) own)))

-- zero is not above it
not_zero : {A : Type 0} (e : ℤ) → eps ≺ fin false 0 e ≡ true → A
unfolding Ieee.lt Ieee.of_bits
not_zero e h =
    let own : 1 * down e < 0 * up e * 2 ^ 52 = ltb-true _ _ h in
    let none : 0 * up e * 2 ^ 52 ≡ 0 = ap (λ (x : ℕ). x * 2 ^ 52) (zero-mul (up e)) ∙ zero-mul (2 ^ 52) in
    absurd (below_none _ (subst (λ (x : ℕ). 1 * down e < x) none own))
  where
    below_none : (x : ℕ) → x < 0 → ⊥
    below_none x h = omega arith

-- ONE TIMES a quantity above EPS, with either sign, is above EPS
signed : (s : Bool) (x : Float) → T (fits binary64 x) → eps ≺ x ≡ true → eps ≺ abs (Ieee.mul binary64 (fin s 1 (pos 0)) x) ≡ true
unfolding Ieee.lt Ieee.of_bits
signed s nan f h = absurd (true≢false (sym h))
signed s (inf true) f h = absurd (true≢false (sym h))
signed true (inf false) f h = unfold Ieee.mul abs in refl
signed false (inf false) f h = unfold Ieee.mul abs in refl
signed s (fin true m e) f h = absurd (true≢false (sym h))
signed s (fin false zero e) f h = not_zero e h
signed s (fin false (suc m) e) f h =
    unfold Ieee.mul in
    rw (one-mul (suc m * up e), one-mul (down e)) (above_eps _ (unlike s false) (suc m) e h (rounds_to_itself _ (suc m) e (within false m e f)))

pub directed : (side : Side) (x : Float) → T (fits binary64 x) → eps ≺ x ≡ true → eps ≺ abs (direction side ⊗ x) ≡ true
unfolding direction Ieee.of_bits Ieee.neg
directed Long x f h = signed false x f h
directed Short x f h = signed true x f h
