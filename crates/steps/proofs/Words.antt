-- Floats that are finite and not negative stand in the order of their words. Assumes nothing.
use Rattle.words.specs.Prelude.{ℕ, zero, suc, ◌*◌, ◌/◌, ◌%◌, ◌^◌, ◌<◌, ◌≤◌, ◌≡◌, ap, ◌∙◌, true, false, true≢false, ⊎_elim, arith, le_refl, Float, nan, inf}
use Rattle.words.specs.Prelude.{fin, lt, up, down, HasValue, is_true, lt-ltb, eq-eqb, ne_eqb, mul-pos, mul_assoc, mul_right_comm, lt_of_mul-lt-mul_right}
use Rattle.words.specs.Prelude.{down_pos, mul-lt-mul_of_pos_right, mul-le-mul, mul-le-mul_right, le_of_lt, lt_of_lt_of_le, pow_mono, pow_pos, pow-suc}
use Rattle.words.specs.{Laws.Numbers.less_or_not}
use Rattle.floats.specs.{Floats.◌≺◌, Floats.float_of, Root.field_units, Root.units_of, Laws.Order.not_above, Laws.Values.bits_value}
use Rattle.rules.specs.{Values.better, Values.took}
use lib.Ieee.Order.{le_of_values}

-- ---- units of words

-- of two words in one field of the exponent
within : (q t u : ℕ) → t < u → field_units q t < field_units q u
within zero t u l = l
within (suc e) t u l = mul-lt-mul_of_pos_right (omega arith) (pow_pos e)

-- the units of a field stay below this ..
most : (q t : ℕ) → t < 2 ^ 52 → field_units q t < 2 ^ 52 * 2 ^ q
most zero t l = omega arith
most (suc e) t l =
    let doubled : 2 ^ 52 * 2 ^ suc e ≡ 2 ^ 53 * 2 ^ e = rw (pow-suc 2 e) (omega arith) in
    rw doubled (mul-lt-mul_of_pos_right (omega arith) (pow_pos e))

-- .. which those of a later field reach
least : (q p t : ℕ) → q < p → 2 ^ 52 * 2 ^ q ≤ field_units p t
least q zero t l = absurd (omega (arith, l))
least q (suc e) t l = mul-le-mul (omega arith) (pow_mono (omega arith))

-- so of two words in two fields the later one's are more
across : (q t p u : ℕ) → t < 2 ^ 52 → q < p → field_units q t < field_units p u
across q t p u l m = lt_of_lt_of_le (most q t l) (least q p u m)

-- a smaller word stands for fewer units
units_below : (a b : ℕ) → a < b → units_of a < units_of b
unfolding units_of
units_below a b l =
    ⊎_elim (λ (far : a / 2 ^ 52 < b / 2 ^ 52). across (a / 2 ^ 52) (a % 2 ^ 52) (b / 2 ^ 52) (b % 2 ^ 52) (omega arith) far)
    (λ (near : b / 2 ^ 52 ≤ a / 2 ^ 52).
    let same : b / 2 ^ 52 ≡ a / 2 ^ 52 = omega arith in
    rw same (within (a / 2 ^ 52) (a % 2 ^ 52) (b % 2 ^ 52) (omega arith)))
    (less_or_not (a / 2 ^ 52) (b / 2 ^ 52))

-- and one that is not larger for no more
units_most : (a b : ℕ) → a ≤ b → units_of a ≤ units_of b
units_most a b l =
    ⊎_elim (λ (m : a < b). le_of_lt (units_below a b m)) (λ (m : b ≤ a). let same : a ≡ b = omega arith in rw same (le_refl (units_of b)))
    (less_or_not a b)

-- ---- the floats

-- x / d is a / c and y / e is b / c, so x / d is below y / e where a is below b
fractions : (x y d e a b c : ℕ) → 0 < d → 0 < e → x * c ≡ a * d → y * c ≡ b * e → a < b → x * e < y * d
fractions x y d e a b c D E p q l =
    let left : x * e * c ≡ a * (d * e) = mul_right_comm x e c ∙ ap (λ (z : ℕ). z * e) p ∙ mul_assoc a d e in
    let right : y * d * c ≡ b * (d * e) = mul_right_comm y d c ∙ ap (λ (z : ℕ). z * d) q ∙ mul_right_comm b e d ∙ mul_assoc b d e in
    lt_of_mul-lt-mul_right c (rw (left, right) (mul-lt-mul_of_pos_right l (mul-pos D E)))

-- of two floats that are not negative, so many units each, the one of fewer is below
values_below : (x y : Float) (a b c : ℕ) → HasValue x false a c → HasValue y false b c → a < b → x ≺ y ≡ true
unfolding lt
values_below nan y a b c p q l = absurd p
values_below (inf s) y a b c p q l = absurd p
values_below (fin true m e) y a b c p q l = absurd (true≢false p.0)
values_below (fin false m e) nan a b c p q l = absurd q
values_below (fin false m e) (inf t) a b c p q l = absurd q
values_below (fin false m e) (fin true n d) a b c p q l = absurd (true≢false q.0)
values_below (fin false m e) (fin false n d) a b c p q l =
    lt-ltb _ _ (fractions (m * up e) (n * up d) (down e) (down d) a b c (down_pos e) (down_pos d) p.1 q.1 l)

-- of words below the infinity's, a smaller one is a smaller float ..
pub words_below : (a b : ℕ) → a < b → b < 0x7ff0_0000_0000_0000 → float_of a ≺ float_of b ≡ true
words_below a b l m =
    values_below (float_of a) (float_of b) (units_of a) (units_of b) (2 ^ 1074) (bits_value a (omega arith)) (bits_value b m) (units_below a b l)

-- .. and one that is not above is not a greater one
pub words_not_above : (a b : ℕ) → a ≤ b → b < 0x7ff0_0000_0000_0000 → float_of b ≺ float_of a ≡ false
words_not_above a b l m =
    let units = 2 ^ 1074 in
    let some = pow_pos 1074 in
    not_above (float_of a) (float_of b) (is_true _ (le_of_values (float_of a) (float_of b) (units_of a) units (units_of b) units some some
    (bits_value a (omega arith)) (bits_value b m) (mul-le-mul_right units (units_most a b l))))

-- ---- which of two words is the best one's

module _ (kind best word : ℕ) where
  -- for Highest, one that is not larger leaves the best ..
  pub high_stays : kind ≡ 9 → word ≤ best → best < 0x7ff0_0000_0000_0000 → took kind (float_of best) (float_of word) ≡ float_of best
  unfolding took better
  high_stays is l low = rw (eq-eqb kind 9 is, words_not_above word best l low)

  -- .. and a larger one takes its place
  pub high_goes : kind ≡ 9 → best < word → word < 0x7ff0_0000_0000_0000 → took kind (float_of best) (float_of word) ≡ float_of word
  unfolding took better
  high_goes is l low = rw (eq-eqb kind 9 is, words_below best word l low)

  -- for Lowest, one that is not smaller leaves the best ..
  pub low_stays : (kind ≡ 9 → ⊥) → best ≤ word → word < 0x7ff0_0000_0000_0000 → took kind (float_of best) (float_of word) ≡ float_of best
  unfolding took better
  low_stays is l low = rw (ne_eqb kind 9 is, words_not_above best word l low)

  -- .. and a smaller one takes its place
  pub low_goes : (kind ≡ 9 → ⊥) → word < best → best < 0x7ff0_0000_0000_0000 → took kind (float_of best) (float_of word) ≡ float_of word
  unfolding took better
  low_goes is l low = rw (ne_eqb kind 9 is, words_below word best l low)
