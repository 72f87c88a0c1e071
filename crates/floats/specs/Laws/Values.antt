-- What a bit pattern stands for: so many units of 2^-1074. Assumes nothing.
use Rattle.std.specs.Prelude.{◌≡◌, refl, Bool, false, cond, ℕ, zero, suc, ◌+◌, ◌*◌, ◌/◌, ◌%◌, ◌^◌, ◌<◌, ◌≢◌, T, leb, eqb, Float}
use Rattle.words.specs.Prelude.{sym, ap, subst, ◌∙◌, not-le_of_lt, mod-eq_of_lt}
use Rattle.words.specs.Prelude.{mul-one, arith, leb→le, eqb→eq, not_T, nan, inf, binary64, odd, of_fields, of_bits, is_false, HasValue}
use Rattle.words.specs.Prelude.{odd_sign}
use Rattle.floats.specs.{Root.field_units, Root.units_of}
use Rattle.std.specs.Float.Ieee.Bits.{cond_no}

-- a pattern by its three fields
of_bits_is : (b : ℕ) → of_bits binary64 b ≡ of_fields binary64 (leb (2 ^ 63) b) (b % 2 ^ 63 / 2 ^ 52) (b % 2 ^ 52)
unfolding of_bits
of_bits_is b = refl

-- the value of the fields of a number that is not negative
fields : (x t : ℕ) → x < 2047 → HasValue (of_fields binary64 false x t) false (field_units x t) (2 ^ 1074)
unfolding of_fields
fields zero t h = subst (λ (z : ℕ). HasValue (odd 53 false t 0 1074) false z (2 ^ 1074)) (mul-one t) (odd_sign 53 false t 0 1074)
fields (suc x) t h =
    subst (λ (v : Float). HasValue v false ((2 ^ 52 + t) * 2 ^ x) (2 ^ 1074))
    (sym (cond_no (eqb (suc x) 2047) (cond (eqb t 0) (inf false) nan) (odd 53 false (2 ^ 52 + t) x 1074)
    (not_T (eqb (suc x) 2047) (λ (u : T (eqb (suc x) 2047)). differ x h (eqb→eq (suc x) 2047 u)))))
    (odd_sign 53 false (2 ^ 52 + t) x 1074)
  where
    differ : (y : ℕ) → suc y < 2047 → suc y ≢ 2047
    differ y g e = omega arith

-- the value of a pattern below 0x7ff0_0000_0000_0000, which is that of the infinity
pub bits_value : (b : ℕ) → b < 0x7ff0_0000_0000_0000 → HasValue (of_bits binary64 b) false (units_of b) (2 ^ 1074)
unfolding units_of
bits_value b h =
    subst (λ (v : Float). HasValue v false (field_units (b / 2 ^ 52) (b % 2 ^ 52)) (2 ^ 1074))
    (sym (of_bits_is b
    ∙ ap (λ (s : Bool). of_fields binary64 s (b % 2 ^ 63 / 2 ^ 52) (b % 2 ^ 52))
    (is_false (leb (2 ^ 63) b) (not_T (leb (2 ^ 63) b) (λ (u : T (leb (2 ^ 63) b)). not-le_of_lt (short b h) (leb→le (2 ^ 63) b u))))
    ∙ ap (λ (x : ℕ). of_fields binary64 false (x / 2 ^ 52) (b % 2 ^ 52)) (mod-eq_of_lt (short b h))))
    (fields (b / 2 ^ 52) (b % 2 ^ 52) (field b h))
  where
    short : (x : ℕ) → x < 0x7ff0_0000_0000_0000 → x < 2 ^ 63
    short x g = omega arith

    field : (x : ℕ) → x < 0x7ff0_0000_0000_0000 → x / 2 ^ 52 < 2047
    field x g = omega arith
