-- The word of a float that is no NaN.
use Rattle.words.specs.Prelude.{ℕ, ◌%◌, ◌^◌, ◌≤◌, ◌<◌, ◌≡◌, sym, subst, Bool, not, T, binary64, nan_bits_is, to_bits-of_bits}
use Rattle.floats.specs.{Floats.word_of, Floats.float_of}
use Rattle.floats.proofs.{Words.word_no_nan}

-- a pattern that is no NaN's is the word of its float
pub plain_own : (w : ℕ) → w < 18446744073709551616 → w % 2 ^ 63 ≤ 0x7ff0_0000_0000_0000 → w ≡ word_of (float_of w)
plain_own w l h = sym (to_bits-of_bits binary64 w l (subst (λ (t : Bool). T (not t)) (nan_bits_is binary64 w) (word_no_nan w h)))
