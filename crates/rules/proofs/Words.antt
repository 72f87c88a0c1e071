-- Of floats and words, what the values need. Assumes nothing.
use Rattle.words.specs.Prelude.{ℕ, ◌/◌, ◌%◌, ◌^◌, ◌≤◌, ◌<◌, ◌≡◌, refl, div-eq_of_lt, lt_of_lt_of_le, pow_mono, nan, div, of_bits, binary64}

pub nan_is : div binary64 (of_bits binary64 0) (of_bits binary64 0) ≡ nan
unfolding div of_bits
nan_is = refl

-- a word has no bit at or above 64
pub no_bit : (w k : ℕ) → w < 2 ^ 64 → 64 ≤ k → w / 2 ^ k % 2 ≡ 0
no_bit w k fits far = rw (div-eq_of_lt (lt_of_lt_of_le fits (pow_mono far)))
