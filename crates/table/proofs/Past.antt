-- Past the end of the bytes every number is 0.
-- Assumes nothing.
use Rattle.words.specs.Prelude.{◌≡◌, List, ℕ, ◌+◌, ◌≤◌, arith, length, get_or, List·get_or-eq_default}
use Rattle.table.specs.{Bytes.u16, Bytes.u32, Bytes.u64}

module _ (t : List ℕ) where
  pub past8 : (at : ℕ) → length t ≤ at → get_or t at 0 ≡ 0
  past8 at h = List·get_or-eq_default t 0 h

  pub past16 : (at : ℕ) → length t ≤ at → u16 t at ≡ 0
  unfolding u16
  past16 at h = omega (arith, past8 at h, past8 (at + 1) (omega arith))

  pub past32 : (at : ℕ) → length t ≤ at → u32 t at ≡ 0
  unfolding u32
  past32 at h = omega (arith, past16 at h, past16 (at + 2) (omega arith))

  pub past64 : (at : ℕ) → length t ≤ at → u64 t at ≡ 0
  unfolding u64
  past64 at h = omega (arith, past32 at h, past32 (at + 4) (omega arith))
