-- Numbers in a table's bytes. Definitions only.
use Rattle.std.specs.Prelude.{List, ℕ, ◌+◌, ◌*◌, ◌<◌, get_or}

-- "Little-endian." A byte past the end counts as 0, so that every place of every byte string has a number.
unfoldable pub u16 : List ℕ → ℕ → ℕ
u16 t at = get_or t at 0 + 256 * get_or t (at + 1) 0

unfoldable pub u32 : List ℕ → ℕ → ℕ
u32 t at = u16 t at + 65536 * u16 t (at + 2)

unfoldable pub u64 : List ℕ → ℕ → ℕ
u64 t at = u32 t at + 4294967296 * u32 t (at + 4)

-- What a byte string is: `t` is one where it is the contents of a `&[u8]`.
unfoldable pub Bytes : List ℕ → Type 0
Bytes t = (i : ℕ) → get_or t i 0 < 256
