-- What is said of a table's need. Definitions only.
use Rattle.std.specs.Prelude.{ℕ, Result, Ok}
use Rattle.words.specs.{declared.refusal.Refusal.Refusal}
use Rattle.needed.specs.{declared.depth.Needs.Needs}

-- the rows, the bytes of a row, and of all of them
abbrev pub needs : ℕ → ℕ → ℕ → Result Needs Refusal
needs rows row window = Ok (record { rows = rows; row = row; window = window })
