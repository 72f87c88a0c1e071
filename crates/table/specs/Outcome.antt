-- What is said of an accepted table. Definitions only.
use Rattle.std.specs.Prelude.{ℕ, Result, Ok}
use Rattle.words.specs.{declared.refusal.Refusal.Refusal}
use Rattle.table.specs.{declared.answer.Accepted.Accepted}

-- accepted: how many nodes it has, and how many rows it needs
abbrev pub accepts : ℕ → ℕ → Result Accepted Refusal
accepts nodes rows = Ok (record { nodes = nodes; rows = rows })
