-- What is answered to how many rows a table needs. Definitions only.
use Rattle.std.specs.Prelude.{ℕ, ◌*◌, cond, List, ltb, Err, Ok, Result}
use Rattle.words.specs.{Limits.most_reach}
use Rattle.table.specs.{Depth.depth_of}
use Rattle.table.specs.{Depth.row_bytes}
use Rattle.words.specs.{declared.refusal.Refusal.Refusal}
use Rattle.needed.specs.{Outcome.needs}
use Rattle.table.specs.{declared.answer.Accepted.Accepted}
use Rattle.needed.specs.{declared.depth.Needs.Needs}

-- "12: .. lookback above 4,095": the lookback is setting 7.
unfoldable pub depth_answer : Result Accepted Refusal → List ℕ → ℕ → Result Needs Refusal
depth_answer (Err why) t lookback = Err why
depth_answer (Ok accepted) t lookback =
    cond (ltb most_reach lookback) (Err (Refusal.Setting 7)) (needs (depth_of t lookback) (row_bytes t) (depth_of t lookback * row_bytes t))
