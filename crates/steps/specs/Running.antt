-- What a list of steps answers over rows and a position state, refusals and all. Definitions only.
use Rattle.std.specs.Prelude.{ℕ, cond, ◌&&◌, List, ltb, Err, Ok, Result}
use Rattle.words.specs.{Limits.most_slots, Limits.most_rows}
use Rattle.rows.specs.{History.history_of, History.whole_rows}
use Rattle.rules.specs.{declared.position.PositionState.PositionState, Answers.state_right}
use Rattle.steps.specs.{declared.machine.Ran.Ran}
use Rattle.steps.specs.{Bytes.ops_of, Machine.ran_over, WellFormed.formed}
use Rattle.words.specs.{declared.refusal.Refusal.Refusal}

-- "15: a step list is not well formed: 1,024 times the list .. plus its lowest bad step". Decided: a list that is run by itself is list 0.
unfoldable pub ran_if : Result (Unit {0}) ℕ → Ran → Result Ran Refusal
ran_if (Ok _) r = Ok r
ran_if (Err p) r = Err (Refusal.Steps p)

-- "12: a given K above 64, a given D outside 1 to 4,096: setting number", K's 0 and D's 1.
-- "13: a row .. list is not whole records, or an entry bar is not below the bars seen": place 0. "10, 12, 13, 14, 11, 15."
unfoldable pub runs : List ℕ → List ℕ → ℕ → ℕ → PositionState → Result Ran Refusal
runs bs ws K D s =
    cond (ltb most_slots K) (Err (Refusal.Setting 0))
    (cond (ltb D 1) (Err (Refusal.Setting 1))
    (cond (ltb most_rows D) (Err (Refusal.Setting 1))
    (cond (whole_rows K ws && state_right s) (ran_if (formed K D bs) (ran_over (history_of K ws) s (ops_of bs)))
    (Err Refusal.Records))))
