-- The call that steps over a bar. Definitions only.
use Rattle.std.specs.Prelude.{ℕ, List, ◌++◌, Err, Ok, Result}
use Rattle.words.specs.{Words.overwrite, Outcome.Outcome, Outcome.gives, Outcome.refuses}
use Rattle.records.specs.{Lent.Rooms, Lent.Lists, Settings.settings_of, StateWords.state_of, StateWords.words_of}
use Rattle.refusals.specs.{Lines.Line, Lines.judged, Rooms.room_lines}
use Rattle.engine.specs.{Step.step_answer}
use Rattle.replies.specs.{Call.Call, Call.call_of, Call.unless_bad, Call.word_lines}
use Rattle.records.specs.{declared.state.State.State}
use Rattle.words.specs.{declared.refusal.Refusal.Refusal}

-- "Under one number the lowest place is given": the room of rows is number 0, and so comes before those that only a C call has.
-- A setting past the end of the words reads as 0.
unfoldable pub lent_lines : List ℕ → List ℕ → List ℕ → List Line
lent_lines settings state rows = room_lines (settings_of settings) rows ++ word_lines settings state

-- the state's words, and the rooms
pub record StepLent : Type 0 where
  pub state : List ℕ
  pub rooms : Rooms

-- what the engine's step comes to, in words
unfoldable pub step_gives : Result State (Refusal × State) → List ℕ → Rooms → Outcome StepLent
step_gives (Err (why, given)) state rooms = refuses why
step_gives (Ok next) state rooms = gives (record { state = overwrite state 0 (words_of next); rooms = rooms })

unfoldable pub step_call : List ℕ → List ℕ → List ℕ → Rooms → Lists → Call StepLent
step_call settings state bar rooms lists =
    let d = step_answer (settings_of settings) (state_of state) bar rooms lists in
    call_of (unless_bad (judged (lent_lines settings state rooms.rows)) (step_gives d.result state d.rooms))
    (record { state = state; rooms = rooms })
