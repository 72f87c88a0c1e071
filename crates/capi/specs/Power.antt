-- The calls for a loss of power: the dump and the restore (request 11). Definitions only.
use Rattle.std.specs.Prelude.{ℕ, List, Err, Ok, Result}
use Rattle.words.specs.{Words.overwrite, Outcome.Outcome, Outcome.gives, Outcome.refuses}
use Rattle.records.specs.{Settings.settings_of, StateWords.state_of, StateWords.words_of}
use Rattle.refusals.specs.{Lines.judged}
use Rattle.images.specs.{Layout.image_of, Reading.window_in, Refused.restore_judged, Refused.left_by, Restoring.restored_by}
use Rattle.dumpable.specs.{Refused.dump_judged}
use Rattle.dump.specs.{Order.written}
use Rattle.replies.specs.{Call.Call, Call.call_of, Call.unless_bad}
use Rattle.stepping.specs.{Bars.lent_lines}
use Rattle.records.specs.{declared.state.State.State}
use Rattle.refusals.specs.{Lines.Verdict}
use Rattle.words.specs.{declared.refusal.Refusal.Refusal}

unfoldable pub dump_gives : Verdict → List ℕ → Outcome (List ℕ)
dump_gives (Ok _) after = gives after
dump_gives (Err why) after = refuses why

-- lent: the area. The rooms of rows, settings and state come before it, in the order of their numbers.
unfoldable pub dump_call : List ℕ → List ℕ → List ℕ → List ℕ → ℕ → ℕ → Call (List ℕ)
dump_call settings state rows area from upto =
    let s = settings_of settings in
    let t = state_of state in
    call_of
    (unless_bad (judged (lent_lines settings state rows)) (dump_gives (dump_judged s t rows area) (written (image_of s t rows) area from upto)))
    area

-- the state's words, and the row room
pub record RestoreLent : Type 0 where
  pub state : List ℕ
  pub rows : List ℕ

unfoldable pub restore_gives : Result State Refusal → List ℕ → List ℕ → Outcome RestoreLent
restore_gives (Err why) state rows = refuses why
restore_gives (Ok next) state rows = gives (record { state = overwrite state 0 (words_of next); rows = rows })

unfoldable pub restore_call : List ℕ → List ℕ → List ℕ → List ℕ → Call RestoreLent
restore_call settings state image rows =
    let v = restore_judged (settings_of settings) image rows in
    call_of
    (unless_bad (judged (lent_lines settings state rows))
    (restore_gives (restored_by v image) state (left_by v (overwrite rows 0 (window_in image)) rows)))
    (record { state = state; rows = rows })
