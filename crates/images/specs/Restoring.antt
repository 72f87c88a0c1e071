-- What a restore answers and leaves. Definitions only.
use Rattle.std.specs.Prelude.{ℕ, ◌≡◌, List, Err, Ok, Result}
use Rattle.words.specs.{Words.overwrite}
use Rattle.records.specs.{declared.settings.Settings.Settings}
use Rattle.images.specs.{Reading.state_in, Reading.window_in, Refused.restore_judged, Refused.left_by}
use Rattle.records.specs.{declared.state.State.State}
use Rattle.refusals.specs.{Lines.Verdict}
use Rattle.words.specs.{declared.refusal.Refusal.Refusal}

-- The paper's values for each case of the answer.
unfoldable pub restored_by : Verdict → List ℕ → Result State Refusal
restored_by (Ok _) image = Ok (state_in image)
restored_by (Err why) image = Err why

-- the answer, and the row room that it leaves: the window's rows over its first words, and no other word
pub record Restores (s : Settings) (image rows : List ℕ) (r : Result State Refusal) (after : List ℕ) : Type 0 where
  pub answer : r ≡ restored_by (restore_judged s image rows) image
  pub leaves : after ≡ left_by (restore_judged s image rows) (overwrite rows 0 (window_in image)) rows
