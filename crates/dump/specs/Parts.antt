-- A part of an image: what it refuses, answers and leaves. Definitions only.
use Rattle.std.specs.Prelude.{ℕ, ◌≡◌, List, length, take, drop, Err, Ok, Result}
use Rattle.words.specs.{Words.overwrite}
use Rattle.records.specs.{declared.settings.Settings.Settings, declared.state.State.State}
use Rattle.images.specs.{Layout.image_of, Refused.left_by}
use Rattle.dumpable.specs.{Refused.part_judged}
use Rattle.refusals.specs.{Lines.Verdict}
use Rattle.words.specs.{declared.refusal.Refusal.Refusal}

-- bytes `at` to `at + n` of an image, in the order of their places; past its end there are none
unfoldable pub bytes_from : List ℕ → ℕ → ℕ → List ℕ
bytes_from image at n = take n (drop at image)

-- The part over a buffer's first bytes, and how many they are.
pub record PartLaid (image : List ℕ) (at : ℕ) (part : List ℕ) (used : ℕ) (after : List ℕ) : Type 0 where
  pub count : used ≡ length (bytes_from image at (length part))
  pub leaves : after ≡ overwrite part 0 (bytes_from image at (length part))

-- The paper's values for each case of the answer.
unfoldable pub parted_by : Verdict → ℕ → Result ℕ Refusal
parted_by (Ok _) used = Ok used
parted_by (Err why) used = Err why

-- the answer, and the buffer that it leaves
pub record PartDumped (s : Settings) (t : State) (rows : List ℕ) (at : ℕ) (part : List ℕ) (r : Result ℕ Refusal) (after : List ℕ) : Type 0 where
  pub answer : r ≡ parted_by (part_judged s t rows) (length (bytes_from (image_of s t rows) at (length part)))
  pub leaves : after ≡ left_by (part_judged s t rows) (overwrite part 0 (bytes_from (image_of s t rows) at (length part))) part
