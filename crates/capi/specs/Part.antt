-- The call for a part of a dump. Definitions only.
use Rattle.std.specs.Prelude.{ℕ, List, length, Err, Ok}
use Rattle.words.specs.{Words.overwrite, Outcome.Outcome, Outcome.gives, Outcome.refuses}
use Rattle.records.specs.{Settings.settings_of, StateWords.state_of}
use Rattle.refusals.specs.{Lines.judged}
use Rattle.images.specs.{Layout.image_of}
use Rattle.dumpable.specs.{Refused.part_judged}
use Rattle.dump.specs.{Parts.bytes_from}
use Rattle.replies.specs.{Call.Call, Call.call_of, Call.unless_bad}
use Rattle.stepping.specs.{Bars.lent_lines}
use Rattle.refusals.specs.{Lines.Verdict}

-- lent: the part, and how many of its bytes are the image's
pub record PartLent : Type 0 where
  pub part : List ℕ
  pub used : ℕ

unfoldable pub part_gives : Verdict → PartLent → Outcome PartLent
part_gives (Ok _) after = gives after
part_gives (Err why) after = refuses why

-- bytes over the first of the part, and their number
unfoldable pub filled_with : List ℕ → List ℕ → PartLent
filled_with part bytes = record { part = overwrite part 0 bytes; used = length bytes }

-- The image's bytes from `at` on, as many as there are and the part has place for. Refused is what a dump refuses, but for its area: a part of
-- any length will do.
unfoldable pub part_call : List ℕ → List ℕ → List ℕ → ℕ → PartLent → Call PartLent
part_call settings state rows at before =
    let s = settings_of settings in
    let t = state_of state in
    call_of
    (unless_bad (judged (lent_lines settings state rows))
    (part_gives (part_judged s t rows) (filled_with before.part (bytes_from (image_of s t rows) at (length before.part)))))
    before
