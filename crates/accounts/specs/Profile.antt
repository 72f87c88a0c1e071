-- The profile of request 14: "no short trees, leverage at most 1, and no more slots than the stream". Definitions only.
use Rattle.std.specs.Prelude.{ℕ, Bool, true, ◌&&◌, List, [], ◌∷◌, leb, eqb, Err, Float, None, Ok, Option, Result, Some}
use Rattle.floats.specs.{Floats.◌≼◌, Floats.one}
use Rattle.records.specs.{declared.settings.Settings.Settings}
use Rattle.refusals.specs.{Lines.line, Lines.judged}
use Rattle.table.specs.{Checked.checked, Header.slots, Header.count}
use Rattle.refusals.specs.{Lines.Verdict}
use Rattle.words.specs.{declared.refusal.Refusal.Refusal}
use Rattle.table.specs.{declared.answer.Accepted.Accepted}

-- "no short trees": the counts of trees 2 and 3; "0 means absent"
unfoldable pub no_short_trees : List ℕ → Bool
no_short_trees table = eqb (count table 2) 0 && eqb (count table 3) 0

-- "leverage at most 1": one that is not given is 1. A NaN is not at most 1, and so is outside.
unfoldable pub leverage_within : Option Float → Bool
leverage_within None = true
leverage_within (Some x) = x ≼ one

-- "no more slots than the stream": neither the table's K nor setting 0
unfoldable pub slots_within : List ℕ → Settings → ℕ → Bool
slots_within table s stream = leb (slots table) stream && leb s.slots stream

unfoldable pub within_profile : List ℕ → Settings → ℕ → Bool
within_profile table s stream = no_short_trees table && (leverage_within s.terms.risk.max_leverage && slots_within table s stream)

-- "an account outside the profile gets 21 at 0, right after its 1 to 9"
unfoldable pub after_table : Result Accepted Refusal → Bool → Verdict
after_table (Err why) within = Err why
after_table (Ok accepted) within = judged (line within Refusal.Profile ∷ [])

unfoldable pub profile_judged : List ℕ → Settings → ℕ → Verdict
profile_judged table s stream = after_table (checked table) (within_profile table s stream)
