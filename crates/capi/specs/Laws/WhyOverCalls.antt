-- ysh_why_over: each of its refusals has a number and a place that an answer can hold, so the law over calls holds of it.
use Rattle.std.specs.Prelude.{ℕ, ◌≡◌, refl, List, length, Err, Ok, Result}
use Rattle.words.specs.{declared.refusal.Refusal.Refusal}
use Rattle.table.specs.{Header.slots}
use Rattle.table.specs.{Checked.checked}
use Rattle.questions.specs.{Over.over_lines, Over.over_by, Over.over_verdict}
use Rattle.capi.specs.{WhyOver.OverLent, WhyOver.over_gives, WhyOver.over_call, Laws.Calls.FitsAnswer, Laws.Calls.Honest, Laws.Calls.honest}
use Rattle.capi.specs.{Laws.Calls.never_refuses, Laws.Calls.after_verdict, Laws.TableCalls.table_number, Laws.DumpCalls.on_paper}
use Rattle.capi.specs.{Laws.DumpCalls.paper_small}
use Rattle.table.specs.{declared.answer.Accepted.Accepted}

over_small : (a : Result Accepted Refusal) (t rows ps : List ℕ) (lines counts : ℕ) → ((why : Refusal) → a ≡ Err why → FitsAnswer why)
    → (r : Refusal) → over_by a t rows ps lines counts ≡ Err r → FitsAnswer r
unfolding over_by over_lines on_paper
over_small (Err why) t rows ps lines counts n r e = let same : why ≡ r = cc in rw same at (n why refl)
over_small (Ok accepted) t rows ps lines counts n r e = paper_small (over_lines (slots t) rows ps lines counts) refl r e

pub why_over_honest : (t : List ℕ) (tree : ℕ) (rows ps : List ℕ) (before : OverLent)
    → Honest (over_call t tree rows ps before) before (over_gives t tree rows ps before)
unfolding over_call over_gives over_verdict
why_over_honest t tree rows ps before =
    honest _ before (after_verdict _ _ (over_small (checked t) t rows ps (length before.lines) (length before.counts) (table_number t)) (never_refuses _))
