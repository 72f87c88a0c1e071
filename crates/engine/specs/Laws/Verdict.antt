-- The verdict on a step: what it was handed is judged first, then what it would fill.
use Rattle.std.specs.Prelude.{ℕ, ◌<◌, ◌^◌, ◌≡◌, refl, List, Err, Ok}
use Rattle.words.specs.Prelude.{sym, ◌∙◌, arith}
use Rattle.words.specs.{declared.refusal.Refusal.Refusal}
use Rattle.records.specs.{declared.settings.Settings.Settings, declared.state.State.State, Lent.Lists, Lent.Rooms}
use Rattle.refusals.specs.{Judgement.step_lines, Judgement.step_judged, Laws.Fine.StepFine, Laws.Fine.step_fine, Laws.Lines.both_fine, Laws.Lines.below_fine}
use Rattle.refusals.specs.{Laws.Lines.below_bad, Laws.Places.Placed, Laws.Places.place_below, Laws.Places.placed_under, Laws.Places.step_placed, Lines.judged}
use Rattle.engine.specs.{Step.size_lines, Step.step_verdict}
use Rattle.refusals.specs.{Lines.Verdict}
use Rattle.words.specs.{Outcome.place_of}

module _ (s : Settings) (t : State) (bar : List ℕ) (m : Rooms) (ls : Lists) where
  -- a step that is fine was handed what it can use
  pub verdict_fine : step_verdict s t bar m ls ≡ Ok tt → StepFine s t bar m
  unfolding step_verdict step_judged
  verdict_fine h = step_fine s t bar m ls (both_fine (step_lines s t bar m ls) (size_lines s t bar m) h).0

  -- where it was not, that decides
  pub handed_bad : (why : Refusal) → step_judged s t bar m ls ≡ Err why → step_verdict s t bar m ls ≡ Err why
  unfolding step_verdict step_judged
  handed_bad why h = below_bad (step_lines s t bar m ls) (size_lines s t bar m) why h

  -- where it was, the fill does
  pub handed_fine : step_judged s t bar m ls ≡ Ok tt → step_verdict s t bar m ls ≡ judged (size_lines s t bar m)
  unfolding step_verdict step_judged
  handed_fine h = below_fine (step_lines s t bar m ls) (size_lines s t bar m) h

  -- and every place is below 2^32: that of 16 is the bars seen
  pub verdict_place : (why : Refusal) → step_verdict s t bar m ls ≡ Err why → place_of why < 2 ^ 32
  unfolding step_verdict size_lines step_judged Placed
  verdict_place why =
      place_below _ why
      (placed_under (step_lines s t bar m ls) (size_lines s t bar m) (step_placed s t bar m ls)
      (λ fine. (omega (arith, (step_fine s t bar m ls fine).bars), λ h. tt)))

-- two steps that are handed alike, and fill alike where what they are handed can be used, have one verdict
pub verdicts_alike : (s : Settings) (t t' : State) (bar : List ℕ) (m m' : Rooms) (ls : Lists) → step_judged s t bar m ls ≡ step_judged s t' bar m' ls
    → (StepFine s t bar m → size_lines s t bar m ≡ size_lines s t' bar m') → step_verdict s t bar m ls ≡ step_verdict s t' bar m' ls
verdicts_alike s t t' bar m m' ls same sizes = go (step_judged s t bar m ls) refl
  where
    go : (v : Verdict) → step_judged s t bar m ls ≡ v → step_verdict s t bar m ls ≡ step_verdict s t' bar m' ls
    go (Ok _) e =
        handed_fine s t bar m ls e ∙ rw (sizes (step_fine s t bar m ls e)) (sym (handed_fine s t' bar m' ls (sym same ∙ e)))
    go (Err why) e = handed_bad s t bar m ls why e ∙ sym (handed_bad s t' bar m' ls why (sym same ∙ e))
