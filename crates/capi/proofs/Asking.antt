-- What a call for many rows answers and leaves, by its verdict: one law for each way out.
use Rattle.std.specs.Prelude.{Err, Ok}
use Rattle.words.specs.Prelude.{ℕ, ◌≡◌, refl, sym, ap, ◌∙◌, List, length}
use Rattle.words.specs.{declared.refusal.Refusal.Refusal}
use Rattle.questions.specs.{Over.asked_rows, Over.explanation_over, Over.lines_over, Over.counts_over, Over.over_verdict, Over.unless_refused}
use Rattle.replies.specs.{Call.answer_word}
use Rattle.capi.specs.{WhyOver.over_gives, WhyOver.over_call}
use Rattle.refusals.specs.{Lines.Verdict}
use Rattle.capi.proofs.{Calling.call_bad, Calling.call_gives}

module _ (t : List ℕ) (x : ℕ) (rows ps lines counts : List ℕ) (v : Verdict) (after count : List ℕ)
    (did : (v ≡ over_verdict t rows ps (length lines) (length counts))
    × (after ≡ unless_refused v (lines_over (explanation_over t x rows ps) (asked_rows ps) lines) lines)
    × (count ≡ unless_refused v (counts_over (explanation_over t x rows ps) (asked_rows ps) counts) counts)) where
  -- a refusal keeps all that was lent
  pub over_refused : {why : Refusal} {a : ℕ} → v ≡ Err why → a ≡ answer_word why
      → over_call t x rows ps (record { lines = lines; counts = counts }) ≡ record { answer = a; lent = record { lines = after; counts = count } }
  unfolding over_call over_gives unless_refused
  over_refused bad word =
      let same : after ≡ lines = did.1 ∙ ap (λ (w : Verdict). unless_refused w (lines_over (explanation_over t x rows ps) (asked_rows ps) lines) lines) bad in
      let kept : count ≡ counts = did.2 ∙ ap (λ (w : Verdict). unless_refused w (counts_over (explanation_over t x rows ps) (asked_rows ps) counts) counts) bad in
      rw (same, kept) (call_bad _ _ _ (sym did.0 ∙ bad) word)

  -- the lines and the counts
  pub over_told : v ≡ Ok tt
      → over_call t x rows ps (record { lines = lines; counts = counts }) ≡ record { answer = 0; lent = record { lines = after; counts = count } }
  unfolding over_call over_gives unless_refused
  over_told fine =
      let wrote : after ≡ lines_over (explanation_over t x rows ps) (asked_rows ps) lines =
      did.1 ∙ ap (λ (w : Verdict). unless_refused w (lines_over (explanation_over t x rows ps) (asked_rows ps) lines) lines) fine in
      let counted : count ≡ counts_over (explanation_over t x rows ps) (asked_rows ps) counts =
      did.2 ∙ ap (λ (w : Verdict). unless_refused w (counts_over (explanation_over t x rows ps) (asked_rows ps) counts) counts) fine in
      rw (wrote, counted) (call_gives _ _ _ (sym did.0 ∙ fine) refl)
