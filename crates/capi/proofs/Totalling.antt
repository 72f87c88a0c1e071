-- A call that keeps totals, by what the crate below answers and leaves. Assumes nothing.
use Rattle.std.specs.Prelude.{Err, Ok, Result}
use Rattle.words.specs.Prelude.{ℕ, ◌≡◌, List}
use Rattle.words.specs.{declared.refusal.Refusal.Refusal}
use Rattle.totals.specs.{Totals.left}
use Rattle.replies.specs.{Call.answer_word, Call.call_of}
use Rattle.capi.specs.{Totals.totals_gives}

module _ (answer : Result (Unit {0}) Refusal) (before after exit : List ℕ) (same : exit ≡ left answer before after) where
  -- refused: what was lent is as it was
  pub totals_refuse : {why : Refusal} {a : ℕ} → answer ≡ Err why → a ≡ answer_word why
      → call_of (totals_gives answer (left answer before after)) before ≡ record { answer = a; lent = exit }
  unfolding call_of totals_gives
  totals_refuse told word = simp (same, told, word)

  -- done
  pub totals_do : answer ≡ Ok tt → call_of (totals_gives answer (left answer before after)) before ≡ record { answer = 0; lent = exit }
  unfolding call_of totals_gives
  totals_do told = simp (same, told)
