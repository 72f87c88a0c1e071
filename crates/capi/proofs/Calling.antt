-- What a call answers and leaves, by what was refused or given.
use Rattle.std.specs.Prelude.{Err, Ok}
use Rattle.words.specs.Prelude.{ℕ, ◌≡◌}
use Rattle.words.specs.{declared.refusal.Refusal.Refusal, Outcome.Outcome, Outcome.gives, Outcome.refuses}
use Rattle.replies.specs.{Call.answer_word, Call.call_of, Call.unless_bad}
use Rattle.refusals.specs.{Lines.Verdict}

module _ {A : Type 0} (o : Outcome A) (before : A) where
  -- a refusal
  pub call_refuses : {r : Refusal} {a : ℕ} → o ≡ refuses r → a ≡ answer_word r → call_of o before ≡ record { answer = a; lent = before }
  unfolding call_of
  call_refuses refused word = simp (refused, word)

  -- the call does its work
  pub call_does : {after : A} → o ≡ gives after → call_of o before ≡ record { answer = 0; lent = after }
  unfolding call_of
  call_does given = simp given

module _ {A : Type 0} (v : Verdict) (o : Outcome A) (before : A) where
  -- a verdict that is not fine
  pub call_bad : {r : Refusal} {a : ℕ} → v ≡ Err r → a ≡ answer_word r → call_of (unless_bad v o) before ≡ record { answer = a; lent = before }
  unfolding call_of unless_bad
  call_bad bad word = simp (bad, word)

  -- a refusal below it
  pub call_refused : {r : Refusal} {a : ℕ} → v ≡ Ok tt → o ≡ refuses r → a ≡ answer_word r
      → call_of (unless_bad v o) before ≡ record { answer = a; lent = before }
  unfolding call_of unless_bad
  call_refused fine refused word = simp (fine, refused, word)

  -- the call does its work
  pub call_gives : {after : A} → v ≡ Ok tt → o ≡ gives after → call_of (unless_bad v o) before ≡ record { answer = 0; lent = after }
  unfolding call_of unless_bad
  call_gives fine given = simp (fine, given)
