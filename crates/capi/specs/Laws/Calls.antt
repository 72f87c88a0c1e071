-- Of every call: an answer other than 0 leaves all that was lent as it was, its halves are the number and the place of what is refused, and
-- an answer of 0 means that nothing was refused. One law over calls; TableCalls and RunCalls say for each call that its refusals are small.
use Rattle.std.specs.Prelude.{ℕ, ◌<◌, ◌/◌, ◌%◌, ◌^◌, ◌≡◌, refl, Err, Ok}
use Rattle.words.specs.Prelude.{arith}
use Rattle.words.specs.{declared.refusal.Refusal.Refusal, Outcome.Outcome, Outcome.gives, Outcome.refuses}
use Rattle.replies.specs.{Call.Call, Call.answer_word, Call.call_of, Call.unless_bad, Laws.Answers.answer_number, Laws.Answers.answer_place}
use Rattle.refusals.specs.{Lines.Verdict}
use Rattle.words.specs.{Outcome.number_of, Outcome.place_of}

-- a number and a place that stand in the halves of an answer, and make it no 0
pub record FitsAnswer (r : Refusal) : Type 0 where
  pub some : 0 < number_of r
  pub number : (number_of r) < 2 ^ 32
  pub place : (place_of r) < 2 ^ 32

pub record Numbered {A : Type 0} (o : Outcome A) : Type 0 where
  pub small : (r : Refusal) → o ≡ refuses r → FitsAnswer r

-- what is said of a call: what it was lent before it, and the outcome that decides it
pub record Honest {A : Type 0} (call : Call A) (before : A) (o : Outcome A) : Type 0 where
  -- "A refusal .. changes nothing lent."
  pub keeps : (call.answer ≡ 0 → ⊥) → call.lent ≡ before
  -- the number is the upper half of the answer, the place its lower half
  pub number : (r : Refusal) → o ≡ refuses r → call.answer / 2 ^ 32 ≡ number_of r
  pub place : (r : Refusal) → o ≡ refuses r → call.answer % 2 ^ 32 ≡ place_of r
  -- an answer other than 0 has a number other than 0
  pub told : (call.answer ≡ 0 → ⊥) → call.answer / 2 ^ 32 ≡ 0 → ⊥
  -- 0: nothing was refused, and what is lent is what was given
  pub does : call.answer ≡ 0 → o ≡ gives call.lent

pub refused_word : (r : Refusal) → FitsAnswer r → answer_word r ≡ 0 → ⊥
unfolding answer_word
refused_word r s e = omega (arith, s.some, s.number)

gives_not : {A B : Type 0} {after : A} {r : Refusal} → gives after ≡ refuses r → B
gives_not e = absurd (let z : ◌≡◌ {A = ℕ} 0 1 = cc in omega arith)

-- THE LAW over calls
pub honest : {A : Type 0} (o : Outcome A) (before : A) → Numbered o → Honest (call_of o before) before o
unfolding call_of
honest (gives after) before n = record {
  keeps = λ z. absurd (z refl);
  number = λ r e. gives_not e;
  place = λ r e. gives_not e;
  told = λ z. absurd (z refl);
  does = λ z. refl;
}
honest (refuses q) before n = record {
  keeps = λ z. refl;
  number = λ r e. let s = n.small r e in let same : q ≡ r = cc in rw same (answer_number r s.number s.place);
  place = λ r e. let s = n.small r e in let same : q ≡ r = cc in rw same (answer_place r s.number s.place);
  told = λ z e. let s = n.small q refl in omega (arith, s.some, answer_number q s.number s.place, e);
  does = λ z. absurd (refused_word q (n.small q refl) z);
}

-- what gives refuses nothing
pub never_refuses : {A : Type 0} (after : A) → Numbered (gives after)
never_refuses after = record { small = λ r e. gives_not e }

-- one refusal
pub one_refusal : {A : Type 0} (r : Refusal) → FitsAnswer r → Numbered {A = A} (refuses r)
one_refusal r s = record { small = λ q e. let same : r ≡ q = cc in rw same at s }

-- a verdict before an outcome
pub after_verdict : {A : Type 0} (v : Verdict) (o : Outcome A) → ((r : Refusal) → v ≡ Err r → FitsAnswer r) → Numbered o → Numbered (unless_bad v o)
unfolding unless_bad
after_verdict (Err r) o s n = one_refusal r (s r refl)
after_verdict (Ok _) o s n = n
