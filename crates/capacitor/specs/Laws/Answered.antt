-- What an answer of 0 tells: an outcome that gives was decided by no verdict before it, and what it gives is what is left.
use Rattle.std.specs.Prelude.{ℕ, ◌≡◌, refl, Err, Ok}
use Rattle.words.specs.Prelude.{arith}
use Rattle.words.specs.{declared.refusal.Refusal.Refusal, Outcome.Outcome, Outcome.gives, Outcome.refuses}
use Rattle.replies.specs.{Call.unless_bad}
use Rattle.refusals.specs.{Lines.Verdict}

pub refuses_not : {A B : Type 0} {after : A} {r : Refusal} → refuses r ≡ gives after → B
refuses_not e = absurd (let z : ◌≡◌ {A = ℕ} 0 1 = cc in omega arith)

pub gives_same : {A : Type 0} {a b : A} → gives a ≡ gives b → a ≡ b
gives_same e = cc

pub unless_gives : {A : Type 0} (v : Verdict) (o : Outcome A) (after : A) → unless_bad v o ≡ gives after → (v ≡ Ok tt) × (o ≡ gives after)
unfolding unless_bad
unless_gives (Err r) o after e = refuses_not e
unless_gives (Ok _) o after e = (refl, e)
