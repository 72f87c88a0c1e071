-- "A refusal returns number, place and the state it was given, and changes nothing lent."
use Rattle.std.specs.Prelude.{ℕ, ◌≡◌, refl, List, Err, Ok}
use Rattle.words.specs.Prelude.{sym, ap, arith}
use Rattle.words.specs.{declared.refusal.Refusal.Refusal}
use Rattle.records.specs.{declared.settings.Settings.Settings, declared.state.State.State, Lent.Lists, Lent.Rooms}
use Rattle.engine.specs.{Step.With, Step.stepped, Step.answered, Step.step_verdict, Step.step_answer}
use Rattle.refusals.specs.{Lines.Verdict}

by_verdict : (v : Verdict) (t : State) (m : Rooms) (done : With State) (why : Refusal) (u : State)
    → (answered v t m done).result ≡ Err (why, u) → (v ≡ Err why) × (u ≡ t) × ((answered v t m done).rooms ≡ m)
unfolding answered
by_verdict (Err r) t m done why u e =
    let same : ◌≡◌ {A = Refusal × State} (r, t) (why, u) = cc in
    (ap (λ (p : Refusal × State). Err p.0) same, sym (ap (λ (p : Refusal × State). p.1) same), refl)
by_verdict (Ok _) t m done why u e = absurd (let z : ◌≡◌ {A = ℕ} 0 1 = cc in omega arith)

-- Whatever a step refuses, the judgement said so, the state is the one given, and no room has changed.
pub refusal_changes_nothing : (s : Settings) (t : State) (bar : List ℕ) (m : Rooms) (ls : Lists) (why : Refusal) (u : State)
    → (step_answer s t bar m ls).result ≡ Err (why, u)
    → (step_verdict s t bar m ls ≡ Err why) × (u ≡ t) × ((step_answer s t bar m ls).rooms ≡ m)
unfolding step_answer
refusal_changes_nothing s t bar m ls why u e = by_verdict (step_verdict s t bar m ls) t m (stepped s t bar m ls) why u e
