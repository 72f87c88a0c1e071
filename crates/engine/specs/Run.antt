-- Bar after bar, until one is refused.
use Rattle.std.specs.Prelude.{ℕ, ◌+◌, List, [], ◌∷◌, Err, Ok, Result}
use Rattle.records.specs.{declared.settings.Settings.Settings, declared.state.State.State, Lent.Lists, Lent.Rooms}
use Rattle.engine.specs.{Step.step_answer}
use Rattle.refusals.specs.{Lines.Verdict}
use Rattle.words.specs.{declared.refusal.Refusal.Refusal}

-- What a run comes to: how many bars it took, the verdict that ended it (fine where it took all), and what it leaves.
pub record Run : Type 0 where
  pub done : ℕ
  pub verdict : Verdict
  pub state : State
  pub rooms : Rooms

-- a bar more, before those of a run
abbrev pub one_more : Run → Run
one_more r = record { done = r.done + 1; verdict = r.verdict; state = r.state; rooms = r.rooms }

-- "At the first bar that would be refused it stops: earlier bars stay done". The bar itself changes nothing.
unfoldable pub goes_on : Result State (Refusal × State) → Rooms → (State → Run) → Run
goes_on (Err (why, t)) m later = record { done = 0; verdict = Err why; state = t; rooms = m }
goes_on (Ok t) m later = one_more (later t)

-- a call of step for each bar, over the state and the rooms that the one before left
unfoldable pub run_over : Settings → Lists → State → Rooms → List (List ℕ) → Run
run_over s ls t m [] = record { done = 0; verdict = Ok tt; state = t; rooms = m }
run_over s ls t m (bar ∷ bars) =
    let a = step_answer s t bar m ls in
    goes_on a.result a.rooms (λ u. run_over s ls u a.rooms bars)
