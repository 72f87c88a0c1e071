-- A run over a bar and those after it: nothing is taken where the bar is refused; else the bar, and what is taken after it. Assumes nothing.
use Rattle.std.specs.Prelude.{ℕ, ◌≡◌, refl, List, [], ◌∷◌, take, Err, Ok}
use Rattle.words.specs.Prelude.{add-one}
use Rattle.records.specs.{declared.settings.Settings.Settings, declared.state.State.State, Lent.Lists, Lent.Rooms}
use Rattle.engine.specs.{Laws.Runs.run_stops, Laws.Runs.run_takes, Run.run_over, Step.stepped, Step.step_verdict}
use Rattle.refusals.specs.{Lines.Verdict}

pub by_first_bar : (s : Settings) (ls : Lists) (t : State) (m : Rooms) (bar : List ℕ) (bars : List (List ℕ)) (C : List (List ℕ) → State → Rooms → Type 0)
    → C [] t m
    → (step_verdict s t bar m ls ≡ Ok tt → let later = run_over s ls (stepped s t bar m ls).result (stepped s t bar m ls).rooms bars in
    C (bar ∷ take later.done bars) later.state later.rooms)
    → let r = run_over s ls t m (bar ∷ bars) in
    C (take r.done (bar ∷ bars)) r.state r.rooms
by_first_bar s ls t m bar bars C none more = go (step_verdict s t bar m ls) refl
  where
    go : (v : Verdict) → step_verdict s t bar m ls ≡ v → let r = run_over s ls t m (bar ∷ bars) in
        C (take r.done (bar ∷ bars)) r.state r.rooms
    go (Err why) e = rw (run_stops s ls t m bar bars why e) none
    go (Ok _) e = rw (run_takes s ls t m bar bars e, add-one) (more e)
