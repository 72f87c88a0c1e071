-- A run, bar by bar: the bar at which it stops, a bar that it takes, and what holds at its end.
use Rattle.std.specs.Prelude.{ℕ, ◌≡◌, refl, List, [], ◌∷◌, length, Err, Ok}
use Rattle.words.specs.Prelude.{arith}
use Rattle.words.specs.{declared.refusal.Refusal.Refusal}
use Rattle.records.specs.{declared.settings.Settings.Settings, declared.state.State.State, Lent.Lists, Lent.Rooms}
use Rattle.refusals.specs.{Laws.Lines.never}
use Rattle.engine.specs.{Run.Run, Run.one_more, Run.goes_on, Run.run_over, Step.stepped, Step.answered, Step.step_verdict, Step.step_answer}
use Rattle.refusals.specs.{Lines.Verdict}

-- no bars
pub run_none : (s : Settings) (ls : Lists) (t : State) (m : Rooms) → run_over s ls t m [] ≡ record { done = 0; verdict = Ok tt; state = t; rooms = m }
unfolding run_over
run_none s ls t m = refl

module _ (s : Settings) (ls : Lists) (t : State) (m : Rooms) (bar : List ℕ) (bars : List (List ℕ)) where
  -- a bar that is refused
  pub run_stops : (why : Refusal) → step_verdict s t bar m ls ≡ Err why
      → run_over s ls t m (bar ∷ bars) ≡ record { done = 0; verdict = Err why; state = t; rooms = m }
  unfolding run_over step_answer answered goes_on
  run_stops why h = rw h

  -- a bar that is taken
  pub run_takes : step_verdict s t bar m ls ≡ Ok tt
      → run_over s ls t m (bar ∷ bars) ≡ one_more (run_over s ls (stepped s t bar m ls).result (stepped s t bar m ls).rooms bars)
  unfolding run_over step_answer answered goes_on
  run_takes h = rw h

-- A run whose verdict is fine took all bars.
pub fine_took_all : (s : Settings) (ls : Lists) (bars : List (List ℕ)) (t : State) (m : Rooms) → (run_over s ls t m bars).verdict ≡ Ok tt
    → (run_over s ls t m bars).done ≡ length bars
fine_took_all s ls [] t m = rw run_none (λ h. refl)
fine_took_all s ls (bar ∷ bars) t m =
    go (step_verdict s t bar m ls) refl (fine_took_all s ls bars (stepped s t bar m ls).result (stepped s t bar m ls).rooms)
  where
    later : Run
    later = run_over s ls (stepped s t bar m ls).result (stepped s t bar m ls).rooms bars

    go : (v : Verdict) → step_verdict s t bar m ls ≡ v → (later.verdict ≡ Ok tt → later.done ≡ length bars)
        → (run_over s ls t m (bar ∷ bars)).verdict ≡ Ok tt → (run_over s ls t m (bar ∷ bars)).done ≡ length (bar ∷ bars)
    go (Err why) e goes = rw (run_stops s ls t m bar bars why e) (λ h. never h)
    go (Ok _) e goes = rw (run_takes s ls t m bar bars e) (λ h. omega (arith, goes h))

module _ (s : Settings) (ls : Lists) (P : State → Rooms → Type 0)
    (step : (t : State) (m : Rooms) (bar : List ℕ) → step_verdict s t bar m ls ≡ Ok tt → P t m
    → P (stepped s t bar m ls).result (stepped s t bar m ls).rooms) where
  -- What holds at first, and after each bar that is taken where it held before, holds at the end.
  pub run_keeps : (bars : List (List ℕ)) (t : State) (m : Rooms) → P t m → P (run_over s ls t m bars).state (run_over s ls t m bars).rooms
  run_keeps [] t m p = rw run_none p
  run_keeps (bar ∷ bars) t m p =
      go (step_verdict s t bar m ls) refl (λ h. run_keeps bars (stepped s t bar m ls).result (stepped s t bar m ls).rooms (step t m bar h p))
    where
      later : Run
      later = run_over s ls (stepped s t bar m ls).result (stepped s t bar m ls).rooms bars

      go : (v : Verdict) → step_verdict s t bar m ls ≡ v → (step_verdict s t bar m ls ≡ Ok tt → P later.state later.rooms)
          → P (run_over s ls t m (bar ∷ bars)).state (run_over s ls t m (bar ∷ bars)).rooms
      go (Err why) e goes = rw (run_stops s ls t m bar bars why e) p
      go (Ok _) e goes = rw (run_takes s ls t m bar bars e) (goes e)

  module _ (E : Verdict → Type 0) (fine : E (Ok tt)) (judges : (t : State) (m : Rooms) (bar : List ℕ) → P t m → E (step_verdict s t bar m ls)) where
    -- What holds of every verdict on a bar, where P holds before it, holds of the verdict that ends a run.
    pub run_ends : (bars : List (List ℕ)) (t : State) (m : Rooms) → P t m → E (run_over s ls t m bars).verdict
    run_ends [] t m p = rw run_none fine
    run_ends (bar ∷ bars) t m p =
        go (step_verdict s t bar m ls) refl (λ h. run_ends bars (stepped s t bar m ls).result (stepped s t bar m ls).rooms (step t m bar h p))
      where
        go : (v : Verdict) → step_verdict s t bar m ls ≡ v
            → (step_verdict s t bar m ls ≡ Ok tt → E (run_over s ls (stepped s t bar m ls).result (stepped s t bar m ls).rooms bars).verdict)
            → E (run_over s ls t m (bar ∷ bars)).verdict
        go (Err why) e goes = rw (run_stops s ls t m bar bars why e, ← e) (judges t m bar p)
        go (Ok _) e goes = rw (run_takes s ls t m bar bars e) (goes e)
