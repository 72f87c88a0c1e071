-- A run over some bars and then others is the run over the first and, where that took them all, the run over the others from what it left.
use Rattle.std.specs.Prelude.{ℕ, ◌+◌, ◌≡◌, refl, List, [], ◌∷◌, ◌++◌, Err, Ok}
use Rattle.words.specs.Prelude.{sym, ap, ◌∙◌, zero-add, arith}
use Rattle.words.specs.{declared.refusal.Refusal.Refusal}
use Rattle.records.specs.{declared.settings.Settings.Settings, declared.state.State.State, Lent.Lists, Lent.Rooms}
use Rattle.refusals.specs.{Laws.Lines.never}
use Rattle.engine.specs.{Laws.Runs.run_none, Laws.Runs.run_stops, Laws.Runs.run_takes, Run.Run, Run.one_more, Run.run_over, Step.stepped, Step.step_verdict}
use Rattle.refusals.specs.{Lines.Verdict}

-- both in one: r begins where b ended
abbrev pub joined_run : Run → Run → Run
joined_run b r = record { done = b.done + r.done; verdict = r.verdict; state = r.state; rooms = r.rooms }

-- "At the first bar that would be refused it stops": r begins only where b took all of its bars.
unfoldable pub then_run : Verdict → Run → Run → Run
then_run (Ok _) b r = joined_run b r
then_run (Err why) b r = b

-- a bar more before the first
more_then : (v : Verdict) (b r : Run) → one_more (then_run v b r) ≡ then_run v (one_more b) r
unfolding then_run
more_then (Ok _) b r = let e : b.done + r.done + 1 ≡ b.done + 1 + r.done = omega arith in rw e
more_then (Err why) b r = refl

-- RUN, AND RUN ON: a run over `before` and then `bars` is the run over `before`, and then, over what it left, the run over `bars`. There is no premise.
pub run_append : (s : Settings) (ls : Lists) (before bars : List (List ℕ)) (t : State) (m : Rooms)
    → let b = run_over s ls t m before in
    run_over s ls t m (before ++ bars) ≡ then_run b.verdict b (run_over s ls b.state b.rooms bars)
unfolding then_run
run_append s ls [] bars t m = rw (run_none s ls t m) (rw (zero-add (run_over s ls t m bars).done))
run_append s ls (bar ∷ before) bars t m =
    go (step_verdict s t bar m ls) refl (run_append s ls before bars (stepped s t bar m ls).result (stepped s t bar m ls).rooms)
  where
    first : Run
    first = run_over s ls (stepped s t bar m ls).result (stepped s t bar m ls).rooms before

    go : (v : Verdict) → step_verdict s t bar m ls ≡ v
        → run_over s ls (stepped s t bar m ls).result (stepped s t bar m ls).rooms (before ++ bars)
        ≡ then_run first.verdict first (run_over s ls first.state first.rooms bars)
        → let b = run_over s ls t m (bar ∷ before) in
        run_over s ls t m (bar ∷ (before ++ bars)) ≡ then_run b.verdict b (run_over s ls b.state b.rooms bars)
    go (Err why) e goes = rw (run_stops s ls t m bar before why e, run_stops s ls t m bar (before ++ bars) why e)
    go (Ok _) e goes =
        rw (run_takes s ls t m bar before e, run_takes s ls t m bar (before ++ bars) e, goes)
        (more_then first.verdict first (run_over s ls first.state first.rooms bars))

then_fine : (v : Verdict) (b r : Run) → b.verdict ≡ v → (then_run v b r).verdict ≡ Ok tt → (b.verdict ≡ Ok tt) × (r.verdict ≡ Ok tt)
unfolding then_run
then_fine (Ok _) b r e h = (e, h)
then_fine (Err why) b r e h = never (sym e ∙ h)

-- where the whole is fine, both parts are
pub append_fine : (s : Settings) (ls : Lists) (before bars : List (List ℕ)) (t : State) (m : Rooms) → (run_over s ls t m (before ++ bars)).verdict ≡ Ok tt
    → let b = run_over s ls t m before in
    (b.verdict ≡ Ok tt) × ((run_over s ls b.state b.rooms bars).verdict ≡ Ok tt)
append_fine s ls before bars t m h =
    let b : Run = run_over s ls t m before in
    then_fine b.verdict b (run_over s ls b.state b.rooms bars) refl (ap (λ (x : Run). x.verdict) (sym (run_append s ls before bars t m)) ∙ h)

-- after bars that were all taken
pub run_on : (s : Settings) (ls : Lists) (before bars : List (List ℕ)) (t : State) (m : Rooms)
    → let b = run_over s ls t m before in
    b.verdict ≡ Ok tt → run_over s ls t m (before ++ bars) ≡ joined_run b (run_over s ls b.state b.rooms bars)
run_on s ls before bars t m h =
    let b : Run = run_over s ls t m before in
    run_append s ls before bars t m ∙ ap (λ (v : Verdict). then_run v b (run_over s ls b.state b.rooms bars)) h
    ∙ (unfold then_run in refl)

-- and after one that was refused
pub run_over_lem : (s : Settings) (ls : Lists) (before bars : List (List ℕ)) (t : State) (m : Rooms) (why : Refusal)
    → let b = run_over s ls t m before in
    b.verdict ≡ Err why → run_over s ls t m (before ++ bars) ≡ b
run_over_lem s ls before bars t m why h =
    let b : Run = run_over s ls t m before in
    run_append s ls before bars t m ∙ ap (λ (v : Verdict). then_run v b (run_over s ls b.state b.rooms bars)) h
    ∙ (unfold then_run in refl)
