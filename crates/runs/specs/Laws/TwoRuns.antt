-- Two boxes with the same account and the same last D rows take as many bars and end with the same verdict.
use Rattle.std.specs.Prelude.{ℕ, ◌+◌, ◌≤◌, ◌≡◌, refl, List, [], ◌∷◌, Err, Ok}
use Rattle.words.specs.Prelude.{sym, ap, ◌∙◌}
use Rattle.records.specs.{declared.settings.Settings.Settings, declared.state.State.State, Lent.Lists, Lent.Rooms, Lent.row_places, State.fresh_state}
use Rattle.refusals.specs.{Laws.Lines.never}
use Rattle.engine.specs.{Boxes.Sound, Boxes.SameCounts, Boxes.NotFull, Boxes.Alike, Laws.Runs.run_none, Laws.Runs.run_stops, Laws.Runs.run_takes}
use Rattle.engine.specs.{Laws.Runs.run_keeps, Run.Run, Run.run_over, Step.With, Step.stepped, Step.step_verdict}
use Rattle.runs.specs.{Laws.Alike.step_alike, Laws.Alike.step_counts, Laws.Alike.step_sound, Laws.Counts.fresh_within}
use Rattle.runs.specs.{Laws.Verdicts.same_verdict, Laws.Verdicts.same_unless_full}
use Rattle.refusals.specs.{Lines.Verdict}

-- ---- a box that is sound stays so

pub fresh_sound : (s : Settings) (m : Rooms) → s.depth ≤ row_places s.slots m.rows → Sound s (fresh_state s) m
fresh_sound s m deep = record { depth = deep; within = fresh_within s m }

pub run_sound : (s : Settings) (ls : Lists) (bars : List (List ℕ)) (t : State) (m : Rooms) → Sound s t m
    → Sound s (run_over s ls t m bars).state (run_over s ls t m bars).rooms
run_sound s ls bars t m r = run_keeps s ls (Sound s) (λ u n bar h q. step_sound s u bar n ls q) bars t m r

-- ---- two boxes

-- Where boxes that are alike, and between which `Q` holds, are judged the same as long as both verdicts are `Free`, their runs
-- take as many bars and end with the same verdict.
module _ (s : Settings) (ls : Lists) (Free : Verdict → Type 0) (free : Free (Ok tt)) (Q : State → Rooms → State → Rooms → Type 0)
    (judge : (t : State) (m : Rooms) (t' : State) (m' : Rooms) (bar : List ℕ) → Alike s t m t' m' → Q t m t' m'
    → Free (step_verdict s t bar m ls) → Free (step_verdict s t' bar m' ls) → step_verdict s t bar m ls ≡ step_verdict s t' bar m' ls)
    (keep : (t : State) (m : Rooms) (t' : State) (m' : Rooms) (bar : List ℕ) → Alike s t m t' m'
    → step_verdict s t bar m ls ≡ Ok tt → step_verdict s t' bar m' ls ≡ Ok tt → Q t m t' m'
    → Q (stepped s t bar m ls).result (stepped s t bar m ls).rooms (stepped s t' bar m' ls).result (stepped s t' bar m' ls).rooms) where
  abbrev Ends : Run → Run → Type 0
  Ends r r' = Free r.verdict → Free r'.verdict → (r.done ≡ r'.done) × (r.verdict ≡ r'.verdict)

  two_runs : (bars : List (List ℕ)) (t : State) (m : Rooms) (t' : State) (m' : Rooms) → Alike s t m t' m' → Q t m t' m'
      → Ends (run_over s ls t m bars) (run_over s ls t' m' bars)
  two_runs [] t m t' m' alike q = rw (run_none s ls t m, run_none s ls t' m') (λ f f'. (refl, refl))
  two_runs (bar ∷ bars) t m t' m' alike q =
      go (step_verdict s t bar m ls) (step_verdict s t' bar m' ls) refl refl
      (λ h h'. two_runs bars _ _ _ _ (step_alike s ls t m t' m' bar alike h h') (keep t m t' m' bar alike h h' q))
    where
      d : With State
      d = stepped s t bar m ls

      d' : With State
      d' = stepped s t' bar m' ls

      -- judged the same, were both verdicts free
      so : (v v' : Verdict) → step_verdict s t bar m ls ≡ v → step_verdict s t' bar m' ls ≡ v' → Free v → Free v' → v ≡ v'
      so v v' e e' f f' = sym e ∙ judge t m t' m' bar alike q (rw e f) (rw e' f') ∙ e'

      go : (v v' : Verdict) → step_verdict s t bar m ls ≡ v → step_verdict s t' bar m' ls ≡ v'
          → (step_verdict s t bar m ls ≡ Ok tt → step_verdict s t' bar m' ls ≡ Ok tt
          → Ends (run_over s ls d.result d.rooms bars) (run_over s ls d'.result d'.rooms bars))
          → Ends (run_over s ls t m (bar ∷ bars)) (run_over s ls t' m' (bar ∷ bars))
      go (Err w) (Err w') e e' later =
          rw (run_stops s ls t m bar bars w e, run_stops s ls t' m' bar bars w' e') (λ f f'. (refl, so (Err w) (Err w') e e' f f'))
      go (Err w) (Ok _) e e' later = rw (run_stops s ls t m bar bars w e) (λ f f'. never (so (Err w) (Ok tt) e e' f free))
      go (Ok _) (Err w') e e' later = rw (run_stops s ls t' m' bar bars w' e') (λ f f'. never (sym (so (Ok tt) (Err w') e e' free f')))
      go (Ok _) (Ok _) e e' later =
          rw (run_takes s ls t m bar bars e, run_takes s ls t' m' bar bars e')
          (λ f f'. let x = later e e' f f' in (ap (λ (n : ℕ). n + 1) x.0, x.1))

-- with books that count as much and have places for as much
pub same_counts_run : (s : Settings) (ls : Lists) (bars : List (List ℕ)) (t : State) (m : Rooms) (t' : State) (m' : Rooms)
    → Alike s t m t' m' → Sound s t m → Sound s t' m' → SameCounts t m t' m'
    → let r = run_over s ls t m bars in
    let r' = run_over s ls t' m' bars in
    (r.done ≡ r'.done) × (r.verdict ≡ r'.verdict)
same_counts_run s ls bars t m t' m' alike sound sound' counts =
    two_runs s ls (λ v. Unit {0}) tt (λ t m t' m'. Sound s t m × Sound s t' m' × SameCounts t m t' m')
    (λ t m t' m' bar a q f f'. same_verdict s t t' m m' q.0 q.1 a q.2 bar ls)
    (λ t m t' m' bar a h h' q. (
      step_sound s t bar m ls q.0,
      step_sound s t' bar m' ls q.1,
      step_counts s ls t m t' m' bar a h h' q.0 q.1 q.2,
    ))
    bars t m t' m' alike (sound, sound', counts) tt tt

-- with any books, as long as neither is refused with 14
pub other_books_run : (s : Settings) (ls : Lists) (bars : List (List ℕ)) (t : State) (m : Rooms) (t' : State) (m' : Rooms)
    → Alike s t m t' m' → Sound s t m → Sound s t' m'
    → let r = run_over s ls t m bars in
    let r' = run_over s ls t' m' bars in
    NotFull r.verdict → NotFull r'.verdict → (r.done ≡ r'.done) × (r.verdict ≡ r'.verdict)
unfolding NotFull
other_books_run s ls bars t m t' m' alike sound sound' =
    two_runs s ls NotFull (λ why e. never (sym e)) (λ t m t' m'. Sound s t m × Sound s t' m')
    (λ t m t' m' bar a q f f'. same_unless_full s t t' m m' q.0 q.1 a bar ls f f')
    (λ t m t' m' bar a h h' q. (step_sound s t bar m ls q.0, step_sound s t' bar m' ls q.1))
    bars t m t' m' alike (sound, sound')
