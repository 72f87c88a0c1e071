-- Where the row room has places for D rows, no bar is refused with 10.
use Rattle.std.specs.Prelude.{ℕ, ◌≤◌, ◌≡◌, refl, Bool, true, false, cond, ◌&&◌, ◌||◌, List, [], ◌∷◌, ◌++◌, leb, Err}
use Rattle.words.specs.Prelude.{sym, arith, le-leb, leb-true}
use Rattle.words.specs.{declared.refusal.Refusal.Refusal}
use Rattle.records.specs.{declared.settings.Settings.Settings, declared.state.State.State, Lent.Lists, Lent.Rooms, Lent.row_places, State.fresh_state}
use Rattle.refusals.specs.{Bar.bar_lines, Judgement.run_lines, Judgement.step_lines}
use Rattle.refusals.specs.{Laws.Lines.never, Laws.Lines.and_true, Lines.Line, Lines.judged, Lists.list_lines, Rooms.room_lines, Rooms.state_lines}
use Rattle.refusals.specs.{Rooms.place_lines, Settings.sizing_lines, Settings.slippage_lines, Settings.risk_lines, Settings.term_lines, Settings.entry_lines}
use Rattle.refusals.specs.{Settings.setting_lines}
use Rattle.engine.specs.{Boxes.Sound, Laws.Runs.run_ends, Run.run_over, Step.size_lines, Step.step_verdict}
use Rattle.runs.specs.{Laws.Alike.step_sound, Laws.TwoRuns.fresh_sound}
use Rattle.refusals.specs.{Lines.Verdict}
use Rattle.words.specs.{Outcome.number_of}

-- each line has a number above 10, or holds
above_ten : List Line → Bool
above_ten [] = true
above_ten (l ∷ ls) = (leb 11 (number_of l.why) || l.ok) && above_ten ls

-- then so has the refusal that they come to
above_ten_lem : (ls : List Line) (why : Refusal) → above_ten ls ≡ true → judged ls ≡ Err why → 11 ≤ number_of why
unfolding above_ten judged
above_ten_lem [] why a e = never (sym e)
above_ten_lem (l ∷ ls) why a e =
    let both = and_true (leb 11 (number_of l.why) || l.ok) (above_ten ls) a in
    by_line (leb 11 (number_of l.why)) l.ok (judged ls) refl both.0 (above_ten_lem ls why both.1) e
  where
    by_line : (high ok : Bool) (v : Verdict) → leb 11 (number_of l.why) ≡ high → (high || ok) ≡ true → (v ≡ Err why → 11 ≤ number_of why)
        → cond ok v (Err l.why) ≡ Err why → 11 ≤ number_of why
    by_line high true v h a below e = below e
    by_line true false v h a below e = let same : (number_of l.why) ≡ (number_of why) = cc in omega (arith, leb-true 11 (number_of l.why) h)
    by_line false false v h a below e = absurd (let z : ◌≡◌ {A = ℕ} 0 1 = cc in omega arith)

-- the first line of a step holds, and the others have other numbers
step_above : (s : Settings) (t : State) (bar : List ℕ) (m : Rooms) (ls : Lists) → s.depth ≤ row_places s.slots m.rows
    → above_ten (step_lines s t bar m ls ++ size_lines s t bar m) ≡ true
unfolding above_ten size_lines step_lines run_lines room_lines setting_lines term_lines entry_lines sizing_lines slippage_lines risk_lines state_lines place_lines bar_lines
    list_lines
step_above s t bar m ls deep = rw (le-leb _ _ deep)

-- Over any bars from a fresh state.
pub never_ten : (s : Settings) (ls : Lists) (m : Rooms) (bars : List (List ℕ)) → s.depth ≤ row_places s.slots m.rows
    → (why : Refusal) → (run_over s ls (fresh_state s) m bars).verdict ≡ Err why → number_of why ≡ 10 → ⊥
never_ten s ls m bars deep why e ten =
    let above : (why : Refusal) → (run_over s ls (fresh_state s) m bars).verdict ≡ Err why → 11 ≤ (number_of why) =
    run_ends s ls (Sound s) (λ t m bar h r. step_sound s t bar m ls r)
    (λ v. (why : Refusal) → v ≡ Err why → 11 ≤ number_of why) (λ why e. never (sym e))
    (λ t m bar r why e. above_ten_lem (step_lines s t bar m ls ++ size_lines s t bar m) why (step_above s t bar m ls r.depth) (unfold step_verdict in e))
    bars (fresh_state s) m (fresh_sound s m deep) in
    omega (arith, above why e)
