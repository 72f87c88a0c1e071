-- Where the equity and trade rooms have a place for every bar, and the bars are no more than 4,294,967,295, no bar is refused with 14.
use Rattle.std.specs.Prelude.{ℕ, ◌+◌, ◌≤◌, ◌<◌, ◌≡◌, refl, Bool, true, false, cond, not, ◌&&◌, ◌||◌, List, [], ◌∷◌, ◌++◌, eqb, length, Err, Ok}
use Rattle.words.specs.Prelude.{sym, ◌∙◌, arith, lt-ltb, eqb-false}
use Rattle.words.specs.{Limits.most_count}
use Rattle.records.specs.{declared.settings.Settings.Settings, declared.state.State.State, Lent.Lists, Lent.Rooms, Lent.point_places, Lent.trade_places}
use Rattle.refusals.specs.{Bar.bar_lines, Judgement.run_lines, Judgement.step_lines, Laws.Lines.never, Laws.Lines.and_true, Lines.Line, Lines.judged}
use Rattle.refusals.specs.{Lists.list_lines, Rooms.room_lines, Rooms.state_lines, Rooms.place_lines, Settings.sizing_lines, Settings.slippage_lines}
use Rattle.refusals.specs.{Settings.risk_lines, Settings.term_lines, Settings.entry_lines, Settings.setting_lines}
use Rattle.engine.specs.{Boxes.Sound, Boxes.NotFull, Laws.Runs.run_none, Laws.Runs.run_stops, Laws.Runs.run_takes, Run.run_over, Step.size_lines, Step.stepped}
use Rattle.engine.specs.{Step.step_verdict}
use Rattle.runs.specs.{Laws.Alike.step_sound, Laws.Counts.step_lengths}
use Rattle.refusals.specs.{Lines.Verdict}
use Rattle.words.specs.{Outcome.number_of}

-- each line has another number than 14, or holds
unfoldable none_fourteen : List Line → Bool
none_fourteen [] = true
none_fourteen (l ∷ ls) = (not (eqb (number_of l.why) 14) || l.ok) && none_fourteen ls

-- then so has the refusal that they come to
not_fourteen : (ls : List Line) → none_fourteen ls ≡ true → NotFull (judged ls)
unfolding none_fourteen judged NotFull
not_fourteen [] a why e n = never (sym e)
not_fourteen (l ∷ ls) a why e n =
    let both = and_true (not (eqb (number_of l.why) 14) || l.ok) (none_fourteen ls) a in
    by_line (eqb (number_of l.why) 14) l.ok (judged ls) refl both.0 (λ h. not_fourteen ls both.1 why h n) e
  where
    by_line : (is ok : Bool) (v : Verdict) → eqb (number_of l.why) 14 ≡ is → (not is || ok) ≡ true → (v ≡ Err why → ⊥)
        → cond ok v (Err l.why) ≡ Err why → ⊥
    by_line is true v h a below e = below e
    by_line false false v h a below e = let same : (number_of l.why) ≡ (number_of why) = cc in eqb-false (number_of l.why) 14 h (same ∙ n)
    by_line true false v h a below e = let z : ◌≡◌ {A = ℕ} 0 1 = cc in omega arith

-- the lines of places hold, and the others have other numbers
step_free : (s : Settings) (t : State) (bar : List ℕ) (m : Rooms) (ls : Lists) → t.counts.equity_points < point_places m.equity
    → t.counts.trades < trade_places m.trades → t.counts.bars_seen < most_count
    → none_fourteen (step_lines s t bar m ls ++ size_lines s t bar m) ≡ true
unfolding none_fourteen size_lines step_lines run_lines room_lines setting_lines term_lines entry_lines sizing_lines slippage_lines risk_lines state_lines place_lines
    bar_lines list_lines
step_free s t bar m ls points trades bars = rw (lt-ltb _ _ points, lt-ltb _ _ trades, lt-ltb _ _ bars)

-- places for n more bars
pub record PlacesFor (n : ℕ) (t : State) (m : Rooms) : Type 0 where
  pub points : t.counts.bars_seen + n ≤ point_places m.equity
  pub trades : t.counts.bars_seen + n ≤ trade_places m.trades
  pub bars : t.counts.bars_seen + n ≤ most_count

module _ (s : Settings) (ls : Lists) (t : State) (m : Rooms) (bar : List ℕ) (n : ℕ) (sound : Sound s t m) (p : PlacesFor (n + 1) t m) where
  places_on : PlacesFor n (stepped s t bar m ls).result (stepped s t bar m ls).rooms
  places_on =
      let l = step_lengths s t bar m ls sound.within in
      let seen : (stepped s t bar m ls).result.counts.bars_seen ≡ t.counts.bars_seen + 1 = unfold stepped in refl in
      record {
        points = rw (seen, l.equity) (omega (arith, p.points));
        trades = rw (seen, l.trades) (omega (arith, p.trades));
        bars = rw seen (omega (arith, p.bars));
      }

  bar_free : NotFull (step_verdict s t bar m ls)
  unfolding step_verdict
  bar_free =
      let w = sound.within in
      not_fourteen (step_lines s t bar m ls ++ size_lines s t bar m)
      (step_free s t bar m ls (omega (arith, w.points_seen, p.points)) (omega (arith, w.trades_seen, p.trades)) (omega (arith, p.bars)))

-- A PLACE FOR EVERY BAR: then 14 never comes.
pub never_full : (s : Settings) (ls : Lists) (bars : List (List ℕ)) (t : State) (m : Rooms) → Sound s t m → PlacesFor (length bars) t m
    → NotFull (run_over s ls t m bars).verdict
never_full s ls [] t m sound p = rw run_none (unfold NotFull in λ why e n. never (sym e))
never_full s ls (bar ∷ bars) t m sound p =
    let q : PlacesFor (length bars + 1) t m = record { points = omega (arith, p.points); trades = omega (arith, p.trades); bars = omega (arith, p.bars) } in
    go (step_verdict s t bar m ls) refl (bar_free s ls t m bar (length bars) sound q)
    (never_full s ls bars (stepped s t bar m ls).result (stepped s t bar m ls).rooms (step_sound s t bar m ls sound)
    (places_on s ls t m bar (length bars) sound q))
  where
    go : (v : Verdict) → step_verdict s t bar m ls ≡ v → NotFull (step_verdict s t bar m ls)
        → NotFull (run_over s ls (stepped s t bar m ls).result (stepped s t bar m ls).rooms bars).verdict
        → NotFull (run_over s ls t m (bar ∷ bars)).verdict
    go (Err why) e here later = rw (run_stops s ls t m bar bars why e) (rw e at here)
    go (Ok _) e here later = rw (run_takes s ls t m bar bars e) later
