-- What stays as it is from bar to bar is looked at once: where it is fine, a step is judged by its counts, its places, its bar and the lists.
use Rattle.std.specs.Prelude.{ℕ, ◌%◌, ◌≡◌, refl, true, false, List, [], ◌∷◌, ◌++◌, eqb, length, Err, Ok}
use Rattle.words.specs.Prelude.{sym, ◌∙◌, append_assoc, eq-eqb, ne_eqb, eqb-false}
use Rattle.words.specs.{Limits.bar_words, declared.refusal.Refusal.Refusal}
use Rattle.records.specs.{declared.settings.Settings.Settings, declared.state.State.State, Lent.Rooms, Lent.Lists}
use Rattle.refusals.specs.{Lines.Line, Lines.line, Lines.judged}
use Rattle.refusals.specs.{Bar.bar_lines, Day.whole_bars, Day.whole_for, Day.day_lines, Day.next_lines, Judgement.run_lines, Judgement.step_lines}
use Rattle.refusals.specs.{Judgement.step_judged, Lists.list_lines, Rooms.held_fine, Rooms.entry_below, Rooms.room_lines, Rooms.state_lines, Rooms.place_lines}
use Rattle.refusals.specs.{Settings.setting_lines, Laws.Lines.first_holds, Laws.Lines.below_fine, Laws.Lines.below_bad, Laws.Lines.fine_adds_nothing}
use Rattle.refusals.specs.{Laws.Lines.both_fine}
use Rattle.std.proofs.Math.Nat.{mod_self}
use Rattle.refusals.specs.{declared.day.Span.Span, declared.day.Span.TheVariants.One, declared.day.Span.TheVariants.Many}

-- a room for D rows, fine settings, counts that are within the rooms, and an entry bar below the bars seen
pub record Steady (s : Settings) (t : State) (m : Rooms) : Type 0 where
  pub room : judged (room_lines s m.rows) ≡ Ok tt
  pub settings : judged (setting_lines s) ≡ Ok tt
  pub held : held_fine s.slots t.counts m ≡ true
  pub entry : entry_below t.position.entered t.counts.bars_seen ≡ true

-- a list that is not whole bars is not one bar
not_a_bar : (K : ℕ) (bars : List ℕ) → whole_bars K bars ≡ false → eqb (length bars) (bar_words K) ≡ false
unfolding whole_bars
not_a_bar K bars h = ne_eqb _ _ (λ (e : length bars ≡ bar_words K). eqb-false (length bars % bar_words K) 0 h (rw (e, mod_self)))

-- lines below one that does not hold are not looked at
stops_there : (a b : List Line) (why : Refusal) → judged (a ++ (line false why ∷ b)) ≡ judged (a ++ (line false why ∷ []))
unfolding judged
stops_there [] b why = refl
stops_there (l ∷ a) b why = rw (stops_there a b why)

-- what a call of one bar is handed that is not a bar, and what a call of many is handed that is not whole bars
no_bar : (span : Span) (K : ℕ) (bars : List ℕ) → whole_for span K bars ≡ false → eqb (length bars) (bar_words K) ≡ false
unfolding whole_for
no_bar One K bars h = h
no_bar Many K bars h = not_a_bar K bars h

module _ (span : Span) (s : Settings) (t : State) (bars : List ℕ) (m : Rooms) where
  abbrev whole : Line
  whole = line (whole_for span s.slots bars) Refusal.Records

  -- what is looked at once stands before anything else that a step looks at
  day_lines_lem : day_lines span s t bars m ≡ run_lines s t m ++ (whole ∷ [])
  unfolding day_lines run_lines
  day_lines_lem = simp append_assoc

  -- where it is fine, it is steady, and the bars are whole
  pub day_fine : judged (day_lines span s t bars m) ≡ Ok tt → Steady s t m × (whole_for span s.slots bars ≡ true)
  unfolding day_lines state_lines
  day_fine h =
      let room = both_fine (room_lines s m.rows) _ h in
      let settings = both_fine (setting_lines s) _ room.1 in
      let held = first_holds _ _ (first_holds _ _ settings.1).1 in
      let entry = first_holds _ _ held.1 in
      (record { room = room.0; settings = settings.0; held = held.0; entry = entry.0 }, (first_holds _ _ entry.1).0)

  module _ (ls : Lists) (why : Refusal) (bad : judged (day_lines span s t bars m) ≡ Err why) where
    -- where it is not, no bar of whole bars is taken
    pub day_bad : whole_for span s.slots bars ≡ true → (bar : List ℕ) → step_judged s t bar m ls ≡ Err why
    unfolding step_judged step_lines
    day_bad h bar =
        let run = fine_adds_nothing (run_lines s t m) (line true Refusal.Records ∷ []) (unfold judged in refl) in
        below_bad (run_lines s t m) _ why (sym run ∙ (rw (day_lines_lem, h) at bad))

    -- nor a list that is not whole bars, as a bar
    pub day_ragged : whole_for span s.slots bars ≡ false → step_judged s t bars m ls ≡ Err why
    unfolding step_judged step_lines
    day_ragged h = rw (no_bar span s.slots bars h) (stops_there (run_lines s t m) _ Refusal.Records ∙ (rw (day_lines_lem, h) at bad))

-- THE LINES OF EACH BAR say of it what all lines of a step say.
pub next_judged : (s : Settings) (t : State) (bar : List ℕ) (m : Rooms) (ls : Lists) → Steady s t m → length bar ≡ bar_words s.slots
    → step_judged s t bar m ls
    ≡ judged (next_lines s.slots t.counts bar m.equity m.trades ++ list_lines s.slots s.depth ls)
unfolding step_judged step_lines run_lines state_lines next_lines
next_judged s t bar m ls c whole =
    let places : List Line = place_lines t.counts m.equity m.trades in
    let bars : List Line = bar_lines s.slots bar t.counts.bars_seen in
    rw (append_assoc (room_lines s m.rows), append_assoc (setting_lines s), append_assoc places bars (list_lines s.slots s.depth ls))
    (below_fine (room_lines s m.rows) _ c.room ∙ (below_fine (setting_lines s) _ c.settings
    ∙ (unfold judged in rw (c.held, c.entry, eq-eqb (length bar) (bar_words s.slots) whole))))
