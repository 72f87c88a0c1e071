-- A C call over many bars is the engine's on what its words mean.
use Rattle.std.specs.Prelude.{Err, Ok}
use Rattle.words.specs.Prelude.{ℕ, ◌≡◌, refl, sym, ap, ◌∙◌, Bool, true, false, cond, List, ◌++◌, arith}
use Rattle.words.specs.{declared.refusal.Refusal.Refusal}
use Rattle.records.specs.{declared.state.State.State, Lent.Rooms, Lent.Lists, Lent.rooms, Settings.settings_of, StateWords.state_of}
use Rattle.refusals.specs.{Day.day_lines, Laws.Descent.bad_block, Laws.Descent.fine_block, Lines.Line, Lines.judged, Rooms.room_lines}
use Rattle.engine.specs.{Day.day_of, Day.no_bars, Laws.Days.day_stops, Run.Run}
use Rattle.replies.specs.{Call.answer_word, Call.word_lines}
use Rattle.stepping.specs.{Bars.lent_lines, Day.day_lent_lines, Day.short_of, Day.state_after, Day.day_gives, Day.day_call, WordRun.answer_of}
use Rattle.refusals.specs.{declared.day.Span.Span}
use Rattle.refusals.specs.{Lines.Verdict}

-- a refusal of short words is one of the lent words
short_bad : (words lent : Verdict) {v : Verdict} {r : Refusal} → v ≡ short_of words lent → v ≡ Err r → lent ≡ Err r
unfolding short_of
short_bad (Ok _) lent e bad = absurd (let z : ◌≡◌ {A = ℕ} 0 1 = cc in omega arith)
short_bad (Err why) lent e bad = sym e ∙ bad

module _ (span : Span) (settings state bars : List ℕ) (m : Rooms) (ls : Lists) where
  -- what the call refuses of the lent words, and the run that follows where it refuses nothing
  abbrev lent : Verdict
  lent = judged (day_lent_lines span settings state bars m.rows)

  abbrev ran : Run
  ran = day_of span (settings_of settings) (state_of state) bars m ls

  -- a room of rows that is too small is refused by the engine as by the call
  room_refused : (why : Refusal) → no_bars span bars ≡ false → judged (room_lines (settings_of settings) m.rows) ≡ Err why
      → day_gives (Err why) state m ran ≡ day_gives (Ok tt) state m ran
  unfolding day_gives state_after answer_of
  room_refused why some bad =
      let once : judged (day_lines span (settings_of settings) (state_of state) bars m) ≡ Err why = unfold day_lines in sym (bad_block _ _ refl bad) in
      rw (day_stops span (settings_of settings) (state_of state) bars m ls some why once)

  abbrev room : List Line
  room = room_lines (settings_of settings) m.rows

  -- so where settings and state have their words, the call is the run
  words_fine : judged (word_lines settings state) ≡ Ok tt → day_gives lent state m ran ≡ day_gives (Ok tt) state m ran
  unfolding day_lent_lines lent_lines
  words_fine fine = go (no_bars span bars) (judged room) refl refl
    where
      go : (none : Bool) (v : Verdict) → no_bars span bars ≡ none → judged room ≡ v
          → day_gives (judged (cond (no_bars span bars) (word_lines settings state) (room ++ word_lines settings state))) state m ran
          ≡ day_gives (Ok tt) state m ran
      go true v e f = rw (e, fine)
      go false (Ok _) e f = rw (e, ← fine_block room (word_lines settings state) (sym f) refl refl, fine)
      go false (Err why) e f =
          rw (e, ← bad_block room (word_lines settings state) {r = why} (sym f) refl) (room_refused why e f)

  module _ {v : Verdict} (short : v ≡ short_of (judged (word_lines settings state)) lent) where
    -- what is refused of short words is what the call refuses
    pub day_short : {r : Refusal} {a : ℕ} → v ≡ Err r → a ≡ answer_word r
        → day_call span settings state bars m ls ≡ record { answer = a; lent = record { state = state; rooms = m; done = 0 } }
    unfolding day_call day_gives
    day_short bad word = rw (short_bad (judged (word_lines settings state)) lent short bad, word)

    -- and where nothing is, the call is the run
    is_run : v ≡ Ok tt → day_gives lent state m ran ≡ day_gives (Ok tt) state m ran
    is_run fine = go (judged (word_lines settings state)) refl short
      where
        go : (w : Verdict) → judged (word_lines settings state) ≡ w → v ≡ short_of w lent → day_gives lent state m ran ≡ day_gives (Ok tt) state m ran
        go (Ok _) h e = words_fine h
        go (Err why) h e = ap (λ (x : Verdict). day_gives x state m ran) (unfold short_of in sym e ∙ fine)

    pub day_ran : {t u : State} {n a : ℕ} {w : Verdict} {ws es ts words : List ℕ} → v ≡ Ok tt → t ≡ state_of state
        → day_of span (settings_of settings) t bars m ls ≡ record { done = n; verdict = w; state = u; rooms = rooms ws es ts }
        → words ≡ state_after state n u → a ≡ answer_of w
        → day_call span settings state bars m ls ≡ record { answer = a; lent = record { state = words; rooms = rooms ws es ts; done = n } }
    unfolding day_call day_gives
    day_ran fine given went put word = is_run fine ∙ rw (← given, went, put, word)
