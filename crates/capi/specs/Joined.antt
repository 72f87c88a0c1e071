-- The C interface is the engine: fresh, a call of step for each bar, and finish, on words, are the engine's fresh state, its run and its end.
use Rattle.std.specs.Prelude.{ℕ, ◌≤◌, ◌≡◌, refl, List, [], ◌∷◌, ◌++◌, length, Err, Ok}
use Rattle.words.specs.Prelude.{sym, ◌∙◌, le-leb, ne_eqb}
use Rattle.words.specs.{Limits.setting_words, Limits.state_words, Limits.metric_words, declared.refusal.Refusal.Refusal, Outcome.Outcome, Outcome.refuses}
use Rattle.words.specs.{Words.overwrite, Laws.Overwrite.overwrite-length}
use Rattle.records.specs.{declared.settings.Settings.Settings, declared.state.State.State, Lent.Rooms, Lent.Lists, Settings.settings_of, State.fresh_state}
use Rattle.records.specs.{StateWords.words_of, Laws.RoundTrip.Floats64, Laws.RoundTrip.state_kept, Laws.RoundTrip.state_again, Laws.RoundTrip.fresh_floats}
use Rattle.refusals.specs.{Lines.judged, Rooms.room_lines, Judgement.run_lines, Judgement.step_lines, Judgement.step_judged, Judgement.finish_lines}
use Rattle.refusals.specs.{Judgement.finish_judged, Laws.Lines.below_bad, Laws.Lines.fine_adds_nothing, Laws.Lines.both_fine}
use Rattle.engine.specs.{declared.answer.Ended.Ended, Finish.ended, Finish.concluded, Finish.finish_of, Laws.Runs.run_none, Laws.Runs.run_stops}
use Rattle.engine.specs.{Laws.Runs.run_takes, Run.run_over, Laws.Verdict.handed_bad, Step.With, Step.stepped, Step.answered, Step.size_lines, Step.step_verdict}
use Rattle.engine.specs.{Step.step_answer}
use Rattle.runs.specs.{Laws.Floats.step_floats, Laws.Floats.run_floats, Laws.Floats.end_floats}
use Rattle.replies.specs.{Call.Call, Call.answer_word, Call.call_of, Call.unless_bad, Call.word_lines, Call.metric_lines}
use Rattle.stepping.specs.{Bars.StepLent, Bars.lent_lines, Bars.step_gives, Bars.step_call, WordRun.calls_over, WordRun.answer_of, WordRun.lent_with}
use Rattle.stepping.specs.{WordRun.in_words}
use Rattle.capi.specs.{Finish.FinishLent, Finish.finish_gives, Finish.finish_call, Fresh.fresh_call, Laws.Calls.refused_word, Laws.RunCalls.step_small}
use Rattle.metrics.specs.Figures as Figures
use Rattle.refusals.specs.{Lines.Verdict}

-- ---- rooms that have their words

-- a first verdict that the second repeats where it is bad
pub first_agrees : {A : Type 0} (v : Verdict) (o : Outcome A) → ((r : Refusal) → v ≡ Err r → o ≡ refuses r) → unless_bad v o ≡ o
unfolding unless_bad
first_agrees (Err r) o h = sym (h r refl)
first_agrees (Ok _) o h = refl

module _ (settings room : List ℕ) (set : setting_words ≤ length settings) (long : state_words ≤ length room) where
  pub words_fine : judged (word_lines settings room) ≡ Ok tt
  unfolding judged word_lines
  words_fine = rw (le-leb _ _ set, le-leb _ _ long)

  -- so the room of rows is all that a call asks for besides
  pub lent_fine : (rows : List ℕ) → judged (lent_lines settings room rows) ≡ judged (room_lines (settings_of settings) rows)
  unfolding lent_lines
  lent_fine rows = fine_adds_nothing (room_lines (settings_of settings) rows) _ words_fine

  module _ (metrics : List ℕ) (nine : metric_words ≤ length metrics) where
    finish_fine : (rows : List ℕ) → judged (lent_lines settings room rows ++ metric_lines metrics) ≡ judged (room_lines (settings_of settings) rows)
    finish_fine rows = fine_adds_nothing (lent_lines settings room rows) (metric_lines metrics) metrics_fine ∙ lent_fine rows
      where
        metrics_fine : judged (metric_lines metrics) ≡ Ok tt
        metrics_fine = unfold judged metric_lines in rw (le-leb _ _ nine)

-- and the engine asks for it first
pub room_first : (s : Settings) (t : State) (bar : List ℕ) (m : Rooms) (ls : Lists) (r : Refusal) → judged (room_lines s m.rows) ≡ Err r
    → step_verdict s t bar m ls ≡ Err r
room_first s t bar m ls r e =
    handed_bad s t bar m ls r
    (unfold step_judged step_lines run_lines in below_bad (run_lines s t m) _ r (unfold run_lines in below_bad (room_lines s m.rows) _ r e))

finish_room_first : (s : Settings) (t : State) (m : Rooms) (r : Refusal) → judged (room_lines s m.rows) ≡ Err r → finish_judged s t m ≡ Err r
unfolding finish_judged finish_lines
finish_room_first s t m r e = below_bad (room_lines s m.rows) _ r e

-- where the engine goes on, the room of rows has passed
pub room_passed : (s : Settings) (t : State) (bar : List ℕ) (m : Rooms) (ls : Lists) → step_verdict s t bar m ls ≡ Ok tt → judged (room_lines s m.rows) ≡ Ok tt
unfolding step_verdict step_lines run_lines
room_passed s t bar m ls e =
    (both_fine (room_lines s m.rows) _ (both_fine (run_lines s t m) _ (both_fine (step_lines s t bar m ls) (size_lines s t bar m) e).0).0).0

finish_room_passed : (s : Settings) (t : State) (m : Rooms) → finish_judged s t m ≡ Ok tt → judged (room_lines s m.rows) ≡ Ok tt
unfolding finish_judged finish_lines
finish_room_passed s t m e = (both_fine (room_lines s m.rows) _ e).0

-- ---- one call

module _ (settings room : List ℕ) (set : setting_words ≤ length settings) (long : state_words ≤ length room) (t : State) (h : Floats64 t) (m : Rooms) where
  words_long : state_words ≤ length (overwrite room 0 (words_of t))
  words_long = rw overwrite-length long

  -- a bar that the engine refuses
  step_bad : (bar : List ℕ) (ls : Lists) (r : Refusal) → step_verdict (settings_of settings) t bar m ls ≡ Err r
      → step_call settings (overwrite room 0 (words_of t)) bar m ls ≡ record { answer = answer_word r; lent = lent_with room t m }
  unfolding step_call step_answer answered step_gives call_of
  step_bad bar ls r e =
      let s : Settings = settings_of settings in
      let again : ◌≡◌ {A = Outcome StepLent} (unless_bad (judged (room_lines s m.rows)) (refuses r)) (refuses r) =
      first_agrees _ _ (λ q f. let same : ◌≡◌ {A = Verdict} (Err r) (Err q) = sym e ∙ room_first s t bar m ls q f in cc) in
      rw (state_kept t h room long, e, lent_fine settings (overwrite room 0 (words_of t)) set words_long m.rows, again)

  -- a bar that it takes
  step_fine : (bar : List ℕ) (ls : Lists) → step_verdict (settings_of settings) t bar m ls ≡ Ok tt →
      (let d = stepped (settings_of settings) t bar m ls in
      step_call settings (overwrite room 0 (words_of t)) bar m ls ≡ record { answer = 0; lent = lent_with room d.result d.rooms })
  unfolding step_call step_answer answered step_gives call_of unless_bad
  step_fine bar ls e =
      rw (
        state_kept t h room long,
        e,
        lent_fine settings (overwrite room 0 (words_of t)) set words_long m.rows,
        room_passed (settings_of settings) t bar m ls e,
        state_again t (stepped (settings_of settings) t bar m ls).result room long,
      )

-- ---- bar after bar

module _ (settings room : List ℕ) (set : setting_words ≤ length settings) (long : state_words ≤ length room) (ls : Lists) where
  one_bar : (bar : List ℕ) (bars : List (List ℕ)) (t : State) (m : Rooms) → Floats64 t → (v : Verdict) → step_verdict (settings_of settings) t bar m ls ≡ v →
      (let d = stepped (settings_of settings) t bar m ls in
      calls_over settings ls (lent_with room d.result d.rooms) bars ≡ in_words room (run_over (settings_of settings) ls d.result d.rooms bars))
      → calls_over settings ls (lent_with room t m) (bar ∷ bars) ≡ in_words room (run_over (settings_of settings) ls t m (bar ∷ bars))
  unfolding calls_over answer_of
  one_bar bar bars t m h (Err r) e later =
      rw (
        step_bad settings room set long t h m bar ls r e,
        run_stops (settings_of settings) ls t m bar bars r e,
        ne_eqb (answer_word r) 0 (refused_word r (step_small (settings_of settings) t bar m ls r e)),
      )
  one_bar bar bars t m h (Ok _) e later =
      rw (step_fine settings room set long t h m bar ls e, run_takes (settings_of settings) ls t m bar bars e, later)

  -- CALLS ON WORDS ARE THE ENGINE'S RUN, from any state whose floats are f64: as many bars, the answer of the verdict, and the words of the
  -- state and of the rooms, after every bar ("any list of bars") and at the first refusal
  pub calls_run : (bars : List (List ℕ)) (t : State) (m : Rooms) → Floats64 t
      → calls_over settings ls (lent_with room t m) bars ≡ in_words room (run_over (settings_of settings) ls t m bars)
  calls_run [] t m h = rw run_none (unfold calls_over answer_of in refl)
  calls_run (bar ∷ bars) t m h =
      one_bar bar bars t m h (step_verdict (settings_of settings) t bar m ls) refl (calls_run bars _ _ (step_floats (settings_of settings) t bar m ls h))

-- ---- the end

-- a call of finish is the engine's, which is judged v and leaves d
pub record IsEnd (call : Call FinishLent) (v : Verdict) (d : With Ended) (room metrics : List ℕ) : Type 0 where
  -- the answer of the verdict
  pub answer : call.answer ≡ answer_of v
  -- and where that is fine, the words of the state, of the points and trades and of the figures
  pub state : v ≡ Ok tt → call.lent.state ≡ overwrite room 0 (words_of d.result.state)
  pub equity : v ≡ Ok tt → call.lent.equity ≡ d.rooms.equity
  pub trades : v ≡ Ok tt → call.lent.trades ≡ d.rooms.trades
  pub figures : v ≡ Ok tt → call.lent.metrics ≡ overwrite metrics 0 (Figures.figure_words d.result.metrics)
  -- a state that words can hold, so that calls may go on with it
  pub floats : Floats64 d.result.state

-- finish on the words of a state
abbrev pub EndsInWords : List ℕ → List ℕ → State → Rooms → List ℕ → Type 0
EndsInWords settings room t m metrics =
    let s = settings_of settings in
    IsEnd (finish_call settings (overwrite room 0 (words_of t)) m metrics) (finish_judged s t m) (ended s t m) room metrics

module _ (settings room : List ℕ) (set : setting_words ≤ length settings) (long : state_words ≤ length room) (t : State) (h : Floats64 t) (m : Rooms)
    (metrics : List ℕ) (nine : metric_words ≤ length metrics) where
  abbrev call : Call FinishLent
  call = finish_call settings (overwrite room 0 (words_of t)) m metrics

  abbrev end : With Ended
  end = ended (settings_of settings) t m

  end_bad : (r : Refusal) → finish_judged (settings_of settings) t m ≡ Err r → call.answer ≡ answer_word r
  unfolding finish_call finish_of concluded finish_gives call_of
  end_bad r e =
      let s : Settings = settings_of settings in
      let again : ◌≡◌ {A = Outcome FinishLent} (unless_bad (judged (room_lines s m.rows)) (refuses r)) (refuses r) =
      first_agrees _ _ (λ q f. let same : ◌≡◌ {A = Verdict} (Err r) (Err q) = sym e ∙ finish_room_first s t m q f in cc) in
      rw (
        state_kept t h room long,
        e,
        finish_fine settings (overwrite room 0 (words_of t)) set (words_long settings room set long t h m) metrics nine m.rows,
        again,
      )

  end_fine : finish_judged (settings_of settings) t m ≡ Ok tt
      → (call.answer ≡ 0) × (call.lent.state ≡ overwrite room 0 (words_of end.result.state)) × (call.lent.equity ≡ end.rooms.equity)
      × (call.lent.trades ≡ end.rooms.trades) × (call.lent.metrics ≡ overwrite metrics 0 (Figures.figure_words end.result.metrics))
  unfolding finish_call finish_of concluded finish_gives call_of unless_bad
  end_fine e =
      rw (
        state_kept t h room long,
        e,
        finish_fine settings (overwrite room 0 (words_of t)) set (words_long settings room set long t h m) metrics nine m.rows,
        finish_room_passed (settings_of settings) t m e,
        state_again t end.result.state room long,
      )
      (refl, refl, refl, refl, refl)

  end_answer : (v : Verdict) → finish_judged (settings_of settings) t m ≡ v → call.answer ≡ answer_of v
  unfolding answer_of
  end_answer (Err r) e = end_bad r e
  end_answer (Ok _) e = (end_fine e).0

  pub ends_in_words : EndsInWords settings room t m metrics
  ends_in_words = record {
    answer = end_answer _ refl;
    state = λ e. (end_fine e).1;
    equity = λ e. (end_fine e).2;
    trades = λ e. (end_fine e).3;
    figures = λ e. (end_fine e).4;
    floats = unfold ended in end_floats (settings_of settings) t _ h;
  }

-- ---- from the first call to the last

-- what is said of settings, a room for the state, lists, rooms, bars and a room for the figures
pub record Joined (settings room : List ℕ) (ls : Lists) (m : Rooms) (bars : List (List ℕ)) (metrics : List ℕ) : Type 0 where
  -- ysh_fresh: the words of the fresh state
  pub begins : fresh_call settings room ≡ record { answer = 0; lent = overwrite room 0 (words_of (fresh_state (settings_of settings))) }
  -- ysh_step, bar after bar: the run
  pub runs : calls_over settings ls (record { state = (fresh_call settings room).lent; rooms = m }) bars
      ≡ in_words room (run_over (settings_of settings) ls (fresh_state (settings_of settings)) m bars)
  -- ysh_finish: its end
  pub ends :
      (let r = run_over (settings_of settings) ls (fresh_state (settings_of settings)) m bars in
      EndsInWords settings room r.state r.rooms metrics)

-- THE C INTERFACE IS THE ENGINE, for any words in rooms that have the words of settings, state and figures
pub joined : (settings room : List ℕ) (ls : Lists) (m : Rooms) (bars : List (List ℕ)) (metrics : List ℕ)
    → setting_words ≤ length settings → state_words ≤ length room → metric_words ≤ length metrics → Joined settings room ls m bars metrics
joined settings room ls m bars metrics set long nine =
    let s : Settings = settings_of settings in
    let first : fresh_call settings room ≡ record { answer = 0; lent = overwrite room 0 (words_of (fresh_state s)) } =
    unfold fresh_call call_of unless_bad in rw (words_fine settings room set long) in
    let begun : Floats64 (fresh_state s) = fresh_floats settings in
    record {
      begins = first;
      runs = rw first (calls_run settings room set long ls bars (fresh_state s) m begun);
      ends = ends_in_words settings room set long _ (run_floats s ls bars (fresh_state s) m begun) _ metrics nine;
    }
