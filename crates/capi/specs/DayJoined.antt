-- ysh_steps is ysh_step, bar after bar: for any words of settings and state, any bars, rooms and lists.
use Rattle.std.specs.Prelude.{ℕ, ◌+◌, ◌-◌, ◌/◌, ◌<◌, ◌≤◌, ◌≡◌, refl, Bool, true, false, List, [], ◌∷◌, length, take, drop, Err, Ok}
use Rattle.words.specs.Prelude.{sym, ◌∙◌, arith, leb-true, ne_eqb}
use Rattle.words.specs.{Limits.setting_words, Limits.state_words, Limits.bar_words, declared.refusal.Refusal.Refusal, Outcome.Outcome, Outcome.refuses}
use Rattle.records.specs.{declared.settings.Settings.Settings, declared.state.State.State, Lent.Rooms, Lent.Lists, Laws.RoundTrip.words_floats}
use Rattle.records.specs.{Settings.settings_of, StateWords.state_of}
use Rattle.refusals.specs.{Day.whole_bars, Day.whole_for, Lines.judged, Laws.Lines.first_holds, Laws.Lines.both_fine, Rooms.room_lines}
use Rattle.engine.specs.{Day.in_records, Day.bars_in, Day.bars_for, Day.no_bars, Day.day_of, Laws.Days.records_next, Laws.Days.bars_none, Laws.Days.whole_one}
use Rattle.engine.specs.{Laws.Days.some_bars, Laws.Runs.run_none, Laws.Runs.run_stops, Laws.Runs.run_takes, Run.Run, Run.run_over, Step.answered, Step.stepped}
use Rattle.engine.specs.{Step.step_verdict, Step.step_answer}
use Rattle.runs.specs.{Laws.Floats.step_floats}
use Rattle.replies.specs.{Call.Call, Call.answer_word, Call.call_of, Call.unless_bad, Call.word_lines}
use Rattle.stepping.specs.{Bars.StepLent, Bars.lent_lines, Bars.step_gives, Bars.step_call, Day.DayLent, Day.day_lent_lines, Day.state_after, Day.day_gives}
use Rattle.stepping.specs.{Day.day_call, Day.steps_call, WordRun.WordRun, WordRun.calls_over, WordRun.answer_of, WordRun.lent_with}
use Rattle.capi.specs.{Joined.first_agrees, Joined.words_fine, Joined.lent_fine, Joined.room_first, Joined.room_passed, Joined.calls_run}
use Rattle.capi.specs.{Laws.Calls.refused_word, Laws.DumpCalls.lent_small, Laws.RunCalls.step_small}
use Rattle.refusals.specs.{declared.day.Span.TheVariants.Many}
use Rattle.refusals.specs.{Lines.Verdict}

-- a run in words, over a state's words as they were given
abbrev pub from_words : List ℕ → Run → WordRun
from_words state r = record { done = r.done; answer = answer_of r.verdict; lent = record { state = state_after state r.done r.state; rooms = r.rooms } }

-- calls as one call gives them
abbrev pub in_one : WordRun → Call DayLent
in_one r = record { answer = r.answer; lent = record { state = r.lent.state; rooms = r.lent.rooms; done = r.done } }

-- a list of whole bars with a word has a bar
first_bar : (K w : ℕ) (ws : List ℕ) → whole_bars K (w ∷ ws) ≡ true → bar_words K ≤ length (w ∷ ws)
unfolding no_bars whole_for
first_bar K w ws h = whole_one K (w ∷ ws) Many (ne_eqb (length (w ∷ ws)) 0 (λ (z : length (w ∷ ws) ≡ 0). omega arith)) h

-- and is that bar and the others
bars_first : (K w : ℕ) (ws : List ℕ) → whole_bars K (w ∷ ws) ≡ true
    → bars_in K (w ∷ ws) ≡ take (bar_words K) (w ∷ ws) ∷ in_records (length (w ∷ ws) / bar_words K - 1) (bar_words K) (drop (bar_words K) (w ∷ ws))
unfolding bars_in
bars_first K w ws h = rw h (records_next _ (bar_words K) (w ∷ ws) (some_bars K (w ∷ ws) (first_bar K w ws h)))

module _ (settings state : List ℕ) (set : setting_words ≤ length settings) (long : state_words ≤ length state) (ls : Lists) (m : Rooms) where
  abbrev s : Settings
  s = settings_of settings

  abbrev t : State
  t = state_of state

  abbrev given : StepLent
  given = record { state = state; rooms = m }

  -- ---- the first call

  first_bad : (bar : List ℕ) (r : Refusal) → step_verdict s t bar m ls ≡ Err r
      → step_call settings state bar m ls ≡ record { answer = answer_word r; lent = given }
  unfolding step_call step_answer answered step_gives call_of
  first_bad bar r e =
      let again : ◌≡◌ {A = Outcome StepLent} (unless_bad (judged (room_lines s m.rows)) (refuses r)) (refuses r) =
      first_agrees _ _ (λ q f. let same : ◌≡◌ {A = Verdict} (Err r) (Err q) = sym e ∙ room_first s t bar m ls q f in cc) in
      rw (e, lent_fine settings state set long m.rows, again)

  first_fine : (bar : List ℕ) → step_verdict s t bar m ls ≡ Ok tt →
      (let d = stepped s t bar m ls in step_call settings state bar m ls ≡ record { answer = 0; lent = lent_with state d.result d.rooms })
  unfolding step_call step_answer answered step_gives call_of unless_bad
  first_fine bar e = rw (e, lent_fine settings state set long m.rows, room_passed s t bar m ls e)

  -- and those after it
  calls_from : (bar : List ℕ) (bars : List (List ℕ)) → calls_over settings ls given (bar ∷ bars) ≡ from_words state (run_over s ls t m (bar ∷ bars))
  unfolding calls_over answer_of state_after
  calls_from bar bars = go (step_verdict s t bar m ls) refl
    where
      go : (v : Verdict) → step_verdict s t bar m ls ≡ v → calls_over settings ls given (bar ∷ bars) ≡ from_words state (run_over s ls t m (bar ∷ bars))
      go (Err r) e =
          rw (first_bad bar r e, run_stops s ls t m bar bars r e, ne_eqb (answer_word r) 0 (refused_word r (step_small s t bar m ls r e)))
      go (Ok _) e =
          let d = stepped s t bar m ls in
          let later : Run = run_over s ls d.result d.rooms bars in
          let some = ne_eqb (later.done + 1) 0 (λ (z : later.done + 1 ≡ 0). omega arith) in
          rw (
            first_fine bar e,
            run_takes s ls t m bar bars e,
            calls_run settings state set long ls bars d.result d.rooms (step_floats s t bar m ls (words_floats state)),
            some,
          )

  -- ---- the call over many bars

  no_bars_lem : (bars : List ℕ) → length bars ≡ 0 → steps_call settings state bars m ls ≡ in_one (calls_over settings ls given (bars_in s.slots bars))
  unfolding day_call day_lent_lines no_bars day_gives day_of bars_for calls_over state_after answer_of
  no_bars_lem bars none = rw (none, words_fine settings state set long, bars_none s.slots bars none, run_none)

  some_of : (bars bar : List ℕ) (more : List (List ℕ)) → 0 < length bars → bars_in s.slots bars ≡ bar ∷ more
      → steps_call settings state bars m ls ≡ in_one (calls_over settings ls given (bars_in s.slots bars))
  unfolding day_call day_lent_lines no_bars day_of bars_for
  some_of bars bar more some e =
      let many = ne_eqb (length bars) 0 (λ (z : length bars ≡ 0). omega arith) in
      rw (e, many, calls_from bar more, lent_fine settings state set long m.rows) (go (judged (room_lines s m.rows)) refl)
    where
      go : (v : Verdict) → judged (room_lines s m.rows) ≡ v
          → day_gives v state m (run_over s ls t m (bar ∷ more)) ≡ in_one (from_words state (run_over s ls t m (bar ∷ more)))
      go (Err r) f = unfold day_gives state_after answer_of in rw (run_stops s ls t m bar more r (room_first s t bar m ls r f))
      go (Ok _) f = unfold day_gives in refl

-- ---- rooms that have not their words

-- what was lent had its words
pub words_had : (settings state : List ℕ) → judged (word_lines settings state) ≡ Ok tt → (setting_words ≤ length settings) × (state_words ≤ length state)
unfolding word_lines
words_had settings state fine =
    let first = first_holds _ _ fine in
    (leb-true _ _ first.0, leb-true _ _ (first_holds _ _ first.1).0)

pub lent_had : (settings state rows : List ℕ) → judged (lent_lines settings state rows) ≡ Ok tt → (setting_words ≤ length settings) × (state_words ≤ length state)
unfolding lent_lines
lent_had settings state rows fine = words_had settings state (both_fine (room_lines (settings_of settings) rows) (word_lines settings state) fine).1

-- a call of either kind is refused with the same, before it looks at a bar
lent_bad : (settings state : List ℕ) (ls : Lists) (m : Rooms) (bars bar : List ℕ) (more : List (List ℕ)) → 0 < length bars
    → bars_in (settings_of settings).slots bars ≡ bar ∷ more → (r : Refusal) → judged (lent_lines settings state m.rows) ≡ Err r
    → steps_call settings state bars m ls ≡ in_one (calls_over settings ls (record { state = state; rooms = m }) (bars_in (settings_of settings).slots bars))
unfolding day_call day_lent_lines no_bars day_gives calls_over step_call call_of unless_bad
lent_bad settings state ls m bars bar more some e r bad =
    let many = ne_eqb (length bars) 0 (λ (z : length bars ≡ 0). omega arith) in
    rw (e, many, bad, ne_eqb (answer_word r) 0 (refused_word r (lent_small settings state m.rows r bad)))

-- ---- the law

-- a list that is not empty has a first bar, whole or not
record FirstBar (K : ℕ) (bars : List ℕ) : Type 0 where
  bar : List ℕ
  more : List (List ℕ)
  is : bars_in K bars ≡ bar ∷ more

first_of : (K w : ℕ) (ws : List ℕ) → FirstBar K (w ∷ ws)
first_of K w ws = go (whole_bars K (w ∷ ws)) refl
  where
    go : (b : Bool) → whole_bars K (w ∷ ws) ≡ b → FirstBar K (w ∷ ws)
    go true h = record { bar = _; more = _; is = bars_first K w ws h }
    go false h = record { bar = w ∷ ws; more = []; is = unfold bars_in in rw h }

-- ONE CALL IS A CALL FOR EACH BAR: the answer, how many did their work, the words of the state and of every room. For any words and rooms of any length,
-- where the list has a word; one that has none makes no call of `ysh_step`, and asks for the rooms of settings and state alone.
pub steps_are_calls : (settings state : List ℕ) (ls : Lists) (m : Rooms) (bars : List ℕ) → (length bars ≡ 0 → judged (word_lines settings state) ≡ Ok tt)
    → steps_call settings state bars m ls ≡ in_one (calls_over settings ls (record { state = state; rooms = m }) (bars_in (settings_of settings).slots bars))
steps_are_calls settings state ls m [] words = let had = words_had settings state (words refl) in no_bars_lem settings state had.0 had.1 ls m [] refl
steps_are_calls settings state ls m (w ∷ ws) words = go (judged (lent_lines settings state m.rows)) refl
  where
    K : ℕ
    K = (settings_of settings).slots

    first : FirstBar K (w ∷ ws)
    first = first_of K w ws

    go : (v : Verdict) → judged (lent_lines settings state m.rows) ≡ v
        → steps_call settings state (w ∷ ws) m ls ≡ in_one (calls_over settings ls (record { state = state; rooms = m }) (bars_in K (w ∷ ws)))
    go (Err r) bad = lent_bad settings state ls m (w ∷ ws) first.bar first.more (omega arith) first.is r bad
    go (Ok _) fine =
        let had = lent_had settings state m.rows fine in
        some_of settings state had.0 had.1 ls m (w ∷ ws) first.bar first.more (omega arith) first.is
