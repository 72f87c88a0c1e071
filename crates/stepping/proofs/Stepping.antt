-- A C call over a bar is the call over bars that takes one.
use Rattle.std.specs.Prelude.{Err, Ok, Result}
use Rattle.words.specs.Prelude.{ℕ, ◌≡◌, refl, ◌∙◌, List}
use Rattle.records.specs.{declared.settings.Settings.Settings, declared.state.State.State, Lent.Rooms, Lent.Lists, Settings.settings_of, StateWords.state_of}
use Rattle.refusals.specs.{Lines.judged}
use Rattle.engine.specs.{Day.bars_for}
use Rattle.engine.specs.{Day.no_bars, Day.day_of, Run.goes_on, Run.run_over, Step.With, Step.step_answer, Laws.Refusal.refusal_changes_nothing}
use Rattle.replies.specs.{Call.Call, Call.call_of, Call.unless_bad}
use Rattle.stepping.specs.{Bars.StepLent, Bars.lent_lines, Bars.step_gives, Bars.step_call, Day.DayLent, Day.day_lent_lines, Day.state_after, Day.day_gives}
use Rattle.stepping.specs.{Day.day_call, WordRun.answer_of}
use Rattle.refusals.specs.{declared.day.Span.TheVariants.One}
use Rattle.refusals.specs.{Lines.Verdict}
use Rattle.words.specs.{declared.refusal.Refusal.Refusal}

-- without the count
abbrev uncounted : Call DayLent → Call StepLent
uncounted c = record { answer = c.answer; lent = record { state = c.lent.state; rooms = c.lent.rooms } }

module _ (settings state bar : List ℕ) (m : Rooms) (ls : Lists) where
  abbrev s : Settings
  s = settings_of settings

  abbrev t : State
  t = state_of state

  abbrev d : With (Result State (Refusal × State))
  d = step_answer s t bar m ls

  by_answer : (a : Result State (Refusal × State)) → d.result ≡ a
      → call_of (step_gives d.result state d.rooms) (record { state = state; rooms = m }) ≡ uncounted (day_gives (Ok tt) state m (day_of One s t bar m ls))
  unfolding step_gives call_of day_gives day_of bars_for run_over goes_on state_after answer_of
  by_answer (Err (why, u)) f = rw (f, (refusal_changes_nothing s t bar m ls why u f).2)
  by_answer (Ok u) f = rw f

  same_call : step_call settings state bar m ls ≡ uncounted (day_call One settings state bar m ls)
  unfolding step_call day_call day_lent_lines no_bars
  same_call = go (judged (lent_lines settings state m.rows))
    where
      go : (v : Verdict)
          → call_of (unless_bad v (step_gives d.result state d.rooms)) (record { state = state; rooms = m })
          ≡ uncounted (day_gives v state m (day_of One s t bar m ls))
      go (Err r) = unfold call_of unless_bad day_gives in refl
      go (Ok _) = unfold unless_bad in by_answer d.result refl

  pub one_call : {a n : ℕ} {words : List ℕ} {r : Rooms}
      → day_call One settings state bar m ls ≡ record { answer = a; lent = record { state = words; rooms = r; done = n } }
      → step_call settings state bar m ls ≡ record { answer = a; lent = record { state = words; rooms = r } }
  one_call e = same_call ∙ rw e
