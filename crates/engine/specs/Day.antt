-- Request 3, a whole day in one call. "Take many bars at once. State, trades, equity and window afterwards equal calling once a bar. At the
-- first bar that would be refused it stops: earlier bars stay done, and the answer gives the number, the place and how many were done."
use Rattle.std.specs.Prelude.{ℕ, zero, suc, ◌/◌, ◌≡◌, Bool, false, cond, List, [], ◌∷◌, eqb, length, take, drop, Err, Ok}
use Rattle.words.specs.{Limits.bar_words, declared.refusal.Refusal.Refusal}
use Rattle.records.specs.{declared.settings.Settings.Settings, declared.state.State.State, Lent.Lists, Lent.Rooms}
use Rattle.refusals.specs.{Day.whole_bars, Laws.Steady.Steady, Lines.judged, Lists.list_lines}
use Rattle.engine.specs.{declared.day.Day.Day, Run.Run, Run.run_over}
use Rattle.refusals.specs.{declared.day.Span.Span, declared.day.Span.TheVariants.One, declared.day.Span.TheVariants.Many}
use Rattle.refusals.specs.{Lines.Verdict}

-- the first n records of a list, each of w words
unfoldable pub in_records : ℕ → ℕ → List ℕ → List (List ℕ)
in_records zero w ws = []
in_records (suc n) w ws = take w ws ∷ in_records n w (drop w ws)

-- Decided: the bars are one list of records of 10 + K words. "13: .. a .. bar .. list is not whole records": it is judged as a step that is handed
-- the list as its bar.
unfoldable pub bars_in : ℕ → List ℕ → List (List ℕ)
bars_in K bars = cond (whole_bars K bars) (in_records (length bars / bar_words K) (bar_words K) bars) (bars ∷ [])

-- a call of one bar takes the list as that bar
unfoldable pub bars_for : Span → ℕ → List ℕ → List (List ℕ)
bars_for One K bars = bars ∷ []
bars_for Many K bars = bars_in K bars

-- a call of many that is handed none
unfoldable pub no_bars : Span → List ℕ → Bool
no_bars One bars = false
no_bars Many bars = eqb (length bars) 0

-- a step for each bar, over the state and the rooms that the one before left
unfoldable pub day_of : Span → Settings → State → List ℕ → Rooms → Lists → Run
day_of span s t bars m ls = run_over s ls t m (bars_for span s.slots bars)

-- what a call gives and leaves
abbrev pub run_with : Day → Rooms → Run
run_with d m = record { done = d.done; verdict = d.verdict; state = d.state; rooms = m }

-- a call whose first bar is refused
abbrev pub first_refused : State → Refusal → Day
first_refused t why = record { done = 0; verdict = Err why; state = t }

-- 15 comes last: where the first bar is refused with another number, that is given
unfoldable pub unlisted_by : Verdict → State → Refusal → Day
unlisted_by (Err why) t fifteen = first_refused t why
unlisted_by (Ok _) t fifteen = first_refused t fifteen

-- what was looked at once, and stays fine from bar to bar: what Steady says, and the lists
pub record Underway (s : Settings) (t : State) (m : Rooms) (ls : Lists) : Type 0 where
  pub steady : Steady s t m
  pub lists : judged (list_lines s.slots s.depth ls) ≡ Ok tt
