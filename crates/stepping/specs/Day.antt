-- The call that steps over many bars (request 3). Definitions only.
use Rattle.std.specs.Prelude.{ℕ, cond, List, eqb, Err, Ok}
use Rattle.words.specs.{Words.overwrite}
use Rattle.records.specs.{declared.state.State.State, Lent.Rooms, Lent.Lists, Settings.settings_of, StateWords.state_of, StateWords.words_of}
use Rattle.refusals.specs.{Lines.Line}
use Rattle.refusals.specs.{Lines.judged}
use Rattle.engine.specs.{Day.no_bars, Day.day_of, Run.Run}
use Rattle.replies.specs.{Call.Call, Call.answer_word, Call.word_lines}
use Rattle.stepping.specs.{Bars.lent_lines, WordRun.answer_of}
use Rattle.refusals.specs.{declared.day.Span.Span, declared.day.Span.TheVariants.Many}
use Rattle.refusals.specs.{Lines.Verdict}

-- the state's words, the rooms, and the count of bars done
pub record DayLent : Type 0 where
  pub state : List ℕ
  pub rooms : Rooms
  pub done : ℕ

-- Decided: no bars make no step, so of the rooms only those of the settings and the state are asked for.
unfoldable pub day_lent_lines : Span → List ℕ → List ℕ → List ℕ → List ℕ → List Line
day_lent_lines span settings state bars rows = cond (no_bars span bars) (word_lines settings state) (lent_lines settings state rows)

-- What is judged of the lent words before the engine is called: nothing where settings and state have all theirs, since it looks at the room of rows first.
unfoldable pub short_of : Verdict → Verdict → Verdict
short_of (Ok _) lent = Ok tt
short_of (Err why) lent = lent

-- "That bar itself changes nothing": where no bar was done, the words of the state are those that were given
unfoldable pub state_after : List ℕ → ℕ → State → List ℕ
state_after state done t = cond (eqb done 0) state (overwrite state 0 (words_of t))

-- "the answer gives the number, the place and how many were done": the count is given beside a refusal too
unfoldable pub day_gives : Verdict → List ℕ → Rooms → Run → Call DayLent
day_gives (Err why) state m run = record { answer = answer_word why; lent = record { state = state; rooms = m; done = 0 } }
day_gives (Ok _) state m run = record {
  answer = answer_of run.verdict;
  lent = record { state = state_after state run.done run.state; rooms = run.rooms; done = run.done };
}

-- of one bar, or of many
unfoldable pub day_call : Span → List ℕ → List ℕ → List ℕ → Rooms → Lists → Call DayLent
day_call span settings state bars m ls =
    day_gives (judged (day_lent_lines span settings state bars m.rows)) state m (day_of span (settings_of settings) (state_of state) bars m ls)

abbrev pub steps_call : List ℕ → List ℕ → List ℕ → Rooms → Lists → Call DayLent
steps_call = day_call Many
