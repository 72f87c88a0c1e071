-- The call that ends a run. Definitions only.
use Rattle.std.specs.Prelude.{ℕ, List, ◌++◌, Err, Ok, Result}
use Rattle.words.specs.{Words.overwrite, Outcome.Outcome, Outcome.gives, Outcome.refuses}
use Rattle.records.specs.{Lent.Rooms, Settings.settings_of, StateWords.state_of, StateWords.words_of}
use Rattle.refusals.specs.{Lines.judged}
use Rattle.engine.specs.{Finish.finish_of}
use Rattle.replies.specs.{Call.Call, Call.call_of, Call.unless_bad, Call.metric_lines}
use Rattle.stepping.specs.{Bars.lent_lines}
use Rattle.metrics.specs.Figures as Figures
use Rattle.records.specs.{declared.state.State.State}
use Rattle.engine.specs.{declared.answer.Ended.Ended}
use Rattle.words.specs.{declared.refusal.Refusal.Refusal}

-- the state's words, the rooms of equity points and of trades, and that of the metrics
pub record FinishLent : Type 0 where
  pub state : List ℕ
  pub equity : List ℕ
  pub trades : List ℕ
  pub metrics : List ℕ

-- what the engine's end comes to, in words
unfoldable pub finish_gives : Result Ended (Refusal × State) → List ℕ → Rooms → List ℕ → Outcome FinishLent
finish_gives (Err (why, given)) state rooms metrics = refuses why
finish_gives (Ok ended) state rooms metrics = gives (record {
  state = overwrite state 0 (words_of ended.state);
  equity = rooms.equity;
  trades = rooms.trades;
  metrics = overwrite metrics 0 (Figures.figure_words ended.metrics);
})

unfoldable pub finish_call : List ℕ → List ℕ → Rooms → List ℕ → Call FinishLent
finish_call settings state rooms metrics =
    let d = finish_of (settings_of settings) (state_of state) rooms in
    call_of (unless_bad (judged (lent_lines settings state rooms.rows ++ metric_lines metrics)) (finish_gives d.result state d.rooms metrics))
    (record { state = state; equity = rooms.equity; trades = rooms.trades; metrics = metrics })
