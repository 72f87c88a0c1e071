-- FINISH AFTER LOSSES, in the words of the C calls. `ysh_finish` measures the points and trades of its own life. The figures of the whole run are what
-- `ysh_metrics` gives over the points and trades of before, put in front of its own.
use Rattle.std.specs.Prelude.{ℕ, ◌-◌, ◌≤◌, ◌≡◌, cond, List, [], ◌++◌, ltb, length, set}
use Rattle.words.specs.{Limits.metric_words, Words.overwrite, Words.word}
use Rattle.floats.specs.{Floats.word_of}
use Rattle.portfolio.specs.{Portfolio.equity}
use Rattle.metrics.specs.{Figures.figure_words}
use Rattle.records.specs.{declared.state.State.State, Lent.Lists, Lent.rooms, Settings.settings_of, StateWords.state_of}
use Rattle.engine.specs.{Whole.Ledger, Whole.whole_end, Whole.whole_metrics}
use Rattle.replies.specs.{Call.Call}
use Rattle.stepping.specs.{Bars.StepLent}
use Rattle.capi.specs.{Figures.metrics_call, Finish.FinishLent, Finish.finish_call}
use Rattle.capacitor.specs.{Capacitor.InEveryLife, Capacitor.now, Capacitor.unbroken, Loss.Loss, Loss.points_in, Loss.trades_in}
use Rattle.capacitor.specs.{Loss.points_before, Loss.trades_before}

-- `ysh_finish` of the box as it is now, and the box that it leaves
abbrev pub finish_now : List ℕ → Lists → StepLent → List Loss → List (List ℕ) → List ℕ → Call FinishLent
finish_now settings ls box losses bars metrics =
    let w = now settings ls box losses bars in
    finish_call settings w.lent.state w.lent.rooms metrics

abbrev pub box_finished : List ℕ → Lists → StepLent → List Loss → List (List ℕ) → List ℕ → StepLent
box_finished settings ls box losses bars metrics =
    let f = (finish_now settings ls box losses bars metrics).lent in
    record { state = f.state; rooms = rooms (now settings ls box losses bars).lent.rooms.rows f.equity f.trades }

-- Where a life has no point, the closing fee goes into the last that was kept: where finish closed a trade, its equity becomes the cash and the quantity
-- at the last close, by the state after the finish. It is the last word of the kept points.
unfoldable pub last_kept : List ℕ → State → List ℕ
last_kept points t = cond (ltb 0 t.counts.trades) (set points (length points - 1) (word_of (equity t.position.portfolio t.last.close))) points

-- `ysh_metrics` over these points and trades, with the capital of the settings, gives the figures of the whole run w that has ended
abbrev pub GivesWhole : List ℕ → Ledger → List ℕ → List ℕ → Type 0
GivesWhole settings w points trades =
    (room : List ℕ) → metric_words ≤ length room
    → metrics_call (word settings 2) points trades room
    ≡ record { answer = 0; lent = overwrite room 0 (figure_words (whole_metrics (settings_of settings) (whole_end (settings_of settings) w))) }

pub record FinishAfterLosses (table settings : List ℕ) (ls : Lists) (box : StepLent) (losses : List Loss)
    (bars : List (List ℕ)) (metrics : List ℕ) : Type 0 where
  -- the state counts a point, since a bar was taken after the last restore: the points and trades of before, and then those of this life
  pub own : let w = now settings ls box losses bars in
      let f = box_finished settings ls box losses bars metrics in
      1 ≤ (state_of w.lent.state).counts.equity_points
      → GivesWhole settings (unbroken table settings losses bars w.done) (points_before settings ls box losses ++ points_in f)
      (trades_before settings ls box losses ++ trades_in f)
  -- no bar was taken: the same trades, and the points of before, with the last as finish leaves it
  pub none : let f = box_finished settings ls box losses bars metrics in
      bars ≡ []
      → GivesWhole settings (unbroken table settings losses bars (now settings ls box losses bars).done)
      (last_kept (points_before settings ls box losses) (state_of f.state))
      (trades_before settings ls box losses ++ trades_in f)

-- THE STATEMENT: with the premises of the capacitor theorem, where `ysh_finish` answers 0, over a buffer for the figures.
abbrev pub FinishTheorem : Type 0
FinishTheorem =
    InEveryLife (λ table settings ls box losses bars.
    (metrics : List ℕ) → metric_words ≤ length metrics → (finish_now settings ls box losses bars metrics).answer ≡ 0
    → FinishAfterLosses table settings ls box losses bars metrics)
