-- The end of a run.
use Rattle.std.specs.Prelude.{ℕ, ◌+◌, ◌-◌, ◌*◌, cond, List, ltb, Float, take, set, Err, None, Ok, Option, Result, Some}
use Rattle.floats.specs.{Floats.word_of}
use Rattle.portfolio.specs.{Portfolio.equity, Trade.end}
use Rattle.execution.specs.{Costs.closed}
use Rattle.metrics.specs.{declared.Metrics.Metrics, Figures.metrics_of, Records.equity_of, Records.pnls_of}
use Rattle.records.specs.{declared.settings.Settings.Settings, declared.state.State.State, Lent.Rooms}
use Rattle.refusals.specs.{Judgement.finish_judged, Rooms.to_close}
use Rattle.engine.specs.{declared.answer.Ended.Ended}
use Rattle.engine.specs.{Account.leaving, Books.booked, Step.With}
use Rattle.words.specs.Limits as Limits
use Rattle.refusals.specs.{Lines.Verdict}
use Rattle.words.specs.{declared.refusal.Refusal.Refusal}
use Rattle.portfolio.specs.{declared.Closed.Closed}

-- "Finish closes an open position, if a bar was seen, at the last close with a taker fee, reason end."
unfoldable pub last_exit : Settings → State → Option Closed
last_exit s t =
    cond (to_close t)
    (Some (closed t.position.portfolio t.last.close t.last.time s.terms.taker_bps end))
    None

-- "If finish closes a position, the last equity point, where there is one, becomes the equity after closing" (request 7): the account's
-- at the last close, with nothing open. The point's time stays.
unfoldable pub remarked : List ℕ → ℕ → Option Closed → Float → List ℕ
remarked room points None close = room
remarked room points (Some c) close =
    cond (ltb 0 points) (set room ((points - 1) * Limits.point_words + 1) (word_of (equity c.portfolio close))) room

-- what is left of the state: the position is left, and the trade is counted
unfoldable pub end_state : State → Option Closed → ℕ → State
end_state t x trades = record {
  counts = record {
    bars_seen = t.counts.bars_seen;
    rows_held = t.counts.rows_held;
    equity_points = t.counts.equity_points;
    trades = trades;
  };
  order = t.order;
  position = leaving t.position x;
  last = t.last;
}

-- "Metrics take their equity from the marked points only, as `finish` does.": the last of them with the closing fee. The trades are all, the
-- last one too.
unfoldable pub measured : Settings → List ℕ → ℕ → List ℕ → ℕ → Metrics
measured s equity points trades count =
    metrics_of s.capital (equity_of (take (points * Limits.point_words) equity)) (pnls_of (take (count * Limits.trade_words) trades))

unfoldable pub ended : Settings → State → Rooms → With Ended
ended s t m =
    let x = last_exit s t in
    let b = booked m.trades t.counts.trades x in
    let e = remarked m.equity t.counts.equity_points x t.last.close in
    record {
      result = record { state = end_state t x b.count; metrics = measured s e t.counts.equity_points b.room b.count };
      rooms = record { rows = m.rows; equity = e; trades = b.room };
    }

-- The paper's values for each case of the answer.
unfoldable pub concluded : Verdict → State → Rooms → With Ended → With (Result Ended (Refusal × State))
concluded (Err why) t m done = record { result = Err (why, t); rooms = m }
concluded (Ok _) t m done = record { result = Ok done.result; rooms = done.rooms }

unfoldable pub finish_of : Settings → State → Rooms → With (Result Ended (Refusal × State))
finish_of s t m = concluded (finish_judged s t m) t m (ended s t m)
