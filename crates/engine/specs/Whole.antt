-- A run that keeps every row: what a bar does to an account, over all rows before it, and what it adds to the books.
use Rattle.std.specs.Prelude.{ℕ, ◌+◌, List, [], ◌∷◌, ◌++◌, Float, None, Option, Some}
use Rattle.words.specs.Prelude.{flat_map}
use Rattle.rows.specs.{History.History, History.history_of, History.last_rows}
use Rattle.rules.specs.{declared.position.PositionState.PositionState}
use Rattle.portfolio.specs.{declared.Candle.Candle, declared.Trade.Trade, Portfolio.equity, Trade.words_of_trade}
use Rattle.metrics.specs.{declared.Metrics.Metrics, Figures.metrics_of, Records.equity_of, Records.pnls_of}
use Rattle.records.specs.{declared.settings.Settings.Settings, declared.state.Last.Last, declared.state.Order.Order, declared.state.Position.Position}
use Rattle.records.specs.{declared.state.State.State, Bar.candle_of, Lent.Lists, Lent.Rooms, State.fresh_state}
use Rattle.engine.specs.{declared.account.Filled.Filled, Account.leaving, Account.filled, Account.intrabar, Account.charged, Books.Point, Books.point_of}
use Rattle.engine.specs.{Books.words_of_point, Books.last_becomes, Books.trades_of, Decide.Answers, Decide.answers_of, Decide.state_at, Decide.order_after}
use Rattle.engine.specs.{Finish.last_exit, Record.row_of, Record.held_rows, Rules.Rules, Rules.rules_of, Rules.meanings}
use Rattle.portfolio.specs.{declared.Closed.Closed}

-- ---- the account

-- What a state carries on from bar to bar beside the rows and the books.
pub record Account : Type 0 where
  pub seen : ℕ
  pub order : Order
  pub position : Position
  pub last : Last

abbrev pub account_of : State → Account
account_of t = record { seen = t.counts.bars_seen; order = t.order; position = t.position; last = t.last }

-- the rows that a state counts in its room
abbrev pub rows_held : Settings → State → Rooms → List ℕ
rows_held s t m = held_rows s.slots t.counts.rows_held m.rows

-- the rows of bars, oldest first
abbrev pub rows_of : Settings → List (List ℕ) → List ℕ
rows_of s bars = flat_map (row_of s.slots) bars

-- the last D of rows
abbrev pub last_of : Settings → List ℕ → List ℕ
last_of s rows = last_rows s.slots s.depth rows

-- ---- what the rules answer, over rows of which this bar's is the last

abbrev pub Asked : Type 0
Asked = List ℕ → PositionState → Answers

-- asked of their lists, over the last D rows
unfoldable pub by_lists : Settings → Lists → Asked
by_lists s ls rows p = answers_of (history_of s.slots (last_of s rows)) p ls

-- asked of what they mean, over all rows
unfoldable pub by_meaning : Settings → Rules → Asked
by_meaning s rs rows p = meanings (history_of s.slots rows) p rs

-- ---- a bar

-- how the working order is filled at a bar, over the rows before it
abbrev pub Fill : Type 0
Fill = Settings → Order → Position → Candle → History → ℕ → Filled

-- What a bar comes to: the account after it, its equity point, and the trades that it closes.
pub record Taken : Type 0 where
  pub account : Account
  pub point : Point
  pub trades : List Trade

-- "fill the working order, record the row, intrabar exits, funding, equity at the close, decide": `rows` are those of all bars
-- before this one
unfoldable pub taken_by : Fill → Settings → Asked → Account → List ℕ → List ℕ → Taken
taken_by fill s asked a rows bar =
    let k = candle_of bar in
    let f = fill s a.order a.position k (history_of s.slots rows) a.seen in
    let x = intrabar s f.position k in
    let p = charged s x.position bar in
    record {
      account = record {
        seen = a.seen + 1;
        order = order_after s f.order p a.seen k.close (asked (rows ++ row_of s.slots bar) (state_at p a.seen));
        position = p;
        last = record { time = k.time; close = k.close };
      };
      point = point_of k p;
      trades = trades_of f.«exit» ++ trades_of x.«exit»;
    }

abbrev pub taken : Settings → Asked → Account → List ℕ → List ℕ → Taken
taken = taken_by filled

-- ---- bar after bar

-- What bars come to: the account after the last of them, and the points and trades of all.
pub record Ledger : Type 0 where
  pub account : Account
  pub points : List Point
  pub trades : List Trade

-- each bar reads the rows of every bar before it
unfoldable pub whole_run_by : Fill → Settings → Asked → Account → List ℕ → List (List ℕ) → Ledger
whole_run_by fill s asked a rows [] = record { account = a; points = []; trades = [] }
whole_run_by fill s asked a rows (bar ∷ bars) =
    let b = taken_by fill s asked a rows bar in
    let later = whole_run_by fill s asked b.account (rows ++ row_of s.slots bar) bars in
    record { account = later.account; points = b.point ∷ later.points; trades = b.trades ++ later.trades }

abbrev pub whole_run : Settings → Asked → Account → List ℕ → List (List ℕ) → Ledger
whole_run = whole_run_by filled

-- from a fresh state, by what the rules of a table mean
abbrev pub meant_run : List ℕ → Settings → List (List ℕ) → Ledger
meant_run table s bars = whole_run s (by_meaning s (rules_of table)) (account_of (fresh_state s)) [] bars

-- ---- the end

-- an account as a state that holds nothing
abbrev pub state_of_account : Account → State
state_of_account a = record {
  counts = record { bars_seen = a.seen; rows_held = 0; equity_points = 0; trades = 0 };
  order = a.order;
  position = a.position;
  last = a.last;
}

-- "If finish closes a position, the last equity point, where there is one, becomes the equity after closing"
unfoldable pub end_points : List Point → Option Closed → Float → List Point
end_points ps None close = ps
end_points ps (Some c) close = last_becomes ps (equity c.portfolio close)

-- "Finish closes an open position, if a bar was seen, at the last close with a taker fee, reason end."
unfoldable pub whole_end : Settings → Ledger → Ledger
whole_end s w =
    let x = last_exit s (state_of_account w.account) in
    let a = w.account in
    record {
      account = record { seen = a.seen; order = a.order; position = leaving a.position x; last = a.last };
      points = end_points w.points x a.last.close;
      trades = w.trades ++ trades_of x;
    }

unfoldable pub whole_metrics : Settings → Ledger → Metrics
whole_metrics s w = metrics_of s.capital (equity_of (flat_map words_of_point w.points)) (pnls_of (flat_map words_of_trade w.trades))
