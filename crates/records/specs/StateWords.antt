-- The state's words: what they mean, and those of a state. Definitions only.
use Rattle.std.specs.Prelude.{ℕ, cond, List, [], ◌∷◌, eqb, Float, None, Option, Some}
use Rattle.floats.specs.{Floats.word_of}
use Rattle.portfolio.specs.{declared.Portfolio.Portfolio}
use Rattle.execution.specs.{declared.level.OrderKind.OrderKind, declared.level.OrderKind.TheVariants.Market, declared.level.OrderKind.TheVariants.Limit}
use Rattle.execution.specs.{declared.level.OrderKind.TheVariants.Stop, declared.level.OrderKind.TheVariants.StopLimit}
use Rattle.records.specs.{declared.state.Counts.Counts, declared.state.Order.Order, declared.state.Order.TheVariants.Idle}
use Rattle.records.specs.{declared.state.Order.TheVariants.EnterLong, declared.state.Order.TheVariants.EnterShort}
use Rattle.records.specs.{declared.state.Order.TheVariants.Exit, declared.state.Position.Position, declared.state.State.State, Fields.float_at}
use Rattle.words.specs.{Words.word}

-- 0 bars seen, 1 rows held, 2 equity points, 3 trades
unfoldable pub counts_of : List ℕ → Counts
counts_of ws = record { bars_seen = word ws 0; rows_held = word ws 1; equity_points = word ws 2; trades = word ws 3 }

-- 4 the working order: 1 enter long, 2 enter short, 3 exit, any other none; 5 the bars that it still waits
unfoldable pub order_of : ℕ → ℕ → OrderKind → Order
order_of order delay kind =
    cond (eqb order 1) (EnterLong delay kind)
    (cond (eqb order 2) (EnterShort delay kind)
    (cond (eqb order 3) (Exit delay)
    Idle))

-- 17 an entry's order kind: 1 limit, 2 stop, 3 stop-limit, any other market; 18 its level, 19 a stop-limit's limit
unfoldable pub entry_kind_of : ℕ → Float → Float → OrderKind
entry_kind_of kind level limit =
    cond (eqb kind 1) (Limit level)
    (cond (eqb kind 2) (Stop level)
    (cond (eqb kind 3) (StopLimit level limit)
    Market))

-- 6 the entry bar: 0 none, any other word one; 7 its number
unfoldable pub entered_of : ℕ → ℕ → Option ℕ
entered_of there bar = cond (eqb there 0) None (Some bar)

-- 8 cash, 9 quantity, 10 entry price, 11 entry time, 12 entry fee, 13 fees paid; 20 funding paid by the open trade, 21 its least favourable
-- price (request 6)
unfoldable pub portfolio_of : List ℕ → Portfolio
portfolio_of ws = record {
  cash = float_at ws 8;
  qty = float_at ws 9;
  entry_price = float_at ws 10;
  entry_time = word ws 11;
  entry_fee = float_at ws 12;
  fees_paid = float_at ws 13;
  funding = float_at ws 20;
  worst = float_at ws 21;
}

-- 14 the favourable extreme
unfoldable pub position_of : List ℕ → Position
position_of ws = record { portfolio = portfolio_of ws; entered = entered_of (word ws 6) (word ws 7); extreme = float_at ws 14 }

-- 15 the last bar's time, 16 its close
unfoldable pub state_of : List ℕ → State
state_of ws = record {
  counts = counts_of ws;
  order = order_of (word ws 4) (word ws 5) (entry_kind_of (word ws 17) (float_at ws 18) (float_at ws 19));
  position = position_of ws;
  last = record { time = word ws 15; close = float_at ws 16 };
}

-- ---- back: no order waits 0 bars, no entry bar is number 0; a level that its kind does not have is 0

unfoldable pub order_kind : Order → ℕ
order_kind Idle = 0
order_kind (EnterLong delay kind) = 1
order_kind (EnterShort delay kind) = 2
order_kind (Exit delay) = 3

unfoldable pub order_delay : Order → ℕ
order_delay Idle = 0
order_delay (EnterLong delay kind) = delay
order_delay (EnterShort delay kind) = delay
order_delay (Exit delay) = delay

-- what an order waits for: only an entry waits for a level
unfoldable pub waits_for : Order → OrderKind
waits_for Idle = Market
waits_for (EnterLong delay kind) = kind
waits_for (EnterShort delay kind) = kind
waits_for (Exit delay) = Market

unfoldable pub kind_word : OrderKind → ℕ
kind_word Market = 0
kind_word (Limit level) = 1
kind_word (Stop level) = 2
kind_word (StopLimit stop limit) = 3

unfoldable pub level_word : OrderKind → ℕ
level_word Market = 0
level_word (Limit level) = word_of level
level_word (Stop level) = word_of level
level_word (StopLimit stop limit) = word_of stop

unfoldable pub limit_word : OrderKind → ℕ
limit_word Market = 0
limit_word (Limit level) = 0
limit_word (Stop level) = 0
limit_word (StopLimit stop limit) = word_of limit

unfoldable pub entered_kind : Option ℕ → ℕ
entered_kind None = 0
entered_kind (Some bar) = 1

unfoldable pub entry_bar : Option ℕ → ℕ
entry_bar None = 0
entry_bar (Some bar) = bar

unfoldable pub words_of : State → List ℕ
words_of s =
    s.counts.bars_seen ∷ s.counts.rows_held ∷ s.counts.equity_points ∷ s.counts.trades
    ∷ order_kind s.order ∷ order_delay s.order
    ∷ entered_kind s.position.entered ∷ entry_bar s.position.entered
    ∷ word_of s.position.portfolio.cash ∷ word_of s.position.portfolio.qty
    ∷ word_of s.position.portfolio.entry_price ∷ s.position.portfolio.entry_time
    ∷ word_of s.position.portfolio.entry_fee ∷ word_of s.position.portfolio.fees_paid
    ∷ word_of s.position.extreme ∷ s.last.time ∷ word_of s.last.close
    ∷ kind_word (waits_for s.order) ∷ level_word (waits_for s.order) ∷ limit_word (waits_for s.order)
    ∷ word_of s.position.portfolio.funding ∷ word_of s.position.portfolio.worst ∷ []
