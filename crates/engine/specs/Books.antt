-- The books of a run: its equity points and its trades, and the rooms that hold them.
use Rattle.std.specs.Prelude.{ℕ, ◌+◌, ◌*◌, cond, List, [], ◌∷◌, ltb, Float, take, None, Option, Some}
use Rattle.floats.specs.{Floats.word_of}
use Rattle.words.specs.{Words.overwrite}
use Rattle.portfolio.specs.{declared.Candle.Candle, declared.Trade.Trade, Portfolio.equity, Trade.words_of_trade}
use Rattle.records.specs.{declared.state.Position.Position, declared.state.State.State, Lent.Rooms, Lent.point_places, Lent.trade_places}
use Rattle.words.specs.Limits as Limits
use Rattle.portfolio.specs.{declared.Closed.Closed}

-- ---- points and trades

-- "equity at the close": the bar's time and the equity
pub record Point : Type 0 where
  pub time : ℕ
  pub equity : Float

abbrev pub point_of : Candle → Position → Point
point_of k p = record { time = k.time; equity = equity p.portfolio k.close }

unfoldable pub words_of_point : Point → List ℕ
words_of_point p = p.time ∷ word_of p.equity ∷ []

-- the last of these points with another equity; its time stays
unfoldable pub last_becomes : List Point → Float → List Point
last_becomes [] e = []
last_becomes (p ∷ []) e = record { time = p.time; equity = e } ∷ []
last_becomes (p ∷ (q ∷ ps)) e = p ∷ last_becomes (q ∷ ps) e

-- the trade of an exit, where there is one
unfoldable pub trades_of : Option Closed → List Trade
trades_of None = []
trades_of (Some c) = c.trade ∷ []

-- ---- their rooms

-- a room of records and how many it holds
pub record Held : Type 0 where
  pub count : ℕ
  pub room : List ℕ

-- "A trade record grows from eight words to ten". One that finds no place is not kept: no step that is
-- not refused comes to that.
unfoldable pub booked : List ℕ → ℕ → Option Closed → Held
booked room n None = record { count = n; room = room }
booked room n (Some c) =
    cond (ltb n (trade_places room))
    (record { count = n + 1; room = overwrite room (n * Limits.trade_words) (words_of_trade c.trade) })
    (record { count = n; room = room })

-- "equity at the close". A point that finds no place is not kept, as above.
unfoldable pub marked : List ℕ → ℕ → Candle → Position → Held
marked room n k p =
    cond (ltb n (point_places room))
    (record { count = n + 1; room = overwrite room (n * Limits.point_words) (words_of_point (point_of k p)) })
    (record { count = n; room = room })

-- what the rooms hold, whatever stands behind it
unfoldable pub held_points : State → Rooms → List ℕ
held_points t m = take (t.counts.equity_points * Limits.point_words) m.equity

unfoldable pub held_trades : State → Rooms → List ℕ
held_trades t m = take (t.counts.trades * Limits.trade_words) m.trades

-- the books emptied by the caller: their counts are 0, and nothing else changes
unfoldable pub emptied : State → State
emptied t = record {
  counts = record { bars_seen = t.counts.bars_seen; rows_held = t.counts.rows_held; equity_points = 0; trades = 0 };
  order = t.order;
  position = t.position;
  last = t.last;
}
