-- What is said of a box, a state and its rooms, and of two of them. Definitions only.
use Rattle.std.specs.Prelude.{ℕ, ◌+◌, ◌*◌, ◌≤◌, ◌≡◌, List, ◌++◌, length, drop, Err}
use Rattle.words.specs.Prelude.{flat_map}
use Rattle.words.specs.{declared.refusal.Refusal.Refusal}
use Rattle.portfolio.specs.{declared.Trade.Trade, Trade.words_of_trade}
use Rattle.records.specs.{declared.settings.Settings.Settings, declared.state.State.State, Lent.Rooms, Lent.row_places, Lent.point_places, Lent.trade_places}
use Rattle.engine.specs.{Books.Point, Books.words_of_point, Books.held_points, Books.held_trades, Whole.Account, Whole.account_of, Whole.rows_held}
use Rattle.engine.specs.{Whole.last_of, Whole.Ledger}
use Rattle.words.specs.Limits as Limits
use Rattle.refusals.specs.{Lines.Verdict}
use Rattle.words.specs.{Outcome.number_of}

-- ---- a box and its rooms

-- no count exceeds its room, nor the bars seen
pub record WithinRooms (s : Settings) (t : State) (m : Rooms) : Type 0 where
  pub rows : t.counts.rows_held ≤ row_places s.slots m.rows
  pub points : t.counts.equity_points ≤ point_places m.equity
  pub trades : t.counts.trades ≤ trade_places m.trades
  pub rows_seen : t.counts.rows_held ≤ t.counts.bars_seen
  pub points_seen : t.counts.equity_points ≤ t.counts.bars_seen
  pub trades_seen : t.counts.trades ≤ t.counts.bars_seen

-- each room is as long as it was
pub record SameLengths (m n : Rooms) : Type 0 where
  pub rows : length n.rows ≡ length m.rows
  pub equity : length n.equity ≡ length m.equity
  pub trades : length n.trades ≡ length m.trades

-- what a run from a fresh state has at each bar, where its row room has places for D rows
pub record Sound (s : Settings) (t : State) (m : Rooms) : Type 0 where
  pub depth : s.depth ≤ row_places s.slots m.rows
  pub within : WithinRooms s t m

-- ---- a box and a run that keeps everything

-- The box (t, m) has this account, and the last D of the rows that it holds are the last D of these.
pub record Follows (s : Settings) (t : State) (m : Rooms) (a : Account) (rows : List ℕ) : Type 0 where
  pub account : account_of t ≡ a
  pub window : last_of s (rows_held s t m) ≡ last_of s rows

-- The box (t, m) has the account of a whole run, and holds exactly its points and trades.
pub record Holds (t : State) (m : Rooms) (w : Ledger) : Type 0 where
  pub account : account_of t ≡ w.account
  pub points : t.counts.equity_points ≡ length w.points
  pub trades : t.counts.trades ≡ length w.trades
  pub equity : held_points t m ≡ flat_map words_of_point w.points
  pub closed : held_trades t m ≡ flat_map words_of_trade w.trades

-- ---- a box, and what bars make of it

-- The books of (t, m), with these points and trades at their end, are those of (u, n).
pub record Grown (t : State) (m : Rooms) (u : State) (n : Rooms) (ps : List Point) (xs : List Trade) : Type 0 where
  pub points : u.counts.equity_points ≡ t.counts.equity_points + length ps
  pub trades : u.counts.trades ≡ t.counts.trades + length xs
  pub equity : held_points u n ≡ held_points t m ++ flat_map words_of_point ps
  pub closed : held_trades u n ≡ held_trades t m ++ flat_map words_of_trade xs
  -- what lies behind is untouched
  pub behind_points : drop (u.counts.equity_points * Limits.point_words) n.equity ≡ drop (u.counts.equity_points * Limits.point_words) m.equity
  pub behind_trades : drop (u.counts.trades * Limits.trade_words) n.trades ≡ drop (u.counts.trades * Limits.trade_words) m.trades

-- ---- two boxes

-- Alike in account and last D rows, whatever older rows and whatever books they hold.
pub record Alike (s : Settings) (t : State) (m : Rooms) (t' : State) (m' : Rooms) : Type 0 where
  pub account : account_of t ≡ account_of t'
  pub window : last_of s (rows_held s t m) ≡ last_of s (rows_held s t' m')

-- Alike in everything but the rows: all of the state but their count, and the points and trades held. The words behind what is held
-- may differ.
pub record SameButRows (t : State) (m : Rooms) (t' : State) (m' : Rooms) : Type 0 where
  pub account : account_of t ≡ account_of t'
  pub points : t.counts.equity_points ≡ t'.counts.equity_points
  pub trades : t.counts.trades ≡ t'.counts.trades
  pub equity : held_points t m ≡ held_points t' m'
  pub closed : held_trades t m ≡ held_trades t' m'

-- Their books count as much and have places for as much, whatever words they hold.
pub record SameCounts (t : State) (m : Rooms) (t' : State) (m' : Rooms) : Type 0 where
  pub points : t.counts.equity_points ≡ t'.counts.equity_points
  pub trades : t.counts.trades ≡ t'.counts.trades
  pub equity : point_places m.equity ≡ point_places m'.equity
  pub closed : trade_places m.trades ≡ trade_places m'.trades

-- ---- a verdict

-- not refused with 14
unfoldable pub NotFull : Verdict → Type 0
NotFull v = (why : Refusal) → v ≡ Err why → number_of why ≡ 14 → ⊥
