-- One bar. "Order, as in `step_with_feeds`: fill the working order, record the row, intrabar exits, funding, equity at the
-- close, decide."
use Rattle.std.specs.Prelude.{ℕ, ◌+◌, ◌≡◌, not, List, [], ◌∷◌, ◌++◌, Err, Ok, Result}
use Rattle.rows.specs.{History.history_of, Room.with_row, Room.held_with}
use Rattle.records.specs.{declared.settings.Settings.Settings, declared.state.State.State, Bar.candle_of, Lent.Lists, Lent.Rooms}
use Rattle.refusals.specs.{Lines.Line}
use Rattle.refusals.specs.{Lines.line, Lines.judged, Judgement.step_lines}
use Rattle.engine.specs.{declared.account.Filled.Filled, Account.filled, Account.intrabar, Account.charged, Books.booked, Books.marked, Decide.decided}
use Rattle.engine.specs.{Record.row_of, Record.held_rows}
use Rattle.refusals.specs.{Lines.Verdict}
use Rattle.words.specs.{declared.refusal.Refusal.Refusal}

-- a result with what is in the rooms then
pub record With (A : Type 0) : Type 0 where
  pub result : A
  pub rooms : Rooms

-- what the working order comes to as the bar opens, over the rows held before it
abbrev pub fill_of : Settings → State → List ℕ → Rooms → Filled
fill_of s t bar m =
    filled s t.order t.position (candle_of bar)
    (history_of s.slots (held_rows s.slots t.counts.rows_held m.rows)) t.counts.bars_seen

-- The phases in the paper's order. Each takes the part of the state that it changes.
unfoldable pub stepped : Settings → State → List ℕ → Rooms → Lists → With State
stepped s t bar m ls =
    let n = t.counts in
    let k = candle_of bar in
    let f = fill_of s t bar m in
    let atOpen = booked m.trades n.trades f.«exit» in
    let rows = with_row m.rows n.rows_held (row_of s.slots bar) in
    let held = held_with m.rows n.rows_held (row_of s.slots bar) in
    let x = intrabar s f.position k in
    let inside = booked atOpen.room atOpen.count x.«exit» in
    let p = charged s x.position bar in
    let e = marked m.equity n.equity_points k p in
    record {
      result = record {
        counts = record { bars_seen = n.bars_seen + 1; rows_held = held; equity_points = e.count; trades = inside.count };
        order = decided s f.order p n.bars_seen k.close (held_rows s.slots held rows) ls;
        position = p;
        last = record { time = k.time; close = k.close };
      };
      rooms = record { rows = rows; equity = e.room; trades = inside.room };
    }

-- The paper's values for each case of the answer. "A refusal returns number, place and the state it was given, and changes
-- nothing lent."
unfoldable pub answered : Verdict → State → Rooms → With State → With (Result State (Refusal × State))
answered (Err why) t m done = record { result = Err (why, t); rooms = m }
answered (Ok _) t m done = record { result = Ok done.result; rooms = done.rooms }

-- "too large a quotient gives 16 at bars seen, after 15, and the step changes nothing"
unfoldable pub size_lines : Settings → State → List ℕ → Rooms → List Line
size_lines s t bar m = line (not (fill_of s t bar m).turned_away) (Refusal.Quantity t.counts.bars_seen) ∷ []

-- of a step that was handed what it can use
unfoldable pub advanced : Settings → State → List ℕ → Rooms → Lists → With (Result State (Refusal × State))
advanced s t bar m ls = answered (judged (size_lines s t bar m)) t m (stepped s t bar m ls)

-- "10, 12, 13, 14, 11, 15", then 16
unfoldable pub step_verdict : Settings → State → List ℕ → Rooms → Lists → Verdict
step_verdict s t bar m ls = judged (step_lines s t bar m ls ++ size_lines s t bar m)

unfoldable pub step_answer : Settings → State → List ℕ → Rooms → Lists → With (Result State (Refusal × State))
step_answer s t bar m ls = answered (step_verdict s t bar m ls) t m (stepped s t bar m ls)

-- each part is the definition's
pub record Is (A : Type 0) (d : With A) (r : A) (ws es ts : List ℕ) : Type 0 where
  pub result : r ≡ d.result
  pub rows : ws ≡ d.rooms.rows
  pub equity : es ≡ d.rooms.equity
  pub trades : ts ≡ d.rooms.trades
