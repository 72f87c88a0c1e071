-- What a call over many bars looks at once stays fine from bar to bar.
use Rattle.std.specs.Prelude.{ℕ, ◌+◌, ◌≤◌, ◌≡◌, refl, Bool, true, ◌&&◌, List, leb, None, Option, Some}
use Rattle.words.specs.Prelude.{arith, leb-true, le-leb, ltb-true, lt-ltb}
use Rattle.rows.specs.{History.History}
use Rattle.portfolio.specs.{declared.Candle.Candle}
use Rattle.execution.specs.{declared.fills.Entry.Entry, declared.fills.Entry.TheVariants.NoEntry, declared.fills.Entry.TheVariants.TooLarge}
use Rattle.execution.specs.{declared.fills.Entry.TheVariants.Entered}
use Rattle.records.specs.{declared.settings.Settings.Settings, declared.state.Position.Position, declared.state.State.State, Bar.candle_of, Lent.Lists}
use Rattle.records.specs.{Lent.Rooms, Lent.row_places, Lent.point_places, Lent.trade_places}
use Rattle.refusals.specs.{Laws.Lines.and_true, Laws.Steady.Steady, Rooms.held_fine, Rooms.entry_below, Rooms.room_lines}
use Rattle.engine.specs.{declared.account.Due.Due, declared.account.Due.TheVariants.Waits, declared.account.Due.TheVariants.Enters}
use Rattle.engine.specs.{declared.account.Due.TheVariants.Leaves, declared.account.Filled.Filled, declared.account.Left.Left, Account.leaving}
use Rattle.engine.specs.{Account.entering, Account.entry_filled, Account.facing, Account.exit_filled, Account.done_of, Account.filled, Account.intrabar}
use Rattle.engine.specs.{Account.charged, Laws.Lengths.row_fits, Laws.Lengths.twice_booked_fits, Laws.Lengths.marked_fits, Step.fill_of, Step.stepped}
use Rattle.portfolio.specs.{declared.Closed.Closed}

-- ---- the entry bar

-- below the bars seen, it is below one more
below_more : (e : Option ℕ) (n : ℕ) → entry_below e n ≡ true → entry_below e (n + 1) ≡ true
below_more None n h = refl
below_more (Some b) n h = lt-ltb b (n + 1) (omega (arith, ltb-true b n h))

leaving_below : (p : Position) (x : Option Closed) (n : ℕ) → entry_below p.entered n ≡ true → entry_below (leaving p x).entered n ≡ true
unfolding leaving
leaving_below p None n h = h
leaving_below p (Some c) n h = refl

entering_below : (p : Position) (e : Entry) (n : ℕ) → entry_below p.entered n ≡ true → entry_below (entering p e n).entered (n + 1) ≡ true
unfolding entering
entering_below p NoEntry n h = below_more p.entered n h
entering_below p TooLarge n h = below_more p.entered n h
entering_below p (Entered portfolio fill) n h = lt-ltb n (n + 1) (omega arith)

done_below : (due : Due) (s : Settings) (p : Position) (k : Candle) (before : History) (n : ℕ) → entry_below p.entered n ≡ true
    → entry_below (done_of due s p k before n).position.entered (n + 1) ≡ true
unfolding done_of entry_filled exit_filled facing
done_below (Waits order) s p k before n h = below_more p.entered n h
done_below (Enters side kind price) s p k before n h = entering_below p _ n h
done_below Leaves s p k before n h = leaving_below (facing p k) _ (n + 1) (below_more p.entered n h)

all_hold : {a b c : Bool} → a ≡ true → b ≡ true → c ≡ true → (a && b && c) ≡ true
all_hold p q r = rw (p, q, r)

module _ (s : Settings) (t : State) (bar : List ℕ) (m : Rooms) (ls : Lists) where
  -- an entry bar stays below the bars seen
  pub entry_stays : entry_below t.position.entered t.counts.bars_seen ≡ true
      → entry_below (stepped s t bar m ls).result.position.entered (stepped s t bar m ls).result.counts.bars_seen ≡ true
  unfolding stepped charged intrabar facing filled
  entry_stays h = leaving_below _ _ _ (done_below _ s t.position _ _ t.counts.bars_seen h)

  -- ---- the counts and their rooms

  held_stays : held_fine s.slots t.counts m ≡ true → held_fine s.slots (stepped s t bar m ls).result.counts (stepped s t bar m ls).rooms ≡ true
  unfolding stepped
  held_stays h =
      let n = t.counts in
      let rowed : Bool = leb n.rows_held (row_places s.slots m.rows) in
      let pointed : Bool = leb n.equity_points (point_places m.equity) in
      let both = and_true (rowed && pointed) (leb n.trades (trade_places m.trades)) h in
      let each = and_true rowed pointed both.0 in
      let k : Candle = candle_of bar in
      let f : Filled = fill_of s t bar m in
      let x : Left = intrabar s f.position k in
      let row = row_fits s.slots m.rows t.counts.rows_held bar in
      let point = marked_fits m.equity t.counts.equity_points k (charged s x.position bar) (leb-true _ _ each.1) in
      let trade = twice_booked_fits m.trades t.counts.trades f.«exit» x.«exit» (leb-true _ _ both.1) in
      let d = stepped s t bar m ls in
      let rows : d.result.counts.rows_held ≤ row_places s.slots d.rooms.rows = rw row.1 row.0 in
      let points : d.result.counts.equity_points ≤ point_places d.rooms.equity = rw point.0 point.1 in
      let trades : d.result.counts.trades ≤ trade_places d.rooms.trades = rw trade.0 trade.1 in
      all_hold (le-leb _ _ rows) (le-leb _ _ points) (le-leb _ _ trades)

  -- STEADY BEFORE A BAR, STEADY AFTER IT
  pub step_steady : Steady s t m → Steady s (stepped s t bar m ls).result (stepped s t bar m ls).rooms
  step_steady c = record {
    room = unfold room_lines stepped in rw (row_fits s.slots m.rows t.counts.rows_held bar).1 (unfold room_lines in c.room);
    settings = c.settings;
    held = held_stays c.held;
    entry = entry_stays c.entry;
  }
