-- However many bars are run from a fresh state, no count exceeds its room or the bars seen, and no room changes its length.
use Rattle.std.specs.Prelude.{ℕ, ◌+◌, ◌≤◌, ◌≡◌, refl, Bool, true, false, cond, List, ltb}
use Rattle.words.specs.Prelude.{◌∙◌, arith, ltb-false}
use Rattle.rows.specs.{Room.places_for, Room.held_with}
use Rattle.portfolio.specs.{declared.Candle.Candle}
use Rattle.records.specs.{declared.settings.Settings.Settings, declared.state.Position.Position, declared.state.State.State, Lent.Lists, Lent.Rooms}
use Rattle.records.specs.{Lent.point_places, State.fresh_state}
use Rattle.engine.specs.{Books.Held, Books.marked, Boxes.WithinRooms, Boxes.SameLengths, Laws.Lengths.row_fits, Laws.Lengths.twice_booked_fits}
use Rattle.engine.specs.{Laws.Lengths.marked_fits, Laws.Runs.run_keeps, Record.row_of, Run.run_over, Step.stepped}
use Rattle.runs.specs.{Laws.OneTrade.one_trade}

-- ---- a bar

-- a bar adds a row at most
row_more : (room : List ℕ) (held : ℕ) (row : List ℕ) → held_with room held row ≤ held + 1
unfolding held_with
row_more room held row = go (ltb held (places_for room row)) refl
  where
    go : (b : Bool) → ltb held (places_for room row) ≡ b → cond b (held + 1) (places_for room row) ≤ held + 1
    go true e = omega arith
    go false e = omega (arith, ltb-false held (places_for room row) e)

-- and a point
point_more : (room : List ℕ) (n : ℕ) (k : Candle) (p : Position) → (marked room n k p).count ≤ n + 1
unfolding marked
point_more room n k p = go (ltb n (point_places room)) _
  where
    go : (b : Bool) (x : List ℕ) → (cond {A = Held} b (record { count = n + 1; room = x }) (record { count = n; room = room })).count ≤ n + 1
    go true x = omega arith
    go false x = omega arith

module _ (s : Settings) (t : State) (bar : List ℕ) (m : Rooms) (ls : Lists) where
  -- no bar changes a room's length
  pub step_lengths : WithinRooms s t m → SameLengths m (stepped s t bar m ls).rooms
  unfolding stepped
  step_lengths c = record {
    rows = (row_fits s.slots m.rows t.counts.rows_held bar).1;
    equity = (marked_fits m.equity t.counts.equity_points _ _ c.points).0;
    trades = (twice_booked_fits m.trades t.counts.trades _ _ c.trades).0;
  }

  pub step_within : WithinRooms s t m → WithinRooms s (stepped s t bar m ls).result (stepped s t bar m ls).rooms
  unfolding stepped
  step_within c =
      let long = step_lengths c in
      let one : (stepped s t bar m ls).result.counts.equity_points ≤ t.counts.equity_points + 1 =
      point_more m.equity t.counts.equity_points _ _ in
      record {
        rows = rw long.rows (row_fits s.slots m.rows t.counts.rows_held bar).0;
        points = rw long.equity (marked_fits m.equity t.counts.equity_points _ _ c.points).1;
        trades = rw long.trades (twice_booked_fits m.trades t.counts.trades _ _ c.trades).1;
        rows_seen = omega (arith, c.rows_seen, row_more m.rows t.counts.rows_held (row_of s.slots bar));
        points_seen = omega (arith, c.points_seen, one);
        trades_seen = omega (arith, c.trades_seen, one_trade s t bar m ls);
      }

-- ---- a run

pub fresh_within : (s : Settings) (m : Rooms) → WithinRooms s (fresh_state s) m
unfolding fresh_state
fresh_within s m = omega arith

-- from any state that counts no more than its rooms hold
pub run_within : (s : Settings) (ls : Lists) (bars : List (List ℕ)) (t : State) (m : Rooms) → WithinRooms s t m
    → WithinRooms s (run_over s ls t m bars).state (run_over s ls t m bars).rooms × SameLengths m (run_over s ls t m bars).rooms
run_within s ls bars t m c =
    run_keeps s ls (λ u n. WithinRooms s u n × SameLengths m n)
    (λ u n bar h p.
    let l = step_lengths s u bar n ls p.0 in
    (step_within s u bar n ls p.0, record { rows = l.rows ∙ p.1.rows; equity = l.equity ∙ p.1.equity; trades = l.trades ∙ p.1.trades }))
    bars t m (c, record { rows = refl; equity = refl; trades = refl })

-- THE INVARIANT: from a fresh state, after any number of bars
pub counts_never_exceed : (s : Settings) (ls : Lists) (m : Rooms) (bars : List (List ℕ))
    → WithinRooms s (run_over s ls (fresh_state s) m bars).state (run_over s ls (fresh_state s) m bars).rooms
    × SameLengths m (run_over s ls (fresh_state s) m bars).rooms
counts_never_exceed s ls m bars = run_within s ls bars (fresh_state s) m (fresh_within s m)
