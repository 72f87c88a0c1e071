-- Two boxes that differ in their rows alone finish alike.
use Rattle.std.specs.Prelude.{ℕ, ◌+◌, ◌*◌, ◌<◌, ◌≡◌, refl, Bool, true, false, List, ◌++◌, ltb, length, take, drop, None, Ok, Option}
use Rattle.words.specs.Prelude.{flat_map}
use Rattle.words.specs.Prelude.{sym, ◌∙◌, ltb-true, ltb-false}
use Rattle.portfolio.specs.{Trade.words_of_trade}
use Rattle.records.specs.{declared.settings.Settings.Settings, declared.state.State.State, Lent.Rooms, Lent.trade_places}
use Rattle.refusals.specs.{Judgement.finish_lines, Judgement.finish_judged, Laws.Lines.first_holds}
use Rattle.refusals.specs.{Laws.Lines.both_fine, Rooms.room_lines, Rooms.state_lines, Rooms.to_close, Rooms.close_lines, Settings.setting_lines}
use Rattle.engine.specs.{Books.trades_of, Books.booked, Books.held_points, Books.held_trades, Boxes.SameButRows, Finish.last_exit, Finish.remarked, Finish.end_state}
use Rattle.engine.specs.{Finish.measured, Finish.ended}
use Rattle.runs.specs.{Laws.AccountStep.same_parts, Laws.BooksGrow.Added, Laws.BooksGrow.trade_booked, Laws.BooksGrow.none_added}
use Rattle.runs.specs.{Laws.BooksGrow.none_booked, Laws.LastPoint.remarked_held, Laws.LastPoint.remarked_behind}
use Rattle.words.specs.Limits as Limits
use Rattle.portfolio.specs.{declared.Closed.Closed}

-- the trades that a room holds
abbrev trades_in : List ℕ → ℕ → List ℕ
trades_in room n = take (n * Limits.trade_words) room

-- a trade booked after the same trades
same_booked : (room room' : List ℕ) (n n' : ℕ) (x : Option Closed) → n ≡ n' → trade_places room ≡ trade_places room' → trades_in room n ≡ trades_in room' n'
    → let b = booked room n x in
    let b' = booked room' n' x in
    (b.count ≡ b'.count) × (trades_in b.room b.count ≡ trades_in b'.room b'.count)
same_booked room room' n n' x e places held = go (ltb n (trade_places room)) refl
  where
    go : (t : Bool) → ltb n (trade_places room) ≡ t
        → let b = booked room n x in
        let b' = booked room' n' x in
        (b.count ≡ b'.count) × (trades_in b.room b.count ≡ trades_in b'.room b'.count)
    go true h =
        let a = trade_booked room n x (ltb-true _ _ h) in
        let a' = trade_booked room' n' x (rw (← places, ← e) (ltb-true _ _ h)) in
        (a.0 ∙ rw e (sym a'.0), a.1 ∙ rw held (sym a'.1))
    go false h =
        let a = none_booked room n x (ltb-false _ _ h) in
        let a' = none_booked room' n' x (rw (← places, ← e) (ltb-false _ _ h)) in
        rw (a, a') (e, held)

module _ (s : Settings) (t : State) (m : Rooms) (t' : State) (m' : Rooms) (same : SameButRows t m t' m') where
  exit_same : last_exit s t ≡ last_exit s t'
  unfolding last_exit to_close
  exit_same = let p = same_parts t t' same.account in rw (p.seen, p.position, p.last)

  -- THE END: the same figures, and they differ in their rows alone again.
  pub same_end : trade_places m.trades ≡ trade_places m'.trades
      → let e = ended s t m in
      let e' = ended s t' m' in
      (e.result.metrics ≡ e'.result.metrics) × SameButRows e.result.state e.rooms e'.result.state e'.rooms
  unfolding ended end_state measured held_points held_trades
  same_end places =
      let b = same_booked m.trades m'.trades t.counts.trades t'.counts.trades (last_exit s t') same.trades places same.closed in
      let p = same_parts t t' same.account in
      let held : take (t.counts.equity_points * Limits.point_words) (remarked m.equity t.counts.equity_points (last_exit s t') t.last.close)
      ≡ take (t'.counts.equity_points * Limits.point_words) (remarked m'.equity t'.counts.equity_points (last_exit s t') t'.last.close) =
      remarked_held m.equity t.counts.equity_points t.last.close (last_exit s t')
      ∙ rw (same.equity, same.points, p.last)
      (sym (remarked_held m'.equity t'.counts.equity_points t'.last.close (last_exit s t'))) in
      rw exit_same (
        rw (held, b.1),
        record { account = rw (p.seen, p.position, p.order, p.last); points = same.points; trades = b.0; equity = held; closed = b.1 },
      )

  -- where the rooms hold the same words, behind what they hold too, they do so again
  pub same_end_points : m.equity ≡ m'.equity → (ended s t m).rooms.equity ≡ (ended s t' m').rooms.equity
  unfolding ended
  same_end_points e = rw (exit_same, same.points, (same_parts t t' same.account).last, e)

  pub same_end_room : m.trades ≡ m'.trades → (ended s t m).rooms.trades ≡ (ended s t' m').rooms.trades
  unfolding ended
  same_end_room e = rw (exit_same, same.trades, e)

-- ---- what a finish adds to the books

-- a finish that is fine has a place for the trade that it closes
pub close_place : (s : Settings) (t : State) (m : Rooms) → finish_judged s t m ≡ Ok tt → to_close t ≡ true → t.counts.trades < trade_places m.trades
unfolding finish_judged finish_lines close_lines
close_place s t m fine closes =
    let a = (both_fine (room_lines s m.rows) _ fine).1 in
    let b = (both_fine (setting_lines s) _ a).1 in
    let c = (both_fine (state_lines s t m) _ b).1 in
    ltb-true _ _ (rw closes at (first_holds _ _ c).0)

-- the trade of a finish is in the room
abbrev ClosedTrade : State → Rooms → Option Closed → Type 0
ClosedTrade t m x =
    Added Limits.trade_words m.trades t.counts.trades (booked m.trades t.counts.trades x) (length (trades_of x)) (flat_map words_of_trade (trades_of x))

close_booked : (s : Settings) (t : State) (m : Rooms) → finish_judged s t m ≡ Ok tt → ClosedTrade t m (last_exit s t)
close_booked s t m fine = go (to_close t) refl
  where
    none : to_close t ≡ false → last_exit s t ≡ None
    none h = unfold last_exit in rw h

    go : (b : Bool) → to_close t ≡ b → ClosedTrade t m (last_exit s t)
    go true h = trade_booked m.trades t.counts.trades (last_exit s t) (close_place s t m fine h)
    go false h = rw (none h) (none_added m.trades t.counts.trades)

-- The books of (t, m), with the trade of the exit x at their end and the last point as it leaves the account, are those of (u, n).
pub record Closes (t : State) (m : Rooms) (u : State) (n : Rooms) (x : Option Closed) : Type 0 where
  pub points : u.counts.equity_points ≡ t.counts.equity_points
  pub trades : u.counts.trades ≡ t.counts.trades + length (trades_of x)
  pub equity : held_points u n ≡ remarked (held_points t m) t.counts.equity_points x t.last.close
  pub closed : held_trades u n ≡ held_trades t m ++ flat_map words_of_trade (trades_of x)
  -- what lies behind is untouched
  pub behind_points : drop (u.counts.equity_points * Limits.point_words) n.equity ≡ drop (u.counts.equity_points * Limits.point_words) m.equity
  pub behind_trades : drop (u.counts.trades * Limits.trade_words) n.trades ≡ drop (u.counts.trades * Limits.trade_words) m.trades

-- A finish adds the trade that it closes, puts its fee into the last point, and does nothing else.
pub end_closes : (s : Settings) (t : State) (m : Rooms) → finish_judged s t m ≡ Ok tt
    → let e = ended s t m in
    Closes t m e.result.state e.rooms (last_exit s t)
unfolding ended end_state held_points held_trades flat_map
end_closes s t m fine =
    let b = close_booked s t m fine in
    record {
      points = refl;
      trades = b.0;
      equity = remarked_held m.equity t.counts.equity_points t.last.close (last_exit s t);
      closed = b.1;
      behind_points = remarked_behind m.equity t.counts.equity_points t.last.close (last_exit s t);
      behind_trades = b.2;
    }
