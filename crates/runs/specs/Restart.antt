-- Request 11. "From a whole image of a state reached from a fresh one, with the same table and settings and empty trade and equity rooms
-- counted from 0, further bars give the trades, equity points and decisions that the unbroken run gives for them, until either refuses."
-- What an image holds of a box is said here without its bytes: the account, and the last D rows.
use Rattle.std.specs.Prelude.{ℕ, ◌≤◌, ◌≡◌, List, []}
use Rattle.words.specs.Prelude.{sym, ap, ◌∙◌, arith}
use Rattle.records.specs.{declared.settings.Settings.Settings, declared.state.State.State, Lent.Lists, Lent.Rooms, Lent.row_places, State.fresh_state}
use Rattle.engine.specs.{Books.held_points, Books.held_trades, Boxes.Alike, Boxes.NotFull, Boxes.Sound, Run.Run, Run.run_over, Whole.Account, Whole.account_of}
use Rattle.engine.specs.{Whole.rows_held, Whole.last_of}
use Rattle.runs.specs.{Laws.TwoRuns.fresh_sound, Laws.TwoRuns.run_sound, Laws.Window.last_of_last, OtherBooks.Emptied, OtherBooks.books_do_not_matter}

-- The box (t', m') was started again from (t, m): it has its account and the last D of its rows, in a room with places for D, and its books
-- count from 0, whatever equity and trade rooms it is lent.
pub record Restarted (s : Settings) (t : State) (m : Rooms) (t' : State) (m' : Rooms) : Type 0 where
  pub account : account_of t ≡ account_of t'
  pub rows : rows_held s t' m' ≡ last_of s (rows_held s t m)
  pub held : t'.counts.rows_held ≤ t.counts.rows_held
  pub places : t'.counts.rows_held ≤ row_places s.slots m'.rows
  pub depth : s.depth ≤ row_places s.slots m'.rows
  pub points : t'.counts.equity_points ≡ 0
  pub trades : t'.counts.trades ≡ 0

module _ (s : Settings) (t : State) (m : Rooms) (t' : State) (m' : Rooms) (again : Restarted s t m t' m') where
  pub restarted_alike : Alike s t m t' m'
  restarted_alike = record {
    account = again.account;
    window = sym (last_of_last s.slots s.depth (rows_held s t m)) ∙ ap (last_of s) (sym again.rows);
  }

  pub restarted_sound : Sound s t m → Sound s t' m'
  restarted_sound r = record {
    depth = again.depth;
    within = record {
      rows = again.places;
      points = omega (arith, again.points);
      trades = omega (arith, again.trades);
      rows_seen = omega (arith, again.held, r.within.rows_seen, ap (λ (a : Account). a.seen) again.account);
      points_seen = omega (arith, again.points);
      trades_seen = omega (arith, again.trades);
    };
  }

-- books that count from 0 hold nothing
pub no_points_lem : (t : State) (m : Rooms) → t.counts.equity_points ≡ 0 → held_points t m ≡ []
unfolding held_points
no_points_lem t m none = rw none

pub no_trades_lem : (t : State) (m : Rooms) → t.counts.trades ≡ 0 → held_trades t m ≡ []
unfolding held_trades
no_trades_lem t m none = rw none

-- THE RESTART: after any bars `before` from a fresh state, over any `bars` from then on, as long as neither run is refused with 14. What the
-- unbroken run holds is what was held at the dump, and then what the run that was started again holds.
pub restart : (s : Settings) (ls : Lists) (m : Rooms) (before bars : List (List ℕ)) (t' : State) (m' : Rooms)
    → s.depth ≤ row_places s.slots m.rows
    → let b = run_over s ls (fresh_state s) m before in
    Restarted s b.state b.rooms t' m'
    → let u = run_over s ls b.state b.rooms bars in
    let e = run_over s ls t' m' bars in
    NotFull u.verdict → NotFull e.verdict → Emptied s b.state b.rooms u e
restart s ls m before bars t' m' deep again free free' =
    let b : Run = run_over s ls (fresh_state s) m before in
    let sound = run_sound s ls before (fresh_state s) m (fresh_sound s m deep) in
    let x = books_do_not_matter s ls bars b.state b.rooms t' m' (restarted_alike s b.state b.rooms t' m' again)
    sound (restarted_sound s b.state b.rooms t' m' again sound) free free' in
    record {
      done = x.done;
      verdict = x.verdict;
      account = x.alike.account;
      points = omega (arith, x.grown.points, x.grown'.points, again.points);
      trades = omega (arith, x.grown.trades, x.grown'.trades, again.trades);
      equity = x.grown.equity ∙ rw (x.grown'.equity, no_points_lem t' m' again.points);
      closed = x.grown.closed ∙ rw (x.grown'.closed, no_trades_lem t' m' again.trades);
    }
