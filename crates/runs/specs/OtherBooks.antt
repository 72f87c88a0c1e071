-- Firmware with little memory: the caller may empty the equity and trade rooms between any two bars. Orders, position, later points and
-- later trades are the same, as long as no room is full.
use Rattle.std.specs.Prelude.{ℕ, ◌+◌, ◌≤◌, ◌≡◌, refl, List, ◌++◌}
use Rattle.words.specs.Prelude.{sym, ◌∙◌, arith}
use Rattle.portfolio.specs.{declared.Trade.Trade}
use Rattle.records.specs.{declared.settings.Settings.Settings, declared.state.State.State, Lent.Lists, Lent.Rooms, Lent.rooms, Lent.row_places, State.fresh_state}
use Rattle.engine.specs.{Books.Point, Books.held_points, Books.held_trades, Books.emptied, Boxes.Grown, Boxes.Sound, Boxes.NotFull, Boxes.Alike, Run.Run}
use Rattle.engine.specs.{Run.run_over, Whole.account_of, Whole.rows_held}
use Rattle.runs.specs.{Laws.Follows.run_follows, Laws.TwoRuns.fresh_sound, Laws.TwoRuns.run_sound, Laws.TwoRuns.other_books_run}

-- Runs r from (t, m) and r' from (t', m') take as many bars and end with the same verdict, alike in account and last D rows, and have added
-- the same to their books.
pub record SameFromHere (s : Settings) (t : State) (m : Rooms) (t' : State) (m' : Rooms) (r r' : Run) : Type 0 where
  pub done : r.done ≡ r'.done
  pub verdict : r.verdict ≡ r'.verdict
  pub alike : Alike s r.state r.rooms r'.state r'.rooms
  pub points : List Point
  pub trades : List Trade
  pub grown : Grown t m r.state r.rooms points trades
  pub grown' : Grown t' m' r'.state r'.rooms points trades

-- THE BOOKS DO NOT MATTER: two boxes alike in account and last D rows, whatever books they hold, are alike again after any bars, and add the
-- same points and trades, as long as neither is refused with 14.
pub books_do_not_matter : (s : Settings) (ls : Lists) (bars : List (List ℕ)) (t : State) (m : Rooms) (t' : State) (m' : Rooms)
    → Alike s t m t' m' → Sound s t m → Sound s t' m'
    → let r = run_over s ls t m bars in
    let r' = run_over s ls t' m' bars in
    NotFull r.verdict → NotFull r'.verdict → SameFromHere s t m t' m' r r'
books_do_not_matter s ls bars t m t' m' alike sound sound' free free' =
    let ends = other_books_run s ls bars t m t' m' alike sound sound' free free' in
    let w = run_follows s ls bars t m (account_of t) (rows_held s t m) (record { account = refl; window = refl }) in
    let w' = rw (← ends.0) at
    (run_follows s ls bars t' m' (account_of t) (rows_held s t m) (record { account = sym alike.account; window = sym alike.window })) in
    record {
      done = ends.0;
      verdict = ends.1;
      alike = record { account = w.follows.account ∙ sym w'.follows.account; window = w.follows.window ∙ sym w'.follows.window };
      points = _;
      trades = _;
      grown = w.grows;
      grown' = w'.grows;
    }

-- ---- the books emptied

module _ (s : Settings) (t : State) (m : Rooms) (equity trades : List ℕ) where
  -- A box whose books are emptied, and that is lent any equity and trade rooms from then on, is alike to all that it was alike to: so
  -- the law above goes on holding, however often they are emptied.
  pub emptied_alike : (u : State) (n : Rooms) → Alike s u n t m → Alike s u n (emptied t) (rooms m.rows equity trades)
  unfolding emptied
  emptied_alike u n a = record { account = a.account; window = a.window }

  pub emptied_sound : Sound s t m → Sound s (emptied t) (rooms m.rows equity trades)
  unfolding emptied
  emptied_sound r = record {
    depth = r.depth;
    within = record {
      rows = r.within.rows;
      points = omega arith;
      trades = omega arith;
      rows_seen = r.within.rows_seen;
      points_seen = omega arith;
      trades_seen = omega arith;
    };
  }

-- What the unbroken run u holds is what (t, m) held, and then what the emptied one, e, holds.
pub record Emptied (s : Settings) (t : State) (m : Rooms) (u e : Run) : Type 0 where
  pub done : u.done ≡ e.done
  pub verdict : u.verdict ≡ e.verdict
  pub account : account_of u.state ≡ account_of e.state
  pub points : u.state.counts.equity_points ≡ t.counts.equity_points + e.state.counts.equity_points
  pub trades : u.state.counts.trades ≡ t.counts.trades + e.state.counts.trades
  pub equity : held_points u.state u.rooms ≡ held_points t m ++ held_points e.state e.rooms
  pub closed : held_trades u.state u.rooms ≡ held_trades t m ++ held_trades e.state e.rooms

-- THE CALLER MAY EMPTY THE BOOKS between any two bars: after any bars `before`, over any `bars` from then on, as long as neither run is
-- refused with 14.
pub emptied_goes_on : (s : Settings) (ls : Lists) (m : Rooms) (before bars : List (List ℕ)) (equity trades : List ℕ)
    → s.depth ≤ row_places s.slots m.rows
    → let b = run_over s ls (fresh_state s) m before in
    let u = run_over s ls b.state b.rooms bars in
    let e = run_over s ls (emptied b.state) (rooms b.rooms.rows equity trades) bars in
    NotFull u.verdict → NotFull e.verdict → Emptied s b.state b.rooms u e
unfolding emptied held_points held_trades
emptied_goes_on s ls m before bars equity trades deep free free' =
    let b : Run = run_over s ls (fresh_state s) m before in
    let sound = run_sound s ls before (fresh_state s) m (fresh_sound s m deep) in
    let x = books_do_not_matter s ls bars b.state b.rooms (emptied b.state) (rooms b.rooms.rows equity trades)
    (emptied_alike s b.state b.rooms equity trades b.state b.rooms (record { account = refl; window = refl }))
    sound (emptied_sound s b.state b.rooms equity trades sound) free free' in
    record {
      done = x.done;
      verdict = x.verdict;
      account = x.alike.account;
      points = omega (arith, x.grown.points, x.grown'.points);
      trades = omega (arith, x.grown.trades, x.grown'.trades);
      equity = x.grown.equity ∙ rw x.grown'.equity;
      closed = x.grown.closed ∙ rw x.grown'.closed;
    }
