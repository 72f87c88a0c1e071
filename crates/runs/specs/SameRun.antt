-- Two boxes with room for D rows or more, and books of the same size, differ in their rows alone, bar after bar and at the end.
use Rattle.std.specs.Prelude.{ℕ, ◌*◌, ◌≤◌, ◌≡◌, refl, List, []}
use Rattle.words.specs.Prelude.{sym, ◌∙◌}
use Rattle.records.specs.{declared.settings.Settings.Settings, declared.state.State.State, Lent.Lists, Lent.Rooms, Lent.row_places, Lent.point_places}
use Rattle.records.specs.{Lent.trade_places, State.fresh_state}
use Rattle.refusals.specs.{Judgement.finish_judged}
use Rattle.runs.specs.{AsMeant.by_lists_lem, Laws.BooksGrow.same_room, Laws.Counts.counts_never_exceed, Laws.Finishes.same_end, Laws.Finishes.same_end_points}
use Rattle.runs.specs.{Laws.Finishes.same_end_room, Laws.Follows.run_follows, Laws.TwoRuns.fresh_sound, Laws.TwoRuns.run_sound}
use Rattle.runs.specs.{Laws.TwoRuns.same_counts_run, Laws.Verdicts.same_finish_verdict, WholeHistory.fresh_follows}
use Rattle.runs.specs.{WholeHistory.whole_history}
use Rattle.engine.specs.{Books.held_points, Books.held_trades, Boxes.SameCounts, Boxes.Alike, Boxes.SameButRows, Boxes.Holds, Finish.ended, Run.Run, Run.run_over}
use Rattle.engine.specs.{Whole.account_of, Whole.rows_held, Whole.Ledger, Whole.last_of}
use Rattle.words.specs.Limits as Limits

-- Two runs that differ in their rows alone, and finish alike.
pub record SameRun (s : Settings) (r r' : Run) : Type 0 where
  pub done : r.done ≡ r'.done
  pub verdict : r.verdict ≡ r'.verdict
  pub box : SameButRows r.state r.rooms r'.state r'.rooms
  pub window : last_of s (rows_held s r.state r.rooms) ≡ last_of s (rows_held s r'.state r'.rooms)
  pub finish : finish_judged s r.state r.rooms ≡ finish_judged s r'.state r'.rooms
  pub metrics : (ended s r.state r.rooms).result.metrics ≡ (ended s r'.state r'.rooms).result.metrics
  pub finished : let e = ended s r.state r.rooms in
      let e' = ended s r'.state r'.rooms in
      SameButRows e.result.state e.rooms e'.result.state e'.rooms

-- two boxes that hold the same
same_holds : {t t' : State} {m m' : Rooms} {w : Ledger} → Holds t m w → Holds t' m' w → SameButRows t m t' m'
same_holds h h' = record {
  account = h.account ∙ sym h'.account;
  points = h.points ∙ sym h'.points;
  trades = h.trades ∙ sym h'.trades;
  equity = h.equity ∙ sym h'.equity;
  closed = h.closed ∙ sym h'.closed;
}

module _ (s : Settings) (ls : Lists) (m m' : Rooms) (bars : List (List ℕ))
    (deep : s.depth ≤ row_places s.slots m.rows) (deep' : s.depth ≤ row_places s.slots m'.rows)
    (equity : point_places m.equity ≡ point_places m'.equity) (trades : trade_places m.trades ≡ trade_places m'.trades) where
  -- THE SAME RUN: over room for D rows, and over any room for more, whatever stale words the equity and trade rooms hold.
  pub same_run : SameRun s (run_over s ls (fresh_state s) m bars) (run_over s ls (fresh_state s) m' bars)
  same_run =
      let r : Run = run_over s ls (fresh_state s) m bars in
      let r' : Run = run_over s ls (fresh_state s) m' bars in
      let start : Alike s (fresh_state s) m (fresh_state s) m' =
      record { account = refl; window = (fresh_follows s m).window ∙ sym (fresh_follows s m').window } in
      let counts : SameCounts (fresh_state s) m (fresh_state s) m' = record { points = refl; trades = refl; equity = equity; closed = trades } in
      let ends = same_counts_run s ls bars (fresh_state s) m (fresh_state s) m' start (fresh_sound s m deep) (fresh_sound s m' deep') counts in
      let box : SameButRows r.state r.rooms r'.state r'.rooms =
      same_holds (by_lists_lem s ls m bars) (rw ends.0 (by_lists_lem s ls m' bars)) in
      let long = (counts_never_exceed s ls m bars).1 in
      let long' = (counts_never_exceed s ls m' bars).1 in
      let after : SameCounts r.state r.rooms r'.state r'.rooms = record {
        points = box.points;
        trades = box.trades;
        equity = rw (long.equity, long'.equity) equity;
        closed = rw (long.trades, long'.trades) trades;
      } in
      let sound = run_sound s ls bars (fresh_state s) m (fresh_sound s m deep) in
      let sound' = run_sound s ls bars (fresh_state s) m' (fresh_sound s m' deep') in
      let end = same_end s r.state r.rooms r'.state r'.rooms box after.closed in
      record {
        done = ends.0;
        verdict = ends.1;
        box = box;
        window = (whole_history s ls m bars).window ∙ rw ends.0 (sym (whole_history s ls m' bars).window);
        finish = same_finish_verdict s r.state r'.state r.rooms r'.rooms sound sound' box.account after;
        metrics = end.0;
        finished = end.1;
      }

  -- Where the rooms hold the same words at first, behind what they hold too, they do so afterwards.
  pub same_rooms : m.equity ≡ m'.equity → m.trades ≡ m'.trades
      → let r = run_over s ls (fresh_state s) m bars in
      let r' = run_over s ls (fresh_state s) m' bars in
      (r.rooms.equity ≡ r'.rooms.equity) × (r.rooms.trades ≡ r'.rooms.trades)
      × ((ended s r.state r.rooms).rooms.equity ≡ (ended s r'.state r'.rooms).rooms.equity)
      × ((ended s r.state r.rooms).rooms.trades ≡ (ended s r'.state r'.rooms).rooms.trades)
  unfolding held_points held_trades
  same_rooms e c =
      let r : Run = run_over s ls (fresh_state s) m bars in
      let r' : Run = run_over s ls (fresh_state s) m' bars in
      let g = (run_follows s ls bars (fresh_state s) m (account_of (fresh_state s)) [] (fresh_follows s m)).grows in
      let g' = (run_follows s ls bars (fresh_state s) m' (account_of (fresh_state s)) [] (fresh_follows s m')).grows in
      let box = same_run.box in
      let closed : r.rooms.trades ≡ r'.rooms.trades =
      same_room (r.state.counts.trades * Limits.trade_words) (r'.state.counts.trades * Limits.trade_words) _ _ box.closed
      (g.behind_trades ∙ rw (box.trades, c) (sym g'.behind_trades)) in
      let points : r.rooms.equity ≡ r'.rooms.equity =
      same_room (r.state.counts.equity_points * Limits.point_words) (r'.state.counts.equity_points * Limits.point_words) _ _ box.equity
      (g.behind_points ∙ rw (box.points, e) (sym g'.behind_points)) in (
        points,
        closed,
        same_end_points s r.state r.rooms r'.state r'.rooms box points,
        same_end_room s r.state r.rooms r'.state r'.rooms box closed,
      )
