-- A box that keeps D rows is a run that keeps everything, and whose rules are asked of what they mean.
use Rattle.std.specs.Prelude.{ℕ, ◌≡◌, refl, List, [], ◌∷◌, ◌++◌, take, Ok}
use Rattle.words.specs.Prelude.{flat_map}
use Rattle.words.specs.Prelude.{sym, ap, ◌∙◌, zero-add, arith, length-append}
use Rattle.portfolio.specs.{Trade.words_of_trade}
use Rattle.metrics.specs.{Figures.metrics_of, Records.equity_of, Records.pnls_of}
use Rattle.records.specs.{declared.settings.Settings.Settings, declared.state.State.State, Lent.Lists, Lent.Rooms, State.fresh_state}
use Rattle.refusals.specs.{Judgement.finish_judged, Rooms.to_close}
use Rattle.engine.specs.{Books.words_of_point, Books.trades_of, Books.held_points, Books.held_trades, Boxes.Grown, Boxes.Holds, Finish.last_exit, Finish.end_state}
use Rattle.engine.specs.{Finish.measured, Finish.ended, Rules.rules_of, Rules.FromTable, Run.Run, Run.run_over, Whole.Account, Whole.account_of}
use Rattle.engine.specs.{Whole.state_of_account, Whole.by_lists, Whole.by_meaning, Whole.Ledger, Whole.whole_run, Whole.whole_run_by, Whole.end_points, Whole.whole_end}
use Rattle.engine.specs.{Whole.whole_metrics, Whole.meant_run}
use Rattle.runs.specs.{Laws.AccountStep.taken_as_meant, Laws.BooksGrow.flat_append, Laws.Finishes.Closes, Laws.Finishes.end_closes}
use Rattle.runs.specs.{Laws.Follows.run_follows, Laws.LastPoint.remarked_points, Laws.LastPoint.end_count, WholeHistory.fresh_follows}

-- what grew from a fresh state's books is all that they hold
from_fresh : (s : Settings) (m : Rooms) (u : State) (n : Rooms) (w : Ledger) → account_of u ≡ w.account
    → Grown (fresh_state s) m u n w.points w.trades → Holds u n w
unfolding fresh_state held_points held_trades
from_fresh s m u n w a g = record { account = a; points = g.points ∙ zero-add _; trades = g.trades ∙ zero-add _; equity = g.equity; closed = g.closed }

-- a run whose rules are asked of their lists
pub by_lists_lem : (s : Settings) (ls : Lists) (m : Rooms) (bars : List (List ℕ))
    → let r = run_over s ls (fresh_state s) m bars in
    Holds r.state r.rooms (whole_run s (by_lists s ls) (account_of (fresh_state s)) [] (take r.done bars))
by_lists_lem s ls m bars =
    let w = run_follows s ls bars (fresh_state s) m (account_of (fresh_state s)) [] (fresh_follows s m) in
    from_fresh s m _ _ _ w.follows.account w.grows

-- ---- the end

-- the last exit is the account's
pub exit_of_account : (s : Settings) (t : State) → last_exit s t ≡ last_exit s (state_of_account (account_of t))
unfolding last_exit to_close
exit_of_account s t = refl

-- the figures are those of the points and trades held
pub figures : (s : Settings) (t : State) (m : Rooms)
    → let e = ended s t m in
    e.result.metrics
    ≡ metrics_of s.capital (equity_of (held_points e.result.state e.rooms)) (pnls_of (held_trades e.result.state e.rooms))
unfolding ended end_state measured held_points held_trades
figures s t m = refl

-- THE END TOO: a finish that is fine leaves the books of a whole run that has ended, and gives their figures.
pub ends_whole : (s : Settings) (t : State) (m : Rooms) (w : Ledger) → Holds t m w → finish_judged s t m ≡ Ok tt
    → let e = ended s t m in
    Holds e.result.state e.rooms (whole_end s w) × (e.result.metrics ≡ whole_metrics s (whole_end s w))
unfolding whole_end whole_metrics
ends_whole s t m w h fine =
    let x = last_exit s (state_of_account w.account) in
    let close = w.account.last.close in
    let g : Closes t m (ended s t m).result.state (ended s t m).rooms x =
    rw (← h.account, ← (exit_of_account s t)) (end_closes s t m fine) in
    let equity : held_points (ended s t m).result.state (ended s t m).rooms ≡ flat_map words_of_point (end_points w.points x close) =
    g.equity ∙ rw (h.equity, h.points, ap (λ (a : Account). a.last) h.account) (remarked_points w.points close x) in
    let closed : held_trades (ended s t m).result.state (ended s t m).rooms ≡ flat_map words_of_trade (w.trades ++ trades_of x) =
    g.closed ∙ rw h.closed (sym (flat_append words_of_trade w.trades (trades_of x))) in (
      record {
        account = rw (← h.account, ← (exit_of_account s t)) (unfold ended end_state in refl);
        points = g.points ∙ h.points ∙ sym (end_count w.points x close);
        trades = omega (arith, g.trades, h.trades, length-append w.trades (trades_of x));
        equity = equity;
        closed = closed;
      },
      figures s t m ∙ rw (equity, closed),
    )

-- ---- by the meaning of the rules

-- lists of a table say what its rules mean, bar after bar
whole_as_meant : (table : List ℕ) (s : Settings) (ls : Lists) → FromTable table s ls → (bars : List (List ℕ)) (a : Account) (rows : List ℕ)
    → whole_run s (by_lists s ls) a rows bars ≡ whole_run s (by_meaning s (rules_of table)) a rows bars
unfolding whole_run_by
whole_as_meant table s ls f [] a rows = refl
whole_as_meant table s ls f (bar ∷ bars) a rows = rw (taken_as_meant s a rows bar table ls f, whole_as_meant table s ls f bars _ _)

-- A run from a fresh state that is the whole run w, and ends as it does.
pub record IsWhole (s : Settings) (r : Run) (w : Ledger) : Type 0 where
  pub holds : Holds r.state r.rooms w
  pub ends : finish_judged s r.state r.rooms ≡ Ok tt
      → let e = ended s r.state r.rooms in
      Holds e.result.state e.rooms (whole_end s w) × (e.result.metrics ≡ whole_metrics s (whole_end s w))

-- A BOX IS A RUN THAT KEEPS EVERYTHING: after every bar that it took, the account, the equity points and the trades are those of a run
-- whose rules, by their meaning, and whose volatility read the rows of every bar ever seen; and so are the figures at the end.
pub as_meant : (table : List ℕ) (s : Settings) (ls : Lists) → FromTable table s ls → (m : Rooms) (bars : List (List ℕ))
    → let r = run_over s ls (fresh_state s) m bars in
    IsWhole s r (meant_run table s (take r.done bars))
as_meant table s ls f m bars =
    let r : Run = run_over s ls (fresh_state s) m bars in
    let h : Holds r.state r.rooms (meant_run table s (take r.done bars)) =
    rw (← (whole_as_meant table s ls f _ _ _)) (by_lists_lem s ls m bars) in
    record { holds = h; ends = ends_whole s r.state r.rooms _ h }
