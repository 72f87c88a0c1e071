-- FINISH AFTER LOSSES. A finish measures the points and trades of its own life. Those of the whole run are the figures over all lives' points and trades, one
-- after another, with the last point of all as finish leaves it: it stands in this life's books where a bar was taken in it, and else in those kept from
-- before.
use Rattle.std.specs.Prelude.{ℕ, suc, ◌+◌, ◌-◌, ◌*◌, ◌/◌, ◌≤◌, ◌≡◌, refl, List, [], ◌∷◌, ◌++◌, Float, length, set, None, Ok, Option, Some}
use Rattle.words.specs.Prelude.{flat_map}
use Rattle.words.specs.Prelude.{sym, ap, ◌∙◌, append_assoc, append-nil, zero-add}
use Rattle.words.specs.Prelude.{mul-div_cancel, arith, lt-ltb, length-append, length-take-le}
use Rattle.words.specs.{Limits.point_words, Limits.trade_words, Laws.Records.records_fit}
use Rattle.portfolio.specs.{declared.Trade.Trade, Trade.words_of_trade}
use Rattle.metrics.specs.{declared.Metrics.Metrics, Figures.metrics_of, Records.equity_of, Records.pnls_of}
use Rattle.records.specs.{declared.settings.Settings.Settings, declared.state.State.State, Lent.Rooms}
use Rattle.refusals.specs.{Judgement.finish_judged}
use Rattle.engine.specs.{Books.Point, Books.words_of_point, Books.trades_of, Books.held_points, Books.held_trades, Boxes.Sound, Finish.last_exit, Finish.remarked}
use Rattle.engine.specs.{Finish.ended, Run.Run, Whole.Account, Whole.state_of_account, Whole.Ledger, Whole.whole_end, Whole.whole_metrics}
use Rattle.runs.specs.{AsMeant.exit_of_account, Laws.BooksGrow.flat_append, Laws.Finishes.Closes, Laws.Finishes.end_closes, Laws.LastPoint.remarked_points}
use Rattle.runs.specs.{Restart.no_points_lem}
use Rattle.restart.specs.{AsIfNever.AsIfNever}
use Rattle.portfolio.specs.{declared.Closed.Closed}

-- ---- definitions

-- the figures over the words of points and trades, as `ysh_metrics` gives them
abbrev pub figures_of : Settings → List ℕ → List ℕ → Metrics
figures_of s points trades = metrics_of s.capital (equity_of points) (pnls_of trades)

-- the points of before, with the last of them as finish leaves it
abbrev pub last_remarked : Settings → State → List ℕ → List ℕ
last_remarked s t points = remarked points (length points / point_words) (last_exit s t) t.last.close

-- A finish of the run e, after lives that held these points and trades, is the end of the whole run w.
pub record EndsAsNever (s : Settings) (w : Ledger) (e : Run) (points trades : List ℕ) : Type 0 where
  -- the trades of before and then those of this life, the one that finish closes too
  pub closed : trades ++ held_trades (ended s e.state e.rooms).result.state (ended s e.state e.rooms).rooms
      ≡ flat_map words_of_trade (whole_end s w).trades
  -- where this life has a point: the points of before and then its own
  pub own : 1 ≤ e.state.counts.equity_points
      → points ++ held_points (ended s e.state e.rooms).result.state (ended s e.state e.rooms).rooms
      ≡ flat_map words_of_point (whole_end s w).points
  -- where it has none: those of before, with the last as finish leaves it
  pub none : e.state.counts.equity_points ≡ 0 → last_remarked s e.state points ≡ flat_map words_of_point (whole_end s w).points

-- ---- the last point of all

set_behind : (xs ys : List ℕ) (i a : ℕ) → set (xs ++ ys) (length xs + i) a ≡ xs ++ set ys i a
set_behind [] ys i a = ap (λ (j : ℕ). set ys j a) (zero-add i)
set_behind (x ∷ xs) ys i a =
    let next : length (x ∷ xs) + i ≡ suc (length xs + i) = omega arith in
    rw next (ap (λ (l : List ℕ). x ∷ l) (set_behind xs ys i a))

-- the last point of a life is the last of all
remarked_last : (P H : List ℕ) (k n : ℕ) (x : Option Closed) (close : Float) → k * point_words ≡ length P + n * point_words → 1 ≤ n
    → P ++ remarked H n x close ≡ remarked (P ++ H) k x close
unfolding remarked
remarked_last P H k n None close e some = refl
remarked_last P H k n (Some c) close e some =
    let here : (k - 1) * point_words + 1 ≡ length P + ((n - 1) * point_words + 1) = omega arith in
    rw (lt-ltb 0 n some, lt-ltb 0 k (omega arith), here) (sym (set_behind P H ((n - 1) * point_words + 1) _))

pub points_long : (ps : List Point) → length (flat_map words_of_point ps) ≡ length ps * point_words
unfolding flat_map words_of_point
points_long [] = refl
points_long (p ∷ ps) = let h = points_long ps in omega arith

pub trades_long : (ts : List Trade) → length (flat_map words_of_trade ts) ≡ length ts * trade_words
unfolding flat_map words_of_trade
trades_long [] = refl
trades_long (t ∷ ts) = let h = trades_long ts in omega arith

held_long : (s : Settings) (t : State) (m : Rooms) → Sound s t m → length (held_points t m) ≡ t.counts.equity_points * point_words
unfolding held_points
held_long s t m sound =
    length-take-le (t.counts.equity_points * point_words) m.equity
    (records_fit (length m.equity) point_words (omega arith) t.counts.equity_points sound.within.points)

-- ---- the end

module _ (s : Settings) (w : Ledger) (e : Run) (points trades : List ℕ) (h : AsIfNever w e points trades) (sound : Sound s e.state e.rooms)
    (fine : finish_judged s e.state e.rooms ≡ Ok tt) where
  abbrev x : Option Closed
  x = last_exit s (state_of_account w.account)

  abbrev close : Float
  close = w.account.last.close

  same : last_exit s e.state ≡ x
  same = exit_of_account s e.state ∙ ap (λ (a : Account). last_exit s (state_of_account a)) h.account

  closes : Closes e.state e.rooms (ended s e.state e.rooms).result.state (ended s e.state e.rooms).rooms (last_exit s e.state)
  closes = end_closes s e.state e.rooms fine

  own_points : 1 ≤ e.state.counts.equity_points
      → points ++ held_points (ended s e.state e.rooms).result.state (ended s e.state e.rooms).rooms
      ≡ flat_map words_of_point (whole_end s w).points
  unfolding whole_end
  own_points some =
      let n = e.state.counts.equity_points in
      let H = held_points e.state e.rooms in
      let long : length w.points * point_words ≡ length points + n * point_words =
      sym (points_long w.points) ∙ ap length (sym h.equity) ∙ length-append points H ∙ ap (λ (k : ℕ). length points + k)
      (held_long s e.state e.rooms sound) in
      ap (λ (l : List ℕ). points ++ l) closes.equity
      ∙ ap (λ (y : Option Closed). points ++ remarked H n y e.state.last.close) same
      ∙ ap (λ (a : Account). points ++ remarked H n x a.last.close) h.account
      ∙ remarked_last points H (length w.points) n x close long some ∙ rw h.equity (remarked_points w.points close x)

  no_point : e.state.counts.equity_points ≡ 0 → last_remarked s e.state points ≡ flat_map words_of_point (whole_end s w).points
  unfolding whole_end
  no_point none =
      let all : points ≡ flat_map words_of_point w.points =
      sym (append-nil points) ∙ ap (λ (l : List ℕ). points ++ l) (sym (no_points_lem e.state e.rooms none)) ∙ h.equity in
      let many : length (flat_map words_of_point w.points) / point_words ≡ length w.points =
      ap (λ (n : ℕ). n / point_words) (points_long w.points) ∙ mul-div_cancel (length w.points) {n = point_words} (omega arith) in
      ap (λ (y : Option Closed). remarked points (length points / point_words) y e.state.last.close) same
      ∙ ap (λ (a : Account). remarked points (length points / point_words) x a.last.close) h.account
      ∙ rw (all, many) (remarked_points w.points close x)

  -- FINISH AFTER LOSSES leaves, with what was kept from before, the points and trades of the whole run that has ended.
  pub ends_after_losses : EndsAsNever s w e points trades
  unfolding whole_end
  ends_after_losses = record {
    closed = ap (λ (l : List ℕ). trades ++ l) closes.closed
        ∙ sym (append_assoc trades (held_trades e.state e.rooms) _)
        ∙ rw (h.closed, same) (sym (flat_append words_of_trade w.trades (trades_of x)));
    own = own_points;
    none = no_point;
  }

-- SO THE FIGURES over them are the unbroken run's.
pub figures_after_losses : (s : Settings) (w : Ledger) (points trades : List ℕ) → points ≡ flat_map words_of_point (whole_end s w).points
    → trades ≡ flat_map words_of_trade (whole_end s w).trades → figures_of s points trades ≡ whole_metrics s (whole_end s w)
unfolding whole_metrics
figures_after_losses s w points trades p t = rw (p, t)
