-- Finish after losses, proved: the words that `ysh_finish` leaves are those of the engine's end, of which restart says what its points and trades are.
use Rattle.std.specs.Prelude.{ℕ, ◌+◌, ◌-◌, ◌*◌, ◌/◌, ◌%◌, ◌≤◌, ◌≡◌, refl, cond, List, [], ◌∷◌, ◌++◌, ltb, Float, length, set, Err, None, Ok, Option, Some}
use Rattle.words.specs.Prelude.{flat_map}
use Rattle.words.specs.Prelude.{sym, ap, subst, ◌∙◌, append-nil, mul-div_cancel}
use Rattle.words.specs.Prelude.{arith, eq-eqb, le-leb, lt-ltb}
use Rattle.words.specs.{Limits.metric_words, Limits.point_words, Limits.trade_words, Outcome.gives, Words.word}
use Rattle.floats.specs.{Floats.word_of, Floats.float_of}
use Rattle.portfolio.specs.{Portfolio.equity, Trade.words_of_trade}
use Rattle.metrics.specs.{Figures.metrics_of, Figures.computed, Records.equity_of, Records.pnls_of, Records.whole}
use Rattle.records.specs.{declared.settings.Settings.Settings, declared.state.Position.Position, declared.state.State.State, Lent.Lists, Lent.Rooms}
use Rattle.records.specs.{Settings.settings_of, StateWords.state_of, Laws.RoundTrip.Floats64, Laws.RoundTrip.state_kept}
use Rattle.refusals.specs.{Judgement.finish_judged, Lines.judged}
use Rattle.engine.specs.{Account.leaving, Books.words_of_point, Books.trades_of, Books.held_points, Books.held_trades, Finish.last_exit, Finish.remarked}
use Rattle.engine.specs.{Finish.end_state, Finish.ended, Laws.Runs.run_none, Run.Run, Run.run_over, Whole.Ledger, Whole.whole_end}
use Rattle.runs.specs.{Laws.Finishes.end_closes, Laws.Floats.run_floats, Restart.no_points_lem}
use Rattle.restart.specs.{EndAfterLosses.last_remarked, EndAfterLosses.points_long, EndAfterLosses.trades_long, EndAfterLosses.EndsAsNever}
use Rattle.restart.specs.{EndAfterLosses.ends_after_losses, EndAfterLosses.figures_after_losses}
use Rattle.replies.specs.{Call.call_of, Call.unless_bad, Call.metric_lines}
use Rattle.stepping.specs.{Bars.StepLent, WordRun.WordRun, WordRun.answer_of}
use Rattle.capi.specs.{Figures.metrics_gives, Figures.metrics_call, Joined.IsEnd, Joined.ends_in_words, Laws.Calls.refused_word, Laws.RunCalls.finish_small}
use Rattle.capacitor.specs.{Capacitor.now, Capacitor.unbroken, Finish.finish_now, Finish.box_finished, Finish.last_kept, Finish.GivesWhole}
use Rattle.capacitor.specs.{Finish.FinishAfterLosses, Finish.FinishTheorem, Loss.Loss, Loss.points_in, Loss.trades_in, Loss.points_before, Loss.trades_before}
use Rattle.capacitor.specs.{Laws.EngineNow.EngineNow, Laws.EngineNow.engine_now}
use Rattle.refusals.specs.{Lines.Verdict}
use Rattle.portfolio.specs.{declared.Closed.Closed}

-- ---- `ysh_metrics` over whole records

computed-whole : (initial : Float) (points trades : List ℕ) → length points % point_words ≡ 0 → length trades % trade_words ≡ 0
    → computed initial points trades ≡ gives (metrics_of initial (equity_of points) (pnls_of trades))
unfolding computed whole
computed-whole initial points trades p t = rw (eq-eqb _ _ p, eq-eqb _ _ t)

metrics_room : (room : List ℕ) → metric_words ≤ length room → judged (metric_lines room) ≡ Ok tt
unfolding judged metric_lines
metrics_room room nine = rw (le-leb _ _ nine)

capital_is : (settings : List ℕ) → float_of (word settings 2) ≡ (settings_of settings).capital
unfolding settings_of
capital_is settings = refl

metrics_whole : (settings : List ℕ) (w : Ledger) (points trades : List ℕ) → points ≡ flat_map words_of_point (whole_end (settings_of settings) w).points
    → trades ≡ flat_map words_of_trade (whole_end (settings_of settings) w).trades → GivesWhole settings w points trades
unfolding metrics_call call_of unless_bad metrics_gives
metrics_whole settings w points trades p t room nine =
    let s = settings_of settings in
    let many = ap length p ∙ points_long (whole_end s w).points in
    let count = ap length t ∙ trades_long (whole_end s w).trades in
    rw (
      metrics_room room nine,
      computed-whole (float_of (word settings 2)) points trades (omega (arith, many)) (omega (arith, count)),
      capital_is settings,
      figures_after_losses s w points trades p t,
    )

-- ---- the last point that was kept

kept_by : (x : Option Closed) (points : List ℕ) (k : ℕ) → length points ≡ k * point_words → (p : Position) (close : Float)
    → cond (ltb 0 (length (trades_of x))) (set points (length points - 1) (word_of (equity (leaving p x).portfolio close))) points
    ≡ remarked points (length points / point_words) x close
unfolding trades_of leaving remarked
kept_by None points k long p close = refl
kept_by (Some c) [] k long p close = refl
kept_by (Some c) (a ∷ points) k long p close =
    let many : length (a ∷ points) / point_words ≡ k = ap (λ (n : ℕ). n / point_words) long ∙ mul-div_cancel k {n = point_words} (omega arith) in
    let here : length (a ∷ points) - 1 ≡ (k - 1) * point_words + 1 = omega (arith, long) in
    rw (many, here, lt-ltb 0 k (omega (arith, long)))

last_kept_lem : (s : Settings) (t : State) (m : Rooms) (points : List ℕ) (k : ℕ) → length points ≡ k * point_words → finish_judged s t m ≡ Ok tt
    → t.counts.trades ≡ 0 → last_kept points (ended s t m).result.state ≡ last_remarked s t points
unfolding last_kept ended end_state
last_kept_lem s t m points k long fine none =
    let closes = end_closes s t m fine in
    let count : (ended s t m).result.state.counts.trades ≡ length (trades_of (last_exit s t)) = omega (arith, closes.trades, none) in
    rw count (kept_by (last_exit s t) points k long t.position t.last.close)

-- ---- the finish

module _ (table settings : List ℕ) (ls : Lists) (box : StepLent) (losses : List Loss) (bars : List (List ℕ)) (n : EngineNow table settings ls box losses bars)
    (metrics : List ℕ) (nine : metric_words ≤ length metrics) (zero : (finish_now settings ls box losses bars metrics).answer ≡ 0) where
  abbrev s : Settings
  s = settings_of settings

  abbrev e : Run
  e = run_over s ls n.state n.rooms bars

  abbrev w : Ledger
  w = unbroken table settings losses bars e.done

  floats_now : Floats64 e.state
  floats_now = run_floats s ls bars n.state n.rooms n.floats

  end : IsEnd (finish_now settings ls box losses bars metrics) (finish_judged s e.state e.rooms) (ended s e.state e.rooms) n.room metrics
  end = rw n.is (ends_in_words settings n.room n.set n.long e.state floats_now e.rooms metrics nine)

  fine : finish_judged s e.state e.rooms ≡ Ok tt
  fine = go (finish_judged s e.state e.rooms) refl (sym end.answer ∙ zero)
    where
      go : (v : Verdict) → finish_judged s e.state e.rooms ≡ v → answer_of v ≡ 0 → v ≡ Ok tt
      go (Ok _) h z = refl
      go (Err r) h z = absurd (refused_word r (finish_small s e.state e.rooms r h) (unfold answer_of in z))

  ends : EndsAsNever s w e (points_before settings ls box losses) (trades_before settings ls box losses)
  ends = ends_after_losses s w e (points_before settings ls box losses) (trades_before settings ls box losses) n.never n.ready.sound fine

  state_is : state_of (finish_now settings ls box losses bars metrics).lent.state ≡ (ended s e.state e.rooms).result.state
  state_is = rw (end.state fine) (state_kept (ended s e.state e.rooms).result.state end.floats n.room n.long)

  points_are : points_in (box_finished settings ls box losses bars metrics)
      ≡ held_points (ended s e.state e.rooms).result.state (ended s e.state e.rooms).rooms
  unfolding held_points
  points_are = rw (state_is, end.equity fine)

  trades_are : trades_in (box_finished settings ls box losses bars metrics)
      ≡ held_trades (ended s e.state e.rooms).result.state (ended s e.state e.rooms).rooms
  unfolding held_trades
  trades_are = rw (state_is, end.trades fine)

  closed : trades_before settings ls box losses ++ trades_in (box_finished settings ls box losses bars metrics) ≡ flat_map words_of_trade (whole_end s w).trades
  closed = rw trades_are ends.closed

  own_points : 1 ≤ e.state.counts.equity_points
      → points_before settings ls box losses ++ points_in (box_finished settings ls box losses bars metrics) ≡ flat_map words_of_point (whole_end s w).points
  own_points some = ap (λ (l : List ℕ). points_before settings ls box losses ++ l) points_are ∙ ends.own some

  -- no bar since the last restore: neither a point nor a trade
  empty : bars ≡ [] → (e.state.counts.equity_points ≡ 0) × (e.state.counts.trades ≡ 0)
  empty nil =
      let same : e.state ≡ n.state = rw nil (ap (λ (r : Run). r.state) (run_none s ls n.state n.rooms)) in
      (ap (λ (t : State). t.counts.equity_points) same ∙ n.no_points, ap (λ (t : State). t.counts.trades) same ∙ n.no_trades)

  kept_points : bars ≡ [] → last_kept (points_before settings ls box losses) (state_of (box_finished settings ls box losses bars metrics).state)
      ≡ flat_map words_of_point (whole_end s w).points
  kept_points nil =
      let none = empty nil in
      let P = points_before settings ls box losses in
      let all : P ≡ flat_map words_of_point w.points =
      sym (append-nil P) ∙ ap (λ (l : List ℕ). P ++ l) (sym (no_points_lem e.state e.rooms none.0)) ∙ n.never.equity in
      rw state_is
      (last_kept_lem s e.state e.rooms P (length w.points) (ap length all ∙ points_long w.points) fine none.1 ∙ ends.none none.0)

  state_now : state_of (now settings ls box losses bars).lent.state ≡ e.state
  state_now = ap (λ (c : WordRun). state_of c.lent.state) n.is ∙ state_kept e.state floats_now n.room n.long

  done_now : e.done ≡ (now settings ls box losses bars).done
  done_now = ap (λ (c : WordRun). c.done) (sym n.is)

  whole_given : (points trades : List ℕ) → points ≡ flat_map words_of_point (whole_end s w).points → trades ≡ flat_map words_of_trade (whole_end s w).trades
      → GivesWhole settings (unbroken table settings losses bars (now settings ls box losses bars).done) points trades
  whole_given points trades p t =
      subst (λ (k : ℕ). GivesWhole settings (unbroken table settings losses bars k) points trades) done_now (metrics_whole settings w points trades p t)

  all_said : FinishAfterLosses table settings ls box losses bars metrics
  all_said = record {
    own = λ some. whole_given _ _ (own_points (subst (λ (t : State). 1 ≤ t.counts.equity_points) state_now some)) closed;
    none = λ nil. whole_given _ _ (kept_points nil) closed;
  }

-- FINISH AFTER LOSSES
pub finish_after_losses : FinishTheorem
finish_after_losses table settings ls box begun losses all bars words few free metrics nine zero =
    all_said table settings ls box losses bars (engine_now table settings ls box begun losses all bars words few free) metrics nine zero
