use Rattle.words.specs.Prelude.{ℕ, ◌≡◌, refl, sym, ◌∙◌, arith, length, length-replicate}
use Rattle.words.specs.{Limits.bar_words}
use Rattle.streamed.proofs.{Riding.bar_within, Riding.record_long, Riding.calls_none, Riding.calls_all, Riding.calls_more}
use Rattle.streamed.proofs.{Riding.calls_stop}
use Rattle.streamed.proofs.four.ride.Goals as goal

pub overflow_add-width : goal.overflow_add-width
overflow_add-width c = omega (arith, c.requires.0)

pub loop-done-init : goal.loop-done-init
loop-done-init c =
    record {
      after = calls_none _ _ _ _ _ _ _;
      state = refl;
      rows = refl;
      equity = refl;
      trades = refl;
      wide = length-replicate {A = ℕ} 74 0;
    }

pub overflow_mul-from : goal.overflow_mul-from
overflow_mul-from c =
    let good = c.well_formed in
    let a = c.args in
    omega (
      arith,
      bar_within (length a.bars.now) (bar_words a.stream) c.loop-done.done a.count (omega arith) (omega arith) c.requires.2,
    )

pub overflow_add-to : goal.overflow_add-to
overflow_add-to c =
    let good = c.well_formed in
    let a = c.args in
    omega (
      arith,
      bar_within (length a.bars.now) (bar_words a.stream) c.loop-done.done a.count (omega arith) (omega arith) c.requires.2,
    )

pub offset_bounds-bars-from : goal.offset_bounds-bars-from
offset_bounds-bars-from c =
    let good = c.well_formed in
    let a = c.args in
    omega (
      arith,
      bar_within (length a.bars.now) (bar_words a.stream) c.loop-done.done a.count (omega arith) (omega arith) c.requires.2,
    )

pub slice_bounds-step_own-end : goal.slice_bounds-step_own-end
slice_bounds-step_own-end c =
    let a = c.args in
    omega (
      arith,
      bar_within (length a.bars.now) (bar_words a.stream) c.loop-done.done a.count (omega arith) (omega arith) c.requires.2,
    )

pub slice_bounds-step_own-end-in-loop-done : goal.slice_bounds-step_own-end-in-loop-done
slice_bounds-step_own-end-in-loop-done c = sym c.loop-done.invariant.wide

pub step_own-answer-requires : goal.step_own-answer-requires
step_own-answer-requires c =
    let a = c.args in
    let within = bar_within (length a.bars.now) (bar_words a.stream) c.loop-done.done a.count (omega arith) (omega arith) c.requires.2 in
    (record_long (bar_words a.stream) a.bars.now c.loop-done.done within, c.requires.1, omega (arith, c.loop-done.invariant.wide, c.requires.0, c.requires.1))

pub shape_of-state-then-answer-ne0 : goal.shape_of-state-then-answer-ne0
shape_of-state-then-answer-ne0 c = c.step_own-answer.auto.state ∙ c.loop-done.invariant.state

pub shape_of-rows-then-answer-ne0 : goal.shape_of-rows-then-answer-ne0
shape_of-rows-then-answer-ne0 c = c.step_own-answer.auto.rows ∙ c.loop-done.invariant.rows

pub shape_of-equity-then-answer-ne0 : goal.shape_of-equity-then-answer-ne0
shape_of-equity-then-answer-ne0 c = c.step_own-answer.auto.equity ∙ c.loop-done.invariant.equity

pub shape_of-trades-then-answer-ne0 : goal.shape_of-trades-then-answer-ne0
shape_of-trades-then-answer-ne0 c = c.step_own-answer.auto.trades ∙ c.loop-done.invariant.trades

-- an account that refuses a bar
pub returns-then-answer-ne0 : goal.returns-then-answer-ne0
returns-then-answer-ne0 c =
    calls_stop _ _ _ _ _ _ _ c.loop-done.done (omega arith) _ c.loop-done.invariant.after c.step_own-answer.ensures c.if-answer-ne0.true

pub loop-done-preserved : goal.loop-done-preserved
loop-done-preserved c =
    let inv = c.loop-done.invariant in
    record {
      after = calls_more _ _ _ _ _ _ _ c.loop-done.done (omega arith) _ inv.after c.step_own-answer.ensures c.if-answer-ne0.false;
      state = c.step_own-answer.auto.state ∙ inv.state;
      rows = c.step_own-answer.auto.rows ∙ inv.rows;
      equity = c.step_own-answer.auto.equity ∙ inv.equity;
      trades = c.step_own-answer.auto.trades ∙ inv.trades;
      wide = c.step_own-answer.auto.own ∙ inv.wide;
    }

pub shape_of-state : goal.shape_of-state
shape_of-state c = c.loop-done.invariant.state

pub shape_of-rows : goal.shape_of-rows
shape_of-rows c = c.loop-done.invariant.rows

pub shape_of-equity : goal.shape_of-equity
shape_of-equity c = c.loop-done.invariant.equity

pub shape_of-trades : goal.shape_of-trades
shape_of-trades c = c.loop-done.invariant.trades

-- all bars are taken
pub returns : goal.returns
returns c =
    let all = calls_all _ _ _ _ _ _ _ c.loop-done.done (omega arith) c.loop-done.invariant.after in
    let n : c.loop-done.done ≡ c.args.count = omega arith in
    cc
