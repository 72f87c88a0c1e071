use Rattle.words.specs.Prelude.{◌∙◌, arith, length}
use Rattle.refusals.specs.{Laws.Fine.settings_fine}
use Rattle.engine.proofs.{Days.begins, Days.bar_ends, Days.bar_long, Days.one_more, Days.stops, Days.all_done}
use Rattle.engine.proofs.day.take_bars.Goals as goal

pub overflow_add-width : goal.overflow_add-width
overflow_add-width c =
    omega (arith, (settings_fine c.args.s c.requires.1.steady.settings).slots)

pub overflow_add-row : goal.overflow_add-row
overflow_add-row c =
    omega (arith, (settings_fine c.args.s c.requires.1.steady.settings).slots)

pub loop-done-init : goal.loop-done-init
loop-done-init c = begins _ _ _ _ _ _ c.requires.1

pub overflow_mul-from : goal.overflow_mul-from
overflow_mul-from c =
    let good = c.well_formed in
    omega (arith, bar_ends c.args.s.slots (length c.args.bars.now) c.loop-done.done (omega arith))

pub overflow_add-to : goal.overflow_add-to
overflow_add-to c =
    let good = c.well_formed in
    omega (arith, bar_ends c.args.s.slots (length c.args.bars.now) c.loop-done.done (omega arith))

pub offset_bounds-bars-from : goal.offset_bounds-bars-from
offset_bounds-bars-from c =
    let good = c.well_formed in
    omega (arith, bar_ends c.args.s.slots (length c.args.bars.now) c.loop-done.done (omega arith))

pub slice_bounds-next_bar-end : goal.slice_bounds-next_bar-end
slice_bounds-next_bar-end c =
    omega (arith, bar_ends c.args.s.slots (length c.args.bars.now) c.loop-done.done (omega arith))

pub next_bar-went-requires : goal.next_bar-went-requires
next_bar-went-requires c =
    let long = bar_long _ _ _ _ _ _ _ _ _ _ _ _ c.loop-done.invariant (omega arith) in
    (c.requires.0, long, c.loop-done.invariant.at, c.loop-done.invariant.underway)

-- the rooms are as long as they were, also after the bar that was refused
pub shape_of-rows-in-Err : goal.shape_of-rows-in-Err
shape_of-rows-in-Err c =
    c.turn.auto.room ∙ c.next_bar-went.auto.rows ∙ c.loop-done.invariant.lengths.rows

pub shape_of-equity-in-Err : goal.shape_of-equity-in-Err
shape_of-equity-in-Err c =
    c.next_bar-went.auto.equity ∙ c.loop-done.invariant.lengths.equity

pub shape_of-trades-in-Err : goal.shape_of-trades-in-Err
shape_of-trades-in-Err c =
    c.next_bar-went.auto.trades ∙ c.loop-done.invariant.lengths.trades

-- a bar is refused
pub returns-in-Err : goal.returns-in-Err
returns-in-Err c =
    rw c.turn.ensures
    (stops _ _ _ _ _ _ _ _ _ _ _ _ c.loop-done.invariant (omega arith) c.next_bar-went.ensures
    c.in-Err.is)

pub loop-done-preserved : goal.loop-done-preserved
loop-done-preserved c =
    one_more _ _ _ _ _ _ _ _ _ _ _ _ c.loop-done.invariant (omega arith) c.next_bar-went.ensures c.in-Ok.is
    c.next_bar-went.auto.rows c.next_bar-went.auto.equity c.next_bar-went.auto.trades

-- all are done
pub shape_of-rows : goal.shape_of-rows
shape_of-rows c = c.turn-2.auto.room ∙ c.loop-done.invariant.lengths.rows

pub shape_of-equity : goal.shape_of-equity
shape_of-equity c = c.loop-done.invariant.lengths.equity

pub shape_of-trades : goal.shape_of-trades
shape_of-trades c = c.loop-done.invariant.lengths.trades

pub returns : goal.returns
returns c =
    rw c.turn-2.ensures (all_done _ _ _ _ _ _ _ _ _ _ _ _ c.loop-done.invariant (omega arith))
