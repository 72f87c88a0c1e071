-- The bar is judged, and where it is fine 15 is given. Assumes nothing.
use Rattle.words.specs.Prelude.{◌+◌, sym, arith, length-take-le}
use Rattle.engine.specs.{Day.unlisted_by}
use Rattle.engine.proofs.day.unlisted.Goals as goal

pub overflow_add-width : goal.overflow_add-width
overflow_add-width c = let good = c.well_formed in omega (arith, c.requires)

pub slice_bounds-judge_next-end : goal.slice_bounds-judge_next-end
slice_bounds-judge_next-end c =
    sym (length-take-le (10 + c.args.s.slots) c.args.bars.now c.requires)

pub returns-in-Err : goal.returns-in-Err
unfolding unlisted_by
returns-in-Err c = rw (← c.judge_next-verdict.ensures, c.in-Err.is)

pub returns-in-Ok : goal.returns-in-Ok
unfolding unlisted_by
returns-in-Ok c = rw (← c.judge_next-verdict.ensures, c.in-Ok.is)
