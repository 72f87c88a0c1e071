use Rattle.words.specs.Prelude.{◌/◌, ◌≡◌, sym, ◌∙◌, arith, length}
use Rattle.words.specs.{Laws.Records.record_ends, Limits.bar_words}
use Rattle.accounts.specs.{Laws.Stream.stream_fine, Laws.Stream.tenth, Laws.Stream.left_none, Laws.Stream.left_all}
use Rattle.accounts.specs.{Laws.Stream.left_more, Laws.Stream.left_stops}
use Rattle.accounts.proofs.stream.take_whole.Goals as goal

pub overflow_add-width : goal.overflow_add-width
overflow_add-width c = omega (arith, (stream_fine c.args.slots c.args.seen c.args.bars.now c.requires).0)

pub loop-done-init : goal.loop-done-init
loop-done-init c = left_none _ _ _ _ _

pub overflow_mul-from : goal.overflow_mul-from
overflow_mul-from c =
    let good = c.well_formed in
    omega (arith, record_ends (length c.args.bars.now) (bar_words c.args.slots) (omega arith) c.loop-done.done (omega arith))

pub overflow_add-to : goal.overflow_add-to
overflow_add-to c =
    let good = c.well_formed in
    omega (arith, record_ends (length c.args.bars.now) (bar_words c.args.slots) (omega arith) c.loop-done.done (omega arith))

pub overflow_add-seen : goal.overflow_add-seen
overflow_add-seen c =
    let good = c.well_formed in
    omega (
      arith,
      (stream_fine c.args.slots c.args.seen c.args.bars.now c.requires).1,
      tenth (length c.args.bars.now) c.args.slots c.loop-done.done (omega arith),
    )

pub offset_bounds-bars-from : goal.offset_bounds-bars-from
offset_bounds-bars-from c =
    let good = c.well_formed in
    omega (arith, record_ends (length c.args.bars.now) (bar_words c.args.slots) (omega arith) c.loop-done.done (omega arith))

pub slice_bounds-judge_next-end : goal.slice_bounds-judge_next-end
slice_bounds-judge_next-end c =
    omega (arith, record_ends (length c.args.bars.now) (bar_words c.args.slots) (omega arith) c.loop-done.done (omega arith))

-- a bar is refused
pub returns-in-Err : goal.returns-in-Err
returns-in-Err c =
    sym (left_stops _ _ _ _ _ c.loop-done.done (omega arith) c.loop-done.invariant _
    (sym c.judge_next-verdict.ensures ∙ c.in-Err.is))

pub loop-done-preserved : goal.loop-done-preserved
loop-done-preserved c =
    left_more _ _ _ _ _ c.loop-done.done (omega arith) c.loop-done.invariant (sym c.judge_next-verdict.ensures ∙ c.in_default.is)

-- all are taken
pub returns : goal.returns
returns c =
    let all = left_all _ _ _ _ _ c.loop-done.done (omega arith) c.loop-done.invariant in
    let n : c.loop-done.done ≡ length c.args.bars.now / bar_words c.args.slots = omega arith in
    cc
