use Rattle.words.specs.Prelude.{◌+◌, ◌-◌, ◌<◌, ◌≤◌, ◌≡◌, false, arith}
use Rattle.rules.specs.{Flat.grow_condition}
use Rattle.steps.specs.{declared.step.Op.TheVariants.Answer, declared.step.Op.TheVariants.Turn, declared.step.Op.TheVariants.InPosition}
use Rattle.steps.specs.{declared.step.Op.TheVariants.BarsSinceEntry, Bytes.step_of}
use Rattle.translation.proofs.{Writes.fits_first, Writes.fits_rest, Writes.fits_one, Writes.wrote_one, Writes.wrote_then}
use Rattle.translation.proofs.{Links.begin, Links.next, Links.link_fits, Links.push, Links.turn, Links.pop, Links.finish}
use Rattle.translation.proofs.{Conditions.ground, Conditions.grown, Conditions.code-none, Conditions.code-group, Conditions.code-not}
use Rattle.translation.proofs.{Conditions.code_position, Conditions.code_since, Conditions.code_compare, Conditions.code-trend, Conditions.reach-group}
use Rattle.translation.proofs.{Conditions.reach-not, Conditions.compare_reach, Conditions.trend-reach}
use Rattle.translation.proofs.+emit_condition_emit_each.Goals as goal

pub emit_condition-put_step-requires : goal.emit_condition-put_step-requires
unfolding grow_condition step_of
emit_condition-put_step-requires t c =
    fits_one _ (rw (ground _ _ _ _ c.if-left-eq0.true, code-none) at c.requires.fits)

pub emit_condition-returns-then-left-eq0 : goal.emit_condition-returns-then-left-eq0
unfolding grow_condition step_of
emit_condition-returns-then-left-eq0 t c =
    rw (ground _ _ _ _ c.if-left-eq0.true, code-none) (wrote_one _ _ (Answer false) _ _ c.put_step.ensures.value c.put_step.ensures.room_after)

pub emit_condition-overflow_sub-left : goal.emit_condition-overflow_sub-left
unfolding grow_condition step_of
emit_condition-overflow_sub-left t c =
    omega (arith, c.if-left-eq0.false)

pub emit_condition-emit_compare-requires : goal.emit_condition-emit_compare-requires
unfolding grow_condition step_of
emit_condition-emit_compare-requires t c =
    let is = grown _ _ _ _ c.if-left-eq0.false _ _ c.condition_shape.ensures c.in-Compare.is in
    let pre = rw is at c.requires in
    record { operand = compare_reach _ _ _ pre.i_bound; operand_2 = rw code_compare at pre.fits }

pub emit_condition-overflow_sub-left-in-Cross : goal.emit_condition-overflow_sub-left-in-Cross
unfolding grow_condition step_of
emit_condition-overflow_sub-left-in-Cross t c =
    omega (arith, c.if-left-eq0.false)

pub emit_condition-emit_cross-requires : goal.emit_condition-emit_cross-requires
unfolding grow_condition step_of
emit_condition-emit_cross-requires t c =
    let is = grown _ _ _ _ c.if-left-eq0.false _ _ c.condition_shape.ensures c.in-Cross.is in
    let pre = rw is at c.requires in record { b_bound = pre.i_bound; fits = pre.fits }

pub emit_condition-overflow_sub-left-in-Between : goal.emit_condition-overflow_sub-left-in-Between
unfolding grow_condition step_of
emit_condition-overflow_sub-left-in-Between t c =
    omega (arith, c.if-left-eq0.false)

pub emit_condition-emit_between-requires : goal.emit_condition-emit_between-requires
unfolding grow_condition step_of
emit_condition-emit_between-requires t c =
    let is = grown _ _ _ _ c.if-left-eq0.false _ _ c.condition_shape.ensures c.in-Between.is in
    let pre = rw is at c.requires in record { high_bound = pre.i_bound; operand = pre.fits }

pub emit_condition-overflow_sub-left-in-Trend : goal.emit_condition-overflow_sub-left-in-Trend
unfolding grow_condition step_of
emit_condition-overflow_sub-left-in-Trend t c =
    omega (arith, c.if-left-eq0.false)

pub emit_condition-emit_compare-requires-in-Trend : goal.emit_condition-emit_compare-requires-in-Trend
unfolding grow_condition step_of
emit_condition-emit_compare-requires-in-Trend t c =
    let is = grown _ _ _ _ c.if-left-eq0.false _ _ c.condition_shape.ensures c.in-Trend.is in
    let pre = rw is at c.requires in
    rw c.trend_test.ensures record { operand = trend-reach _ _ _ pre.i_bound; operand_2 = rw code-trend at pre.fits }

pub emit_condition-put_step-p-requires : goal.emit_condition-put_step-p-requires
unfolding grow_condition step_of
emit_condition-put_step-p-requires t c =
    let is = grown _ _ _ _ c.if-left-eq0.false _ _ c.condition_shape.ensures c.in-Group.is in
    fits_one _ (fits_first _ _ (rw (is, code-group) at c.requires.fits))

pub emit_condition-overflow_sub-left-in-Group : goal.emit_condition-overflow_sub-left-in-Group
unfolding grow_condition step_of
emit_condition-overflow_sub-left-in-Group t c =
    omega (arith, c.if-left-eq0.false)

pub emit_condition-emit_each-requires : goal.emit_condition-emit_each-requires
unfolding grow_condition step_of
emit_condition-emit_each-requires t c =
    let is = grown _ _ _ _ c.if-left-eq0.false _ _ c.condition_shape.ensures c.in-Group.is in
    let pre = rw is at c.requires in
    let begins = wrote_one _ _ (Answer _) _ _ c.put_step-p.ensures.value (rw c.group_kind.ensures at c.put_step-p.ensures.room_after) in (
      omega (arith, c.if-left-eq0.false, c.decreases),
      (rw reach-group at pre.i_bound, fits_rest _ _ begins (rw code-group at pre.fits)),
    )

pub emit_condition-overflow_sub-left-in-Not : goal.emit_condition-overflow_sub-left-in-Not
unfolding grow_condition step_of
emit_condition-overflow_sub-left-in-Not t c =
    omega (arith, c.if-left-eq0.false)

pub emit_condition-emit_condition-p-requires : goal.emit_condition-emit_condition-p-requires
unfolding grow_condition step_of
emit_condition-emit_condition-p-requires t c =
    let is = grown _ _ _ _ c.if-left-eq0.false _ _ c.condition_shape.ensures c.in-Not.is in
    let pre = rw is at c.requires in
    (omega (arith, c.if-left-eq0.false, c.decreases), (rw reach-not at pre.i_bound, fits_first _ _ (rw code-not at pre.fits)))

pub emit_condition-put_step-requires-in-Not : goal.emit_condition-put_step-requires-in-Not
unfolding grow_condition step_of
emit_condition-put_step-requires-in-Not t c =
    let is = grown _ _ _ _ c.if-left-eq0.false _ _ c.condition_shape.ensures c.in-Not.is in
    fits_one _ (fits_rest _ _ c.emit_condition-p.ensures (rw (is, code-not) at c.requires.fits))

pub emit_condition-put_step-requires-in-InPosition : goal.emit_condition-put_step-requires-in-InPosition
unfolding grow_condition step_of
emit_condition-put_step-requires-in-InPosition t c =
    let is = grown _ _ _ _ c.if-left-eq0.false _ _ c.condition_shape.ensures c.in-InPosition.is in
    fits_one _ (rw (is, code_position) at c.requires.fits)

pub emit_condition-put_step-requires-in-BarsSince : goal.emit_condition-put_step-requires-in-BarsSince
unfolding grow_condition step_of
emit_condition-put_step-requires-in-BarsSince t c =
    let is = grown _ _ _ _ c.if-left-eq0.false _ _ c.condition_shape.ensures c.in-BarsSince.is in
    fits_one _ (rw (is, code_since) at c.requires.fits)

pub emit_condition-put_step-requires-in-NoCondition : goal.emit_condition-put_step-requires-in-NoCondition
unfolding grow_condition step_of
emit_condition-put_step-requires-in-NoCondition t c =
    let is = grown _ _ _ _ c.if-left-eq0.false _ _ c.condition_shape.ensures c.in-NoCondition.is in
    fits_one _ (rw (is, code-none) at c.requires.fits)

pub emit_condition-returns-in-Compare : goal.emit_condition-returns-in-Compare
unfolding grow_condition step_of
emit_condition-returns-in-Compare t c =
    let is = grown _ _ _ _ c.if-left-eq0.false _ _ c.condition_shape.ensures c.in-Compare.is in
    rw (is, code_compare) c.emit_compare.ensures

pub emit_condition-returns-in-Cross : goal.emit_condition-returns-in-Cross
unfolding grow_condition step_of
emit_condition-returns-in-Cross t c =
    let is = grown _ _ _ _ c.if-left-eq0.false _ _ c.condition_shape.ensures c.in-Cross.is in
    rw is c.emit_cross.ensures

pub emit_condition-returns-in-Between : goal.emit_condition-returns-in-Between
unfolding grow_condition step_of
emit_condition-returns-in-Between t c =
    let is = grown _ _ _ _ c.if-left-eq0.false _ _ c.condition_shape.ensures c.in-Between.is in
    rw is c.emit_between.ensures

pub emit_condition-returns-in-Trend : goal.emit_condition-returns-in-Trend
unfolding grow_condition step_of
emit_condition-returns-in-Trend t c =
    let is = grown _ _ _ _ c.if-left-eq0.false _ _ c.condition_shape.ensures c.in-Trend.is in
    rw (is, code-trend) (rw c.trend_test.ensures at c.emit_compare-in-Trend.ensures)

pub emit_condition-returns-in-Group : goal.emit_condition-returns-in-Group
unfolding grow_condition step_of
emit_condition-returns-in-Group t c =
    let is = grown _ _ _ _ c.if-left-eq0.false _ _ c.condition_shape.ensures c.in-Group.is in
    let begins = wrote_one _ _ (Answer _) _ _ c.put_step-p.ensures.value (rw c.group_kind.ensures at c.put_step-p.ensures.room_after) in
    rw (is, code-group) (wrote_then _ _ begins c.emit_each.ensures)

pub emit_condition-returns-in-Not : goal.emit_condition-returns-in-Not
unfolding grow_condition step_of
emit_condition-returns-in-Not t c =
    let put = c.put_step-in-Not.ensures in let is = grown _ _ _ _ c.if-left-eq0.false _ _ c.condition_shape.ensures c.in-Not.is in
    rw (is, code-not) (wrote_then _ _ c.emit_condition-p.ensures (wrote_one _ _ Turn _ _ put.value put.room_after))

pub emit_condition-returns-in-InPosition : goal.emit_condition-returns-in-InPosition
unfolding grow_condition step_of
emit_condition-returns-in-InPosition t c =
    let put = c.put_step-in-InPosition.ensures in let is = grown _ _ _ _ c.if-left-eq0.false _ _ c.condition_shape.ensures c.in-InPosition.is in
    rw (is, code_position) (wrote_one _ _ (InPosition _) _ _ put.value (rw c.flag.ensures at put.room_after))

pub emit_condition-returns-in-BarsSince : goal.emit_condition-returns-in-BarsSince
unfolding grow_condition step_of
emit_condition-returns-in-BarsSince t c =
    let put = c.put_step-in-BarsSince.ensures in let is = grown _ _ _ _ c.if-left-eq0.false _ _ c.condition_shape.ensures c.in-BarsSince.is in
    rw (is, code_since) (wrote_one _ _ (BarsSinceEntry _ _) _ _ put.value put.room_after)

pub emit_condition-returns-in-NoCondition : goal.emit_condition-returns-in-NoCondition
unfolding grow_condition step_of
emit_condition-returns-in-NoCondition t c =
    let put = c.put_step-in-NoCondition.ensures in let is = grown _ _ _ _ c.if-left-eq0.false _ _ c.condition_shape.ensures c.in-NoCondition.is in
    rw (is, code-none) (wrote_one _ _ (Answer false) _ _ put.value put.room_after)

pub emit_each-loop-k-init : goal.emit_each-loop-k-init
unfolding grow_condition step_of
emit_each-loop-k-init t c =
    let all : c.args.n - 0 ≡ c.args.n = omega arith in
    rw all (begin _ _ _ _ _ _ _ c.requires.fits c.requires.j_bound c.well_formed.1.1.1.1.1.1.0.0)

pub emit_each-emit_condition-p-requires : goal.emit_each-emit_condition-p-requires
unfolding grow_condition step_of
emit_each-emit_condition-p-requires t c =
    let some : 0 < c.args.n - c.loop-k.k = omega arith in
    (omega (arith, c.decreases), next _ _ _ _ _ _ _ some c.loop-k.invariant)

pub emit_each-put_step-end-requires : goal.emit_each-put_step-end-requires
unfolding grow_condition step_of
emit_each-put_step-end-requires t c =
    let some : 0 < c.args.n - c.loop-k.k = omega arith in
    link_fits _ _ _ _ _ _ _ some c.loop-k.invariant c.emit_condition-p.ensures

pub emit_each-loop-k-preserved : goal.emit_each-loop-k-preserved
unfolding grow_condition step_of
emit_each-loop-k-preserved t c =
    let put = c.put_step-end.ensures in
    let some : 0 < c.args.n - c.loop-k.k = omega arith in
    let fewer : c.args.n - (c.loop-k.k + 1) ≡ c.args.n - c.loop-k.k - 1 = omega arith in
    rw (fewer, c.end_in-i.ensures, put.value) (push _ _ _ _ _ _ _ some c.loop-k.invariant c.emit_condition-p.ensures put.room_after)

pub emit_each-loop-m-init : goal.emit_each-loop-m-init
unfolding grow_condition step_of
emit_each-loop-m-init t c =
    let none : c.args.n - c.loop-k.k ≡ 0 = omega arith in
    turn _ _ _ _ _ _ _ (omega arith) (rw none at c.loop-k.invariant)

pub emit_each-overflow_mul-last : goal.emit_each-overflow_mul-last
unfolding grow_condition step_of
emit_each-overflow_mul-last t c =
    let more : c.loop-m.m < c.args.n = omega arith in
    omega (arith, (pop _ _ _ _ _ _ _ more c.loop-m.invariant).fits, c.loop-m.invariant.long)

pub emit_each-overflow_add-last : goal.emit_each-overflow_add-last
unfolding grow_condition step_of
emit_each-overflow_add-last t c =
    let more : c.loop-m.m < c.args.n = omega arith in
    omega (arith, (pop _ _ _ _ _ _ _ more c.loop-m.invariant).fits, c.loop-m.invariant.long)

pub emit_each-overflow_sub-end : goal.emit_each-overflow_sub-end
unfolding grow_condition step_of
emit_each-overflow_sub-end t c =
    let more : c.loop-m.m < c.args.n = omega arith in
    omega (arith, (pop _ _ _ _ _ _ _ more c.loop-m.invariant).above)

pub emit_each-overflow_sub-end-in-loop-m : goal.emit_each-overflow_sub-end-in-loop-m
unfolding grow_condition step_of
emit_each-overflow_sub-end-in-loop-m t c =
    let more : c.loop-m.m < c.args.n = omega arith in
    omega (arith, (pop _ _ _ _ _ _ _ more c.loop-m.invariant).above)

pub emit_each-put_step-requires : goal.emit_each-put_step-requires
unfolding grow_condition step_of
emit_each-put_step-requires t c =
    let more : c.loop-m.m < c.args.n = omega arith in
    (pop _ _ _ _ _ _ _ more c.loop-m.invariant).fits

pub emit_each-loop-m-preserved : goal.emit_each-loop-m-preserved
unfolding grow_condition step_of
emit_each-loop-m-preserved t c =
    let more : c.loop-m.m < c.args.n = omega arith in
    let put = rw c.jump_kind-jump.ensures at c.put_step.ensures.room_after in
    rw c.read64-before.ensures ((pop _ _ _ _ _ _ _ more c.loop-m.invariant).closes _ put)

pub emit_each-returns : goal.emit_each-returns
unfolding grow_condition step_of
emit_each-returns t c =
    let none : c.args.n ≤ c.loop-m.m = omega arith in
    finish _ _ _ _ _ _ _ none c.loop-m.invariant
