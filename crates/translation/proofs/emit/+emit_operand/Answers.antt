use Rattle.words.specs.Prelude.{arith}
use Rattle.steps.specs.{Bytes.step_of}
use Rattle.translation.proofs.{Writes.fits_first, Writes.fits_rest, Writes.fits_one, Writes.wrote_then, Writes.wrote_one, Operands.ground}
use Rattle.translation.proofs.{Operands.a_const, Operands.a_ref, Operands.a_price, Operands.a_prev, Operands.a_sum, Operands.no_operand}
use Rattle.translation.proofs.{Operands.code-const, Operands.code-ref, Operands.code-price, Operands.code-prev, Operands.code_sum, Operands.an_extreme}
use Rattle.translation.proofs.{Operands.code_extreme, Operands.extreme_reach, Operands.prev-reach, Operands.first_reach, Operands.second_reach}
use Rattle.steps.specs.declared.step.Op.TheVariants as Op
use Rattle.translation.proofs.emit.+emit_operand.Goals as goal

pub put_step-requires : goal.put_step-requires
unfolding step_of
put_step-requires t c =
    fits_one _ (rw (ground _ _ _ _ c.if-left-eq0.true, code-const) at c.requires.fits)

pub returns-then-left-eq0 : goal.returns-then-left-eq0
unfolding step_of
returns-then-left-eq0 t c =
    rw (ground _ _ _ _ c.if-left-eq0.true, code-const)
    (wrote_one _ _ (Op.Const 0 _) _ _ c.put_step.ensures.value c.put_step.ensures.room_after)

pub put_step-requires-in-Const : goal.put_step-requires-in-Const
unfolding step_of
put_step-requires-in-Const t c =
    let is = a_const _ _ _ _ c.if-left-eq0.false _ c.operand_shape.ensures _ c.in-Const.is in
    fits_one _ (rw (is, code-const) at c.requires.fits)

pub put_step-requires-in-Ref : goal.put_step-requires-in-Ref
unfolding step_of
put_step-requires-in-Ref t c =
    let is = a_ref _ _ _ _ c.if-left-eq0.false _ c.operand_shape.ensures _ c.in-Ref.is in
    fits_one _ (rw (is, code-ref) at c.requires.fits)

pub put_step-requires-in-Price : goal.put_step-requires-in-Price
unfolding step_of
put_step-requires-in-Price t c =
    let is = a_price _ _ _ _ c.if-left-eq0.false _ c.operand_shape.ensures _ c.in-Price.is in
    fits_one _ (rw (is, code-price) at c.requires.fits)

pub overflow_add-back : goal.overflow_add-back
unfolding step_of
overflow_add-back t c =
    let is = a_prev _ _ _ _ c.if-left-eq0.false _ c.operand_shape.ensures _ _ c.in-Prev.is in
    omega (arith, prev-reach _ _ _ (rw is at c.requires.i_bound))

pub emit_operand-requires : goal.emit_operand-requires
unfolding step_of
emit_operand-requires t c =
    let is = a_prev _ _ _ _ c.if-left-eq0.false _ c.operand_shape.ensures _ _ c.in-Prev.is in
    (omega arith, (prev-reach _ _ _ (rw is at c.requires.i_bound), rw (is, code-prev) at c.requires.fits))

pub emit_operand-p-requires : goal.emit_operand-p-requires
unfolding step_of
emit_operand-p-requires t c =
    let is = a_sum _ _ _ _ c.if-left-eq0.false _ c.operand_shape.ensures _ _ _ c.in-Arith.is in
    (omega arith, (first_reach _ _ _ _ (rw is at c.requires.i_bound), fits_first _ _ (rw (is, code_sum) at c.requires.fits)))

pub emit_operand-q-requires : goal.emit_operand-q-requires
unfolding step_of
emit_operand-q-requires t c =
    let is = a_sum _ _ _ _ c.if-left-eq0.false _ c.operand_shape.ensures _ _ _ c.in-Arith.is in
    let fits = fits_rest _ _ c.emit_operand-p.ensures (rw (is, code_sum) at c.requires.fits) in
    (omega arith, (second_reach _ _ _ _ (rw is at c.requires.i_bound), fits_first _ _ fits))

pub put_step-requires-in-Arith : goal.put_step-requires-in-Arith
unfolding step_of
put_step-requires-in-Arith t c =
    let is = a_sum _ _ _ _ c.if-left-eq0.false _ c.operand_shape.ensures _ _ _ c.in-Arith.is in
    fits_one _ (fits_rest _ _ c.emit_operand-q.ensures
    (fits_rest _ _ c.emit_operand-p.ensures (rw (is, code_sum) at c.requires.fits)))

pub put_extreme-requires : goal.put_extreme-requires
unfolding step_of
put_extreme-requires t c =
    let is = an_extreme _ _ _ _ c.if-left-eq0.false _ c.operand_shape.ensures _ _ _ c.in-Extreme.is in
    (extreme_reach _ _ _ _ (rw is at c.requires.i_bound), rw (is, code_extreme, ← c.series_in-over.ensures) at c.requires.fits)

pub put_step-requires-in-NoOperand : goal.put_step-requires-in-NoOperand
unfolding step_of
put_step-requires-in-NoOperand t c =
    let is = no_operand _ _ _ _ c.if-left-eq0.false _ c.operand_shape.ensures c.in-NoOperand.is in
    fits_one _ (rw (is, code-const) at c.requires.fits)

pub returns-in-Const : goal.returns-in-Const
unfolding step_of
returns-in-Const t c =
    let put = c.put_step-in-Const.ensures in let is = a_const _ _ _ _ c.if-left-eq0.false _ c.operand_shape.ensures _ c.in-Const.is in
    rw (is, code-const) (wrote_one _ _ (Op.Const _ _) _ _ put.value put.room_after)

pub returns-in-Ref : goal.returns-in-Ref
unfolding step_of
returns-in-Ref t c =
    let put = c.put_step-in-Ref.ensures in let is = a_ref _ _ _ _ c.if-left-eq0.false _ c.operand_shape.ensures _ c.in-Ref.is in
    rw (is, code-ref) (wrote_one _ _ (Op.Ref _ _) _ _ put.value put.room_after)

pub returns-in-Price : goal.returns-in-Price
unfolding step_of
returns-in-Price t c =
    let put = c.put_step-in-Price.ensures in let is = a_price _ _ _ _ c.if-left-eq0.false _ c.operand_shape.ensures _ c.in-Price.is in
    rw (is, code-price) (wrote_one _ _ (Op.Price _ _) _ _ put.value put.room_after)

pub returns-in-Prev : goal.returns-in-Prev
unfolding step_of
returns-in-Prev t c =
    let is = a_prev _ _ _ _ c.if-left-eq0.false _ c.operand_shape.ensures _ _ c.in-Prev.is in
    rw (is, code-prev) c.emit_operand.ensures

pub returns-in-Arith : goal.returns-in-Arith
unfolding step_of
returns-in-Arith t c =
    let put = c.put_step-in-Arith.ensures in let is = a_sum _ _ _ _ c.if-left-eq0.false _ c.operand_shape.ensures _ _ _ c.in-Arith.is in
    rw (is, code_sum) (wrote_then _ _ c.emit_operand-p.ensures
    (wrote_then _ _ c.emit_operand-q.ensures (wrote_one _ _ (Op.Arith _) _ _ put.value put.room_after)))

pub returns-in-Extreme : goal.returns-in-Extreme
unfolding step_of
returns-in-Extreme t c =
    let is = an_extreme _ _ _ _ c.if-left-eq0.false _ c.operand_shape.ensures _ _ _ c.in-Extreme.is in
    rw (is, code_extreme, ← c.series_in-over.ensures) c.put_extreme.ensures

pub returns-in-NoOperand : goal.returns-in-NoOperand
unfolding step_of
returns-in-NoOperand t c =
    let put = c.put_step-in-NoOperand.ensures in let is = no_operand _ _ _ _ c.if-left-eq0.false _ c.operand_shape.ensures c.in-NoOperand.is in
    rw (is, code-const) (wrote_one _ _ (Op.Const 0 _) _ _ put.value put.room_after)
