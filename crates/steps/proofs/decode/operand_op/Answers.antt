-- The tests are those of the definition, in its order.
use Rattle.words.specs.Prelude.{sym, ◌∙◌, arith, eq-eqb, le-leb, lt-leb, le-ltb, lt-ltb, ne_eqb}
use Rattle.steps.specs.{Bytes.operand_op, Laws.Classes.operation_out}
use Rattle.steps.proofs.decode.operand_op.Goals as goal

pub returns-then-x-eq-CONST : goal.returns-then-x-eq-CONST
unfolding operand_op
returns-then-x-eq-CONST c = simp (eq-eqb _ _ c.if-x-eq-CONST.true)

pub returns-then-x-eq-REF : goal.returns-then-x-eq-REF
unfolding operand_op
returns-then-x-eq-REF c = simp (eq-eqb _ _ c.if-x-eq-REF.true, ne_eqb _ _ c.if-x-eq-CONST.false)

pub returns-then-x-eq-PRICE : goal.returns-then-x-eq-PRICE
unfolding operand_op
returns-then-x-eq-PRICE c = simp (eq-eqb _ _ c.if-x-eq-PRICE.true, ne_eqb _ _ c.if-x-eq-REF.false, ne_eqb _ _ c.if-x-eq-CONST.false)

pub returns-then-x-lt-ADD : goal.returns-then-x-lt-ADD
unfolding operand_op
returns-then-x-lt-ADD c =
    simp (lt-ltb _ _ c.if-x-lt-ADD.true, ne_eqb _ _ c.if-x-eq-PRICE.false, ne_eqb _ _ c.if-x-eq-REF.false, ne_eqb _ _ c.if-x-eq-CONST.false)

pub returns-then-is_operation : goal.returns-then-is_operation
unfolding operand_op
returns-then-is_operation c =
    simp (
      sym c.is_operation.ensures ∙ c.if-is_operation.true,
      le-ltb _ _ c.if-x-lt-ADD.false,
      ne_eqb _ _ c.if-x-eq-PRICE.false,
      ne_eqb _ _ c.if-x-eq-REF.false,
      ne_eqb _ _ c.if-x-eq-CONST.false,
    )

pub extreme_op-requires : goal.extreme_op-requires
unfolding operand_op
extreme_op-requires c = (operation_out _ (sym c.is_operation.ensures ∙ c.if-is_operation.false) c.if-x-lt-ADD.false, omega arith)

pub returns-then-x-le-LOWEST_SLOT : goal.returns-then-x-le-LOWEST_SLOT
unfolding operand_op
returns-then-x-le-LOWEST_SLOT c =
    simp (
      c.extreme_op.ensures,
      le-leb _ _ c.if-x-le-LOWEST_SLOT.true,
      sym c.is_operation.ensures ∙ c.if-is_operation.false,
      le-ltb _ _ c.if-x-lt-ADD.false,
      ne_eqb _ _ c.if-x-eq-PRICE.false,
      ne_eqb _ _ c.if-x-eq-REF.false,
      ne_eqb _ _ c.if-x-eq-CONST.false,
    )

pub returns : goal.returns
unfolding operand_op
returns c =
    simp (
      lt-leb _ _ c.if-x-le-LOWEST_SLOT.false,
      sym c.is_operation.ensures ∙ c.if-is_operation.false,
      le-ltb _ _ c.if-x-lt-ADD.false,
      ne_eqb _ _ c.if-x-eq-PRICE.false,
      ne_eqb _ _ c.if-x-eq-REF.false,
      ne_eqb _ _ c.if-x-eq-CONST.false,
    )
