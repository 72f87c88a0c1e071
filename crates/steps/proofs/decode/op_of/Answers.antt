-- The tests are those of the definition, in its order.
use Rattle.words.specs.Prelude.{le-ltb, lt-ltb}
use Rattle.steps.specs.{Bytes.op_of}
use Rattle.steps.proofs.decode.op_of.Goals as goal

pub returns-then-x-lt-FIRST_TEST : goal.returns-then-x-lt-FIRST_TEST
unfolding op_of
returns-then-x-lt-FIRST_TEST c = simp (c.operand_op.ensures, lt-ltb _ _ c.if-x-lt-FIRST_TEST.true)

pub returns-then-x-lt-ALL : goal.returns-then-x-lt-ALL
unfolding op_of
returns-then-x-lt-ALL c = simp (c.test_op.ensures, lt-ltb _ _ c.if-x-lt-ALL.true, le-ltb _ _ c.if-x-lt-FIRST_TEST.false)

pub returns : goal.returns
unfolding op_of
returns c = simp (c.answer_op.ensures, le-ltb _ _ c.if-x-lt-ALL.false, le-ltb _ _ c.if-x-lt-FIRST_TEST.false)
