-- What the step says is asked for once.
use Rattle.steps.specs.{WellFormed.good_step}
use Rattle.steps.proofs.wellformed.good_step.Goals as goal

pub returns-then-unused_fields_zero : goal.returns-then-unused_fields_zero
unfolding good_step
returns-then-unused_fields_zero c = rw (← c.op_of-op.ensures, ← c.unused_fields_zero.ensures, c.if-unused_fields_zero.true) c.bounded.ensures

pub returns : goal.returns
unfolding good_step
returns c = rw (← c.op_of-op.ensures, ← c.unused_fields_zero.ensures, c.if-unused_fields_zero.false)
