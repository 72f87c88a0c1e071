-- The test of the bit is that of the definition.
use Rattle.words.specs.Prelude.{eq-eqb, ne_eqb}
use Rattle.rules.specs.{Values.slot_of}
use Rattle.steps.proofs.leaves.slot_in.Goals as goal

pub returns-then-mask-slot-eq1 : goal.returns-then-mask-slot-eq1
unfolding slot_of
returns-then-mask-slot-eq1 c = rw (eq-eqb _ _ c.if-mask-slot-eq1.true, ← c.field_in.ensures)

pub returns-else-mask-slot-eq1 : goal.returns-else-mask-slot-eq1
unfolding slot_of
returns-else-mask-slot-eq1 c = rw (ne_eqb _ _ c.if-mask-slot-eq1.false)
