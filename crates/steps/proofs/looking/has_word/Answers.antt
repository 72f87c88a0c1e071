-- The test of the bit is that of the definition.
use Rattle.words.specs.Prelude.{arith, lt-ltb}
use Rattle.rules.specs.{Values.price_of, Values.slot_of}
use Rattle.steps.proofs.looking.has_word.Goals as goal

pub overflow_shr-result : goal.overflow_shr-result
unfolding price_of slot_of
overflow_shr-result c =
    let there = rw c.if-slot.true at c.requires.1 in
    omega (arith, there.1)

pub returns-then-slot : goal.returns-then-slot
unfolding price_of slot_of
returns-then-slot c e = rw (c.if-slot.true, e)

pub returns : goal.returns
unfolding price_of slot_of
returns c e =
    let there = rw c.if-slot.false at c.requires.1 in
    rw (c.if-slot.false, lt-ltb _ _ there)
