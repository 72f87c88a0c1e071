-- A slot at or above 64 has no bit; below, the bit decides. Assumes nothing.
use Rattle.words.specs.Prelude.{eq-eqb, ne_eqb, arith, ◌<◌}
use Rattle.rules.specs.{Values.slot_of}
use Rattle.rules.proofs.{Words.no_bit}
use Rattle.rules.proofs.values.slot_at.Goals as goal

pub returns-then-slot : goal.returns-then-slot
unfolding slot_of
returns-then-slot c =
    let w = c.word_from-mask.result in let h : w < 18446744073709551616 = omega arith in rw
    (← c.word_from-mask.ensures, no_bit w c.args.slot h c.if-slot.true)

pub returns-then-mask-slot-eq1 : goal.returns-then-mask-slot-eq1
unfolding slot_of
returns-then-mask-slot-eq1 c = rw (← c.word_from-mask.ensures, eq-eqb _ _ c.if-mask-slot-eq1.true, ← c.field_at.ensures)

pub returns-else-mask-slot-eq1 : goal.returns-else-mask-slot-eq1
unfolding slot_of
returns-else-mask-slot-eq1 c = rw (← c.word_from-mask.ensures, ne_eqb _ _ c.if-mask-slot-eq1.false)
