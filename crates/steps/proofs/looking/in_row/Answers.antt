-- The tests are those of the definition.
use Rattle.words.specs.Prelude.{sym, true≢false, arith, ltb-true}
use Rattle.steps.proofs.looking.in_row.Goals as goal

pub returns-then-which-slots : goal.returns-then-which-slots
returns-then-which-slots c e = rw c.if-slot.true (omega (arith, c.if-which-slots.true), ltb-true _ _ e)

pub returns-then-slot : goal.returns-then-slot
returns-then-slot c e = absurd (true≢false (sym e))

pub returns : goal.returns
returns c e = rw c.if-slot.false (ltb-true _ _ e)
