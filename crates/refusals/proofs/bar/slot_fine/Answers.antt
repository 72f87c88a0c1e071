-- By the bit, then by the slot's number.
use Rattle.words.specs.Prelude.{eq-eqb, le-ltb, lt-ltb, ne_eqb}
use Rattle.refusals.specs.{Bar.bit_fine}
use Rattle.refusals.proofs.bar.slot_fine.Goals as goal

pub returns-then-k-slots : goal.returns-then-k-slots
unfolding bit_fine
returns-then-k-slots c =
    simp (
      c.word_is_finite.ensures,
      c.word_from.ensures,
      lt-ltb _ _ c.if-k-slots.true,
      eq-eqb _ _ c.if-left-eq1.true,
    )

pub returns-then-left-eq1 : goal.returns-then-left-eq1
unfolding bit_fine
returns-then-left-eq1 c =
    simp (
      le-ltb _ _ c.if-k-slots.false,
      eq-eqb _ _ c.if-left-eq1.true,
    )

pub returns : goal.returns
unfolding bit_fine
returns c =
    simp (ne_eqb _ _ c.if-left-eq1.false)
