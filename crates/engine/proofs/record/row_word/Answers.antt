-- A word before the slots, a slot that is present, a slot that is absent.
use Rattle.words.specs.Prelude.{eq-eqb, le-ltb, lt-ltb, ne_eqb}
use Rattle.engine.specs.{Record.row_word}
use Rattle.engine.proofs.record.row_word.Goals as goal

pub returns-then-j-lt-ROW_FIXED : goal.returns-then-j-lt-ROW_FIXED
unfolding row_word
returns-then-j-lt-ROW_FIXED c = simp (lt-ltb _ _ c.if-j-lt-ROW_FIXED.true)

pub returns-then-mask-slot-eq1 : goal.returns-then-mask-slot-eq1
unfolding row_word
returns-then-mask-slot-eq1 c = simp (le-ltb _ _ c.if-j-lt-ROW_FIXED.false, eq-eqb _ _ c.if-mask-slot-eq1.true)

pub returns : goal.returns
unfolding row_word
returns c = simp (le-ltb _ _ c.if-j-lt-ROW_FIXED.false, ne_eqb _ _ c.if-mask-slot-eq1.false)
