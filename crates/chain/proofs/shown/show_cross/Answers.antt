-- The first bar, or the missing leaf now and before, or the four values. Assumes nothing.
use Rattle.words.specs.Prelude.{arith, eq-eqb, ne_eqb}
use Rattle.chain.specs.{Lines.detail_of}
use Rattle.chain.proofs.{Showing.four_shown}
use Rattle.chain.proofs.shown.show_cross.Goals as goal

pub returns-then-bar-eq0 : goal.returns-then-bar-eq0
unfolding detail_of
returns-then-bar-eq0 c = rw (eq-eqb _ _ c.if-bar-eq0.true) c.bare.ensures

pub two_missing-now-requires : goal.two_missing-now-requires
unfolding detail_of
two_missing-now-requires c = omega arith

pub two_missing-before-requires : goal.two_missing-before-requires
unfolding detail_of
two_missing-before-requires c = omega arith

pub returns : goal.returns
unfolding detail_of
returns c =
    rw (ne_eqb _ _ c.if-bar-eq0.false, ← c.two_missing-now.ensures, ← c.two_missing-before.ensures, ← c.first_found-gone.ensures)
    (four_shown _ _ _ _ _ _ _ _ _ _ c.operand_word-x.ensures c.operand_word-y.ensures
    c.operand_word-x_before.ensures c.operand_word-y_before.ensures
    c.leaf_or.ensures)
