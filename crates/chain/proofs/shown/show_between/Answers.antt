-- The missing leaf of the three operands, or their values. Assumes nothing.
use Rattle.words.specs.Prelude.{arith}
use Rattle.chain.proofs.{Showing.three_shown}
use Rattle.chain.proofs.shown.show_between.Goals as goal

pub two_missing-two-requires : goal.two_missing-two-requires
two_missing-two-requires c = omega arith

pub first_missing-third-requires : goal.first_missing-third-requires
first_missing-third-requires c = omega arith

pub returns : goal.returns
returns c =
    rw (← c.two_missing-two.ensures, ← c.first_missing-third.ensures, ← c.first_found-gone.ensures)
    (three_shown _ _ _ _ _ _ _ _ c.operand_word-v.ensures c.operand_word-l.ensures
    c.operand_word-h.ensures c.leaf_or.ensures)
