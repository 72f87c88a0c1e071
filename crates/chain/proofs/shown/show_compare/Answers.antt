-- The missing leaf of the two operands, or their values. Assumes nothing.
use Rattle.words.specs.Prelude.{arith}
use Rattle.chain.proofs.{Showing.two_shown}
use Rattle.chain.proofs.shown.show_compare.Goals as goal

pub two_missing-gone-requires : goal.two_missing-gone-requires
two_missing-gone-requires c = omega arith

pub returns : goal.returns
returns c =
    rw (← c.two_missing-gone.ensures)
    (two_shown _ _ _ _ _ _ c.operand_word-x.ensures c.operand_word-y.ensures c.leaf_or.ensures)
