-- Too few bars, or the missing leaf now and then, or the two values. Assumes nothing.
use Rattle.words.specs.Prelude.{lt-ltb, le-ltb}
use Rattle.chain.specs.{Lines.detail_of}
use Rattle.chain.proofs.{Showing.two_shown}
use Rattle.chain.proofs.shown.show_trend.Goals as goal

pub returns-then-bar-back : goal.returns-then-bar-back
unfolding detail_of
returns-then-bar-back c = rw (lt-ltb _ _ c.if-bar-back.true) c.bare.ensures

pub returns : goal.returns
unfolding detail_of
returns c =
    rw (le-ltb _ _ c.if-bar-back.false, ← c.first_missing-now.ensures, ← c.first_missing-then.ensures, ← c.first_found-gone.ensures)
    (two_shown _ _ _ _ _ _ c.operand_word-x.ensures c.operand_word-y.ensures c.leaf_or.ensures)
