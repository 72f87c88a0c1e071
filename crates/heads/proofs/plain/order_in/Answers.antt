-- One test.
use Rattle.words.specs.Prelude.{le-leb, lt-leb}
use Rattle.heads.proofs.plain.order_in.Goals as goal

pub returns-then-order-le3 : goal.returns-then-order-le3
returns-then-order-le3 c = simp (le-leb _ _ c.if-order-le3.true)

pub returns : goal.returns
returns c = simp (lt-leb _ _ c.if-order-le3.false)
