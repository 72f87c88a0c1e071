-- Two tests.
use Rattle.words.specs.Prelude.{le-leb, lt-leb, eq-eqb, ne_eqb}
use Rattle.heads.proofs.plain.kind_in.Goals as goal

pub returns-then-order-eq0 : goal.returns-then-order-eq0
returns-then-order-eq0 c = simp (eq-eqb _ _ c.if-order-eq0.true)

pub returns-then-order-le2 : goal.returns-then-order-le2
returns-then-order-le2 c = simp (ne_eqb _ _ c.if-order-eq0.false, le-leb _ _ c.if-order-le2.true) c.order_in.ensures

pub returns : goal.returns
returns c = simp (ne_eqb _ _ c.if-order-eq0.false, lt-leb _ _ c.if-order-le2.false)
