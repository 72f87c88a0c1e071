-- The test on the place, and then the node's own shape by its kind's row. Assumes nothing.
use Rattle.words.specs.Prelude.{le-leb, lt-leb}
use Rattle.rules.specs.{Shapes.condition_shape}
use Rattle.rules.proofs.shapes.condition_shape.Goals as goal

pub returns-then-i-ge256 : goal.returns-then-i-ge256
unfolding condition_shape
returns-then-i-ge256 c = simp (le-leb _ _ c.if-i-ge256.true)

pub returns : goal.returns
unfolding condition_shape
returns c =
    simp (
      lt-leb _ _ c.if-i-ge256.false,
      ← c.end_in-second.ensures,
      ← c.end_in-third.ensures,
      ← c.node_at-node.ensures,
      ← c.kind_of-row.ensures,
    )
    c.condition_of.ensures
