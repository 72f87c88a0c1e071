-- No line where there is no such tree, or it is absent; else those of the walk from its root. Assumes nothing.
use Rattle.words.specs.Prelude.{arith}
use Rattle.chain.proofs.{Explaining.no_tree, Explaining.absent_tree, Explaining.present_tree}
use Rattle.chain.proofs.explain.explain_tree.Goals as goal

pub returns-then-tree-ge-TREES : goal.returns-then-tree-ge-TREES
returns-then-tree-ge-TREES c =
    let both = no_tree _ _ _ _ _ _ c.if-tree-ge-TREES.true in
    record { value = both.0; lines_after = both.1 }

pub returns-then-count-eq0 : goal.returns-then-count-eq0
returns-then-count-eq0 c =
    let both = absent_tree _ _ _ _ _ _ c.if-tree-ge-TREES.false _ c.count.ensures.0 c.if-count-eq0.true in
    record { value = both.0; lines_after = both.1 }

pub walk-requires : goal.walk-requires
walk-requires c = omega arith

pub returns : goal.returns
returns c =
    let both = present_tree _ _ _ _ _ _ c.if-tree-ge-TREES.false _ c.count.ensures.0 c.if-count-eq0.false _ _ _ _ _ c.slots-slots.ensures c.root-root.ensures.0
    c.newest.ensures c.walk.ensures.value c.walk.ensures.lines_after in
    record { value = both.0; lines_after = both.1 }
