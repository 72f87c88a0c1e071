-- The test is the definition's.
use Rattle.words.specs.Prelude.{lt-ltb, le-ltb}
use Rattle.capi.specs.{Run.says_of}
use Rattle.capi.proofs.run.says_of.Goals as goal

pub returns-then-tree-lt-TREES : goal.returns-then-tree-lt-TREES
unfolding says_of
returns-then-tree-lt-TREES c = simp (c.bit_of.ensures, lt-ltb _ _ c.if-tree-lt-TREES.true)

pub returns-else-tree-lt-TREES : goal.returns-else-tree-lt-TREES
unfolding says_of
returns-else-tree-lt-TREES c = simp (le-ltb _ _ c.if-tree-lt-TREES.false)
