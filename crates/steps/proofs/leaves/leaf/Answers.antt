-- At once, or else the long way.
use Rattle.steps.proofs.leaves.leaf.Goals as goal

pub returns-then-at_once : goal.returns-then-at_once
returns-then-at_once c = c.leaf_at_once-at_once.ensures c.if-at_once.true
