-- The step at p is the one that is read.
use Rattle.steps.proofs.phrases.near_leaf.Goals as goal

pub returns : goal.returns
returns c e s a b c2 d y = rw (← c.near_step.ensures) (c.leaf_at_once.ensures e s a b c2 d y)
