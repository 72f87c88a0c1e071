-- The node's line, then the lines of the node that the chain goes on from; what is left of the nesting falls. Assumes nothing.
use Rattle.chain.proofs.walk.+walk.Given as goal

abbrev pub decreases-walk : goal.decreases-walk
decreases-walk l = l.left
