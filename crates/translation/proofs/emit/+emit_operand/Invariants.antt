-- By the node's shape: a leaf is one step, Prev is its operand further back, arithmetic is its operands and one step more.
use Rattle.translation.proofs.emit.+emit_operand.Given as goal

abbrev pub decreases-emit_operand : goal.decreases-emit_operand
decreases-emit_operand l = l.left
