-- Each return is a case of `value` at the operand that stands at the node; what is left of the nesting falls, and `binary`
-- comes just above the operands that it calls. Assumes nothing.
use Rattle.words.specs.Prelude.{◌+◌, ◌*◌}
use Rattle.rules.proofs.operands.+binary_eval_operand.Given as goal

abbrev pub decreases-binary : goal.decreases-binary
decreases-binary l = 2 * l.left + 1

abbrev pub decreases-eval_operand : goal.decreases-eval_operand
decreases-eval_operand l = 2 * l.left
