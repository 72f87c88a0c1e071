-- How a node of the table is made up, read off its 16 bytes and the array of subtree ends. Definitions only.
use Rattle.std.specs.Prelude.{ℕ, ◌+◌, true, false, cond, List, get_or, ltb, leb, eqb}
use Rattle.words.specs.{Limits.most_nodes}
use Rattle.table.specs.{declared.nodes.Node.Node, declared.kinds.OperandClass.OperandClass, declared.kinds.ConditionClass.ConditionClass, Kinds.kind_of}
use Rattle.table.specs.{Nodes.node_at}
use Rattle.rules.specs.{declared.shapes.OperandShape.OperandShape, declared.shapes.OperandShape.TheVariants.Const}
use Rattle.rules.specs.{declared.shapes.OperandShape.TheVariants.Ref, declared.shapes.OperandShape.TheVariants.Price}
use Rattle.rules.specs.{declared.shapes.OperandShape.TheVariants.Prev, declared.shapes.OperandShape.TheVariants.Arith}
use Rattle.rules.specs.{declared.shapes.OperandShape.TheVariants.Extreme, declared.shapes.OperandShape.TheVariants.NoOperand}
use Rattle.rules.specs.{declared.shapes.ConditionShape.ConditionShape, declared.shapes.ConditionShape.TheVariants.Compare}
use Rattle.rules.specs.{declared.shapes.ConditionShape.TheVariants.Cross, declared.shapes.ConditionShape.TheVariants.Between}
use Rattle.rules.specs.{declared.shapes.ConditionShape.TheVariants.Trend, declared.shapes.ConditionShape.TheVariants.Group}
use Rattle.rules.specs.{declared.shapes.ConditionShape.TheVariants.Not, declared.shapes.ConditionShape.TheVariants.InPosition}
use Rattle.rules.specs.{declared.shapes.ConditionShape.TheVariants.BarsSince, declared.shapes.ConditionShape.TheVariants.NoCondition}
use Rattle.table.specs.declared.kinds.OperandClass.TheVariants as AsOperand
use Rattle.table.specs.declared.kinds.ConditionClass.TheVariants as AsCondition

-- the end of the subtree at node i, one of 256
unfoldable pub end_in : List ℕ → ℕ → ℕ
end_in ends i = cond (ltb i most_nodes) (get_or ends i 0) 0

-- The shape of an operand's node, by the class of its kind: `first` and `second` are the nodes where the children begin.
unfoldable pub operand_of : OperandClass → Node → ℕ → ℕ → OperandShape
operand_of AsOperand.Const node first second = Const node.constant
operand_of AsOperand.Ref node first second = Ref node.n
operand_of AsOperand.Price node first second = Price node.selector
operand_of AsOperand.Prev node first second = Prev first node.n
operand_of AsOperand.Arith node first second = Arith node.kind first second
operand_of AsOperand.Extreme node first second = Extreme node.kind first node.n
operand_of AsOperand.NoOperand node first second = NoOperand

-- The same of a condition's node.
unfoldable pub condition_of : ConditionClass → Node → ℕ → ℕ → ℕ → ConditionShape
condition_of AsCondition.Compare node first second third = Compare node.kind first second
condition_of AsCondition.Cross node first second third = Cross node.kind first second
condition_of AsCondition.Between node first second third = Between first second third
condition_of AsCondition.Trend node first second third = Trend node.kind first node.n
condition_of AsCondition.All node first second third = Group true node.children first
condition_of AsCondition.Any node first second third = Group false node.children first
condition_of AsCondition.Not node first second third = Not first
condition_of AsCondition.InPosition node first second third = InPosition (eqb node.selector 1)
condition_of AsCondition.BarsSince node first second third = BarsSince node.selector node.n
condition_of AsCondition.NoCondition node first second third = NoCondition

-- "each tree in prefix order": a first child comes right after its node, each further one at the end of the one before.
unfoldable pub operand_shape : List ℕ → List ℕ → ℕ → OperandShape
operand_shape t ends i =
    cond (leb most_nodes i) NoOperand (operand_of (kind_of (node_at t i).kind).operand (node_at t i) (i + 1) (end_in ends (i + 1)))

unfoldable pub condition_shape : List ℕ → List ℕ → ℕ → ConditionShape
condition_shape t ends i =
    cond (leb most_nodes i) NoCondition
    (condition_of (kind_of (node_at t i).kind).condition (node_at t i) (i + 1) (end_in ends (i + 1)) (end_in ends (end_in ends (i + 1))))
