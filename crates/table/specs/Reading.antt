-- The trees of a table as trees: read off the forest of its nodes, each node over what is below it. Bytes that are no
-- accepted table read as some tree too; RoundTrip says why the reading is right. Definitions only.
use Rattle.std.specs.Prelude.{Bool, not, List, [], ◌∷◌, ℕ, ◌-◌, get_or, eqb}
use Rattle.table.specs.{declared.nodes.Node.Node, declared.kinds.OperandClass.OperandClass, declared.kinds.ConditionClass.ConditionClass, Kinds.kind_of}
use Rattle.table.specs.{Header.count, Forest.Forest, Forest.first_trees, Forest.trees, Forest.forest_of, Trees.Operand, Trees.const, Trees.ref, Trees.price}
use Rattle.table.specs.{Trees.prev, Trees.arith, Trees.extreme, Trees.Condition, Trees.Conditions, Trees.compare, Trees.cross, Trees.between, Trees.trend}
use Rattle.table.specs.{Trees.every, Trees.any, Trees.negated, Trees.in_position, Trees.bars_since, Trees.none, Trees.more, Series.as_series}
use Rattle.table.specs.declared.kinds.OperandClass.TheVariants as AsOperand
use Rattle.table.specs.declared.kinds.ConditionClass.TheVariants as AsCondition

-- operand k of those in a row
abbrev pub child : List Operand → ℕ → Operand
child os k = get_or os k (const 0)

-- An operand, from its node and the operands below it, by the class of its kind. A node that is no operand reads as 0.
unfoldable pub operand_by : OperandClass → Node → List Operand → Operand
operand_by AsOperand.Const n below = const n.constant
operand_by AsOperand.Ref n below = ref n.n
operand_by AsOperand.Price n below = price n.selector
operand_by AsOperand.Prev n below = prev (child below 0) n.n
operand_by AsOperand.Arith n below = arith n.kind (child below 0) (child below 1)
operand_by AsOperand.Extreme n below = extreme n.kind (as_series (child below 0)) n.n
operand_by AsOperand.NoOperand n below = const 0

unfoldable pub operand_from : Node → List Operand → Operand
operand_from n below = operand_by (kind_of n.kind).operand n below

unfoldable pub operands : Forest → List Operand
operands Forest.none = []
operands (Forest.tree n below rest) = operand_from n (operands below) ∷ operands rest

-- The first condition of a row. Where there is none: Any of none, which is never so.
unfoldable pub first_of : Conditions → Condition
first_of none = any none
first_of (more c cs) = c

-- A condition, from its node and the operands or the conditions below it, by the class of its kind. A node that is no
-- condition reads as Any of none.
unfoldable pub condition_by : ConditionClass → Node → List Operand → Conditions → Condition
condition_by AsCondition.Compare n os cs = compare n.kind (child os 0) (child os 1)
condition_by AsCondition.Cross n os cs = cross n.kind (child os 0) (child os 1)
condition_by AsCondition.Between n os cs = between (child os 0) (child os 1) (child os 2)
condition_by AsCondition.Trend n os cs = trend n.kind (child os 0) n.n
condition_by AsCondition.All n os cs = every cs
condition_by AsCondition.Any n os cs = any cs
condition_by AsCondition.Not n os cs = negated (first_of cs)
condition_by AsCondition.InPosition n os cs = in_position (eqb n.selector 1)
condition_by AsCondition.BarsSince n os cs = bars_since n.selector n.n
condition_by AsCondition.NoCondition n os cs = any none

unfoldable pub condition_from : Node → List Operand → Conditions → Condition
condition_from n os cs = condition_by (kind_of n.kind).condition n os cs

unfoldable pub conditions : Forest → Conditions
conditions Forest.none = none
conditions (Forest.tree n below rest) = more (condition_from n (operands below) (conditions below)) (conditions rest)

-- Tree x of a table: 0 entry, 1 exit, 2 short entry, 3 short exit. "0 means absent": an absent tree reads as Any of none.
unfoldable pub present : List ℕ → ℕ → Bool
present t x = not (eqb (count t x) 0)

unfoldable pub tree_of : List ℕ → ℕ → Condition
tree_of t x = first_of (conditions (forest_of t x))

-- What stands at node i of a tree whose nodes end at e: one operand, one condition, the first k operands or conditions.
unfoldable pub operands_at : List ℕ → ℕ → ℕ → ℕ → List Operand
operands_at t e j k = operands (first_trees k (trees t (e - j) j))

unfoldable pub conditions_at : List ℕ → ℕ → ℕ → ℕ → Conditions
conditions_at t e j k = conditions (first_trees k (trees t (e - j) j))

unfoldable pub operand_at : List ℕ → ℕ → ℕ → Operand
operand_at t e i = child (operands_at t e i 1) 0

unfoldable pub condition_at : List ℕ → ℕ → ℕ → Condition
condition_at t e i = first_of (conditions_at t e i 1)
