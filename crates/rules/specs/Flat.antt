-- The tree that stands at a node, read off the bytes and the array of subtree ends, whatever they are. On an accepted
-- table it is the table's own tree. Definitions only.
use Rattle.std.specs.Prelude.{ℕ, zero, suc, Bool, true, false, List}
use Rattle.table.specs.{declared.series.Series.Series, Series.series_in, Trees.Operand, Trees.const, Trees.ref, Trees.price, Trees.prev, Trees.arith}
use Rattle.table.specs.{Trees.extreme, Trees.Condition, Trees.Conditions, Trees.compare, Trees.cross, Trees.between, Trees.trend, Trees.every, Trees.any}
use Rattle.table.specs.{Trees.negated, Trees.in_position, Trees.bars_since, Trees.none, Trees.more}
use Rattle.rules.specs.{declared.shapes.OperandShape.OperandShape, declared.shapes.OperandShape.TheVariants.Const}
use Rattle.rules.specs.{declared.shapes.OperandShape.TheVariants.Ref, declared.shapes.OperandShape.TheVariants.Price}
use Rattle.rules.specs.{declared.shapes.OperandShape.TheVariants.Prev, declared.shapes.OperandShape.TheVariants.Arith}
use Rattle.rules.specs.{declared.shapes.OperandShape.TheVariants.Extreme, declared.shapes.OperandShape.TheVariants.NoOperand}
use Rattle.rules.specs.{declared.shapes.ConditionShape.ConditionShape, declared.shapes.ConditionShape.TheVariants.Compare}
use Rattle.rules.specs.{declared.shapes.ConditionShape.TheVariants.Cross, declared.shapes.ConditionShape.TheVariants.Between}
use Rattle.rules.specs.{declared.shapes.ConditionShape.TheVariants.Trend, declared.shapes.ConditionShape.TheVariants.Group}
use Rattle.rules.specs.{declared.shapes.ConditionShape.TheVariants.Not, declared.shapes.ConditionShape.TheVariants.InPosition}
use Rattle.rules.specs.{declared.shapes.ConditionShape.TheVariants.BarsSince, declared.shapes.ConditionShape.TheVariants.NoCondition, Shapes.end_in}
use Rattle.rules.specs.{Shapes.operand_shape, Shapes.condition_shape}

-- the operand of a shape, where `below` has the operands at the nodes below and `over` the series; a node that is no operand is read as 0
unfoldable pub grow_operand : (ℕ → Series) → (ℕ → Operand) → OperandShape → Operand
grow_operand over below (Const bits) = const bits
grow_operand over below (Ref slot) = ref slot
grow_operand over below (Price selector) = price selector
grow_operand over below (Prev a n) = prev (below a) n
grow_operand over below (Arith kind a b) = arith kind (below a) (below b)
grow_operand over below (Extreme kind a n) = extreme kind (over a) n
grow_operand over below NoOperand = const 0

-- the operand at node i, where `left` levels of nesting are left, its own counted
unfoldable pub flat_operand_at : ℕ → List ℕ → List ℕ → ℕ → Operand
flat_operand_at zero t ends i = const 0
flat_operand_at (suc left) t ends i = grow_operand (series_in t) (flat_operand_at left t ends) (operand_shape t ends i)

-- n conditions, the first at node j, each at the end of the one before
unfoldable pub grow_conditions : (ℕ → Condition) → List ℕ → ℕ → ℕ → Conditions
grow_conditions below ends zero j = none
grow_conditions below ends (suc n) j = more (below j) (grow_conditions below ends n (end_in ends j))

-- All or Any
unfoldable pub group : Bool → Conditions → Condition
group true cs = every cs
group false cs = any cs

-- the condition of a shape; a node that is no condition is read as Any of none, which is no
unfoldable pub grow_condition : (ℕ → Operand) → (ℕ → Condition) → List ℕ → ConditionShape → Condition
grow_condition operand below ends (Compare kind a b) = compare kind (operand a) (operand b)
grow_condition operand below ends (Cross kind a b) = cross kind (operand a) (operand b)
grow_condition operand below ends (Between x low high) = between (operand x) (operand low) (operand high)
grow_condition operand below ends (Trend kind a n) = trend kind (operand a) n
grow_condition operand below ends (Group all n j) = group all (grow_conditions below ends n j)
grow_condition operand below ends (Not a) = negated (below a)
grow_condition operand below ends (InPosition wanted) = in_position wanted
grow_condition operand below ends (BarsSince selector k) = bars_since selector k
grow_condition operand below ends NoCondition = any none

-- the condition at node i, where `left` levels of nesting are left, its own counted
unfoldable pub flat_condition_at : ℕ → List ℕ → List ℕ → ℕ → Condition
flat_condition_at zero t ends i = any none
flat_condition_at (suc left) t ends i =
    grow_condition (flat_operand_at left t ends) (flat_condition_at left t ends) ends (condition_shape t ends i)
