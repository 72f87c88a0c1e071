-- Where the children of a node stand. Assumes nothing.
use Rattle.std.specs.Prelude.{ℕ, ◌+◌, ◌<◌, ◌≡◌, refl, Bool, true, false, cond, List, leb}
use Rattle.words.specs.Prelude.{sym, ◌∙◌, arith}
use Rattle.table.specs.{declared.kinds.OperandClass.OperandClass, declared.kinds.ConditionClass.ConditionClass, Bytes.Bytes, Kinds.kind_of, Nodes.node_at}
use Rattle.roundtrip.specs.{Laws.AcceptedWritten.u32_small}
use Rattle.rules.specs.{declared.shapes.OperandShape.OperandShape, declared.shapes.OperandShape.TheVariants.Const}
use Rattle.rules.specs.{declared.shapes.OperandShape.TheVariants.Ref, declared.shapes.OperandShape.TheVariants.Price}
use Rattle.rules.specs.{declared.shapes.OperandShape.TheVariants.Prev, declared.shapes.OperandShape.TheVariants.Arith}
use Rattle.rules.specs.{declared.shapes.OperandShape.TheVariants.Extreme, declared.shapes.OperandShape.TheVariants.NoOperand}
use Rattle.rules.specs.{declared.shapes.ConditionShape.ConditionShape, declared.shapes.ConditionShape.TheVariants.Compare}
use Rattle.rules.specs.{declared.shapes.ConditionShape.TheVariants.Cross, declared.shapes.ConditionShape.TheVariants.Between}
use Rattle.rules.specs.{declared.shapes.ConditionShape.TheVariants.Trend, declared.shapes.ConditionShape.TheVariants.Group}
use Rattle.rules.specs.{declared.shapes.ConditionShape.TheVariants.Not, declared.shapes.ConditionShape.TheVariants.InPosition}
use Rattle.rules.specs.{declared.shapes.ConditionShape.TheVariants.BarsSince, declared.shapes.ConditionShape.TheVariants.NoCondition, Shapes.end_in}
use Rattle.rules.specs.{Shapes.operand_of, Shapes.condition_of, Shapes.operand_shape, Shapes.condition_shape}
use Rattle.table.specs.declared.kinds.OperandClass.TheVariants as AsOperand
use Rattle.table.specs.declared.kinds.ConditionClass.TheVariants as AsCondition

-- "each tree in prefix order": a first child comes right after its node i, each further one at the end of the one before.
unfoldable pub OperandPlaced : List ℕ → List ℕ → ℕ → OperandShape → Type 0
OperandPlaced t ends i (Const bits) = Unit
OperandPlaced t ends i (Ref slot) = Unit
OperandPlaced t ends i (Price selector) = Unit
OperandPlaced t ends i (Prev a n) = (a ≡ i + 1) × (n ≡ (node_at t i).n)
OperandPlaced t ends i (Arith kind a b) = (a ≡ i + 1) × (b ≡ end_in ends (i + 1))
OperandPlaced t ends i (Extreme kind a n) = (a ≡ i + 1) × (n ≡ (node_at t i).n)
OperandPlaced t ends i NoOperand = Unit

pub operand_placed : (t ends : List ℕ) (i : ℕ) → OperandPlaced t ends i (operand_shape t ends i)
unfolding OperandPlaced operand_shape operand_of
operand_placed t ends i = test (leb 256 i)
  where
    go : (class : OperandClass) → OperandPlaced t ends i (operand_of class (node_at t i) (i + 1) (end_in ends (i + 1)))
    go AsOperand.Const = tt
    go AsOperand.Ref = tt
    go AsOperand.Price = tt
    go AsOperand.Prev = (refl, refl)
    go AsOperand.Arith = (refl, refl)
    go AsOperand.Extreme = (refl, refl)
    go AsOperand.NoOperand = tt

    test : (far : Bool)
        → OperandPlaced t ends i (cond far NoOperand (operand_of (kind_of (node_at t i).kind).operand (node_at t i) (i + 1) (end_in ends (i + 1))))
    test true = tt
    test false = go (kind_of (node_at t i).kind).operand

unfoldable pub ConditionPlaced : List ℕ → List ℕ → ℕ → ConditionShape → Type 0
ConditionPlaced t ends i (Compare kind a b) = (a ≡ i + 1) × (b ≡ end_in ends (i + 1))
ConditionPlaced t ends i (Cross kind a b) = (a ≡ i + 1) × (b ≡ end_in ends (i + 1))
ConditionPlaced t ends i (Between x low high) = (x ≡ i + 1) × (low ≡ end_in ends (i + 1)) × (high ≡ end_in ends (end_in ends (i + 1)))
ConditionPlaced t ends i (Trend kind a n) = (a ≡ i + 1) × (n ≡ (node_at t i).n)
ConditionPlaced t ends i (Group all n j) = j ≡ i + 1
ConditionPlaced t ends i (Not a) = a ≡ i + 1
ConditionPlaced t ends i (InPosition wanted) = Unit
ConditionPlaced t ends i (BarsSince selector k) = Unit
ConditionPlaced t ends i NoCondition = Unit

pub condition_placed : (t ends : List ℕ) (i : ℕ) → ConditionPlaced t ends i (condition_shape t ends i)
unfolding ConditionPlaced condition_shape condition_of
condition_placed t ends i = test (leb 256 i)
  where
    go : (class : ConditionClass) → ConditionPlaced t ends i (condition_of class (node_at t i) (i + 1) (end_in ends (i + 1)) (end_in ends (end_in ends (i + 1))))
    go AsCondition.Compare = (refl, refl)
    go AsCondition.Cross = (refl, refl)
    go AsCondition.Between = (refl, refl, refl)
    go AsCondition.Trend = (refl, refl)
    go AsCondition.All = refl
    go AsCondition.Any = refl
    go AsCondition.Not = refl
    go AsCondition.InPosition = tt
    go AsCondition.BarsSince = tt
    go AsCondition.NoCondition = tt

    test : (far : Bool) → ConditionPlaced t ends i
        (cond far NoCondition
        (condition_of (kind_of (node_at t i).kind).condition (node_at t i) (i + 1) (end_in ends (i + 1)) (end_in ends (end_in ends (i + 1)))))
    test true = tt
    test false = go (kind_of (node_at t i).kind).condition

-- ---- a node's number field has 32 bits

number_small : (t : List ℕ) → Bytes t → (i : ℕ) → (node_at t i).n < 4294967296
unfolding node_at
number_small t small i = u32_small t small _

pub prev_small : (t ends : List ℕ) (i : ℕ) (s : OperandShape) → s ≡ operand_shape t ends i → Bytes t → (a n : ℕ) → s ≡ Prev a n → n < 4294967296
unfolding OperandPlaced
prev_small t ends i s e small a n f =
    let at = rw (sym e ∙ f) at (operand_placed t ends i) in omega (arith, at.1, number_small t small i)

pub extreme_small : (t ends : List ℕ) (i : ℕ) (s : OperandShape) → s ≡ operand_shape t ends i → Bytes t → (kind a n : ℕ) → s ≡ Extreme kind a n
    → n < 4294967296
unfolding OperandPlaced
extreme_small t ends i s e small kind a n f =
    let at = rw (sym e ∙ f) at (operand_placed t ends i) in omega (arith, at.1, number_small t small i)

pub trend_small : (t ends : List ℕ) (i : ℕ) (s : ConditionShape) → s ≡ condition_shape t ends i → Bytes t → (kind a n : ℕ) → s ≡ Trend kind a n
    → n < 4294967296
unfolding ConditionPlaced
trend_small t ends i s e small kind a n f =
    let at = rw (sym e ∙ f) at (condition_placed t ends i) in omega (arith, at.1, number_small t small i)
