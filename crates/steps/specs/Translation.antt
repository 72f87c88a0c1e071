-- "Each tree is translated": the steps of a tree. Definitions only.
use Rattle.std.specs.Prelude.{ℕ, ◌+◌, Bool, true, false, cond, List, [], ◌∷◌, ◌++◌, length, eqb}
use Rattle.table.specs.{Trees.Operand, Trees.const, Trees.ref, Trees.price, Trees.prev, Trees.arith, Trees.extreme, Trees.Condition, Trees.Conditions}
use Rattle.table.specs.{Trees.compare, Trees.cross, Trees.between, Trees.trend, Trees.every, Trees.any, Trees.negated, Trees.in_position, Trees.bars_since}
use Rattle.table.specs.{Trees.none, Trees.more}
use Rattle.steps.specs.{declared.step.Op.Op, declared.step.Op.TheVariants.Const, declared.step.Op.TheVariants.Ref, declared.step.Op.TheVariants.Price}
use Rattle.steps.specs.{declared.step.Op.TheVariants.Extreme, declared.step.Op.TheVariants.Arith, declared.step.Op.TheVariants.Compare}
use Rattle.steps.specs.{declared.step.Op.TheVariants.Cross, declared.step.Op.TheVariants.Between, declared.step.Op.TheVariants.Answer}
use Rattle.steps.specs.{declared.step.Op.TheVariants.Turn, declared.step.Op.TheVariants.InPosition, declared.step.Op.TheVariants.BarsSinceEntry}
use Rattle.steps.specs.{declared.step.Op.TheVariants.JumpIf}
use Rattle.table.specs.Named as Named

-- The steps of an operand, n rows back. Prev makes no step of its own: it adds its n to the look-back of the leaves below it, so
-- nothing is folded and "missing" is kept.
unfoldable pub code : Operand → ℕ → List Op
code (const bits) n = Const bits n ∷ []
code (ref k) n = Ref k n ∷ []
code (price p) n = Price p n ∷ []
code (prev a m) n = code a (n + m)
code (extreme kind over m) n = Extreme kind over m n ∷ []
code (arith k a b) n = code a n ++ (code b n ++ Arith k ∷ [])

-- Rising compares now with then as Gt does; Falling, the other kind, as Lt.
abbrev pub trend_test : ℕ → ℕ
trend_test kind = cond (eqb kind Named.rising) Named.gt Named.lt

-- The steps of a condition. A cross runs both operands now and one row back; All and Any set the answer, and after each child a
-- jump passes over the rest where the child decided it: for All a no, for Any a yes.
unfoldable mutual
  pub code_of : Condition → List Op
  code_of (compare k a b) = code a 0 ++ (code b 0 ++ Compare k ∷ [])
  code_of (cross k a b) = code a 0 ++ (code b 0 ++ (code a 1 ++ (code b 1 ++ Cross k ∷ [])))
  code_of (between x l u) = code x 0 ++ (code l 0 ++ (code u 0 ++ Between ∷ []))
  code_of (trend k a n) = code a 0 ++ (code a n ++ Compare (trend_test k) ∷ [])
  code_of (every cs) = Answer true ∷ code_each false cs
  code_of (any cs) = Answer false ∷ code_each true cs
  code_of (negated c) = code_of c ++ Turn ∷ []
  code_of (in_position w) = InPosition w ∷ []
  code_of (bars_since p k) = BarsSinceEntry p k ∷ []

  pub code_each : Bool → Conditions → List Op
  code_each w none = []
  code_each w (more c cs) = code_of c ++ JumpIf w (length (code_each w cs)) ∷ code_each w cs
