-- Every translated list is well formed.
use Rattle.std.specs.Prelude.{ℕ, ◌+◌, ◌-◌, ◌≤◌, ◌<◌, ◌≡◌, refl, Bool, true, false, cond, List, [], ◌∷◌, ◌++◌, length, eqb}
use Rattle.words.specs.Prelude.{◌∙◌, arith, length-append}
use Rattle.table.specs.{Trees.Operand, Trees.const, Trees.ref, Trees.price, Trees.prev, Trees.arith as sums, Trees.extreme, Trees.Condition, Trees.Conditions}
use Rattle.table.specs.{Trees.compare, Trees.cross, Trees.between, Trees.trend, Trees.every, Trees.any, Trees.negated, Trees.in_position, Trees.bars_since}
use Rattle.table.specs.{Trees.none, Trees.more, Trees.reach, Trees.reach_of, Trees.reach_of_all, declared.header.Form.Form, declared.series.Series.Series}
use Rattle.table.specs.{Laws.Kinds.arith_numbers, Laws.Kinds.extreme_numbers, Laws.Kinds.compare_numbers, Laws.Kinds.cross_numbers, Limits.WithinSeries}
use Rattle.table.specs.{Limits.Within, Limits.WithinOf, Limits.WithinAll}
use Rattle.steps.specs.{declared.step.Op.Op, declared.step.Op.TheVariants.Const, declared.step.Op.TheVariants.Ref, declared.step.Op.TheVariants.Price}
use Rattle.steps.specs.{declared.step.Op.TheVariants.Arith, declared.step.Op.TheVariants.Compare, declared.step.Op.TheVariants.Cross}
use Rattle.steps.specs.{declared.step.Op.TheVariants.Between, declared.step.Op.TheVariants.Answer, declared.step.Op.TheVariants.Turn}
use Rattle.steps.specs.{declared.step.Op.TheVariants.InPosition, declared.step.Op.TheVariants.BarsSinceEntry, declared.step.Op.TheVariants.JumpIf}
use Rattle.steps.specs.{declared.step.Op.TheVariants.Extreme, declared.step.Op.TheVariants.Unknown, Bytes.is_operation, Bytes.is_comparison}
use Rattle.steps.specs.{Laws.Classes.operation_is, Laws.Classes.comparison_is, Translation.code, Translation.code_of, Translation.code_each}
use Rattle.steps.specs.{Translation.trend_test}
use Rattle.table.specs.Named as Named
use Rattle.table.specs.declared.series.Series.TheVariants as Over

-- ---- steps that are well formed where `after` steps follow

unfoldable pub SeriesRight : ℕ → Series → Type 0
SeriesRight K (Over.Price p) = p < 256
SeriesRight K (Over.Slot k) = k < K

unfoldable pub FieldsRight : ℕ → ℕ → ℕ → Op → Type 0
FieldsRight K D after (Const bits n) = (n < D) × (bits < 18446744073709551616)
FieldsRight K D after (Ref k n) = (k < K) × (n < D)
FieldsRight K D after (Price p n) = (p < 256) × (n < D)
FieldsRight K D after (Extreme kind over n back) = (9 ≤ kind) × (kind ≤ 10) × (1 ≤ n) × (n ≤ 4095) × SeriesRight K over × (back + (n - 1) < D)
FieldsRight K D after (Arith k) = is_operation k ≡ true
FieldsRight K D after (Compare k) = is_comparison k ≡ true
FieldsRight K D after (Cross k) = (22 ≤ k) × (k < 24)
FieldsRight K D after Between = Unit
FieldsRight K D after (Answer w) = Unit
FieldsRight K D after Turn = Unit
FieldsRight K D after (InPosition w) = Unit
FieldsRight K D after (BarsSinceEntry p k) = (p < 256) × (k < 4294967296)
FieldsRight K D after (JumpIf w skip) = (skip ≤ after) × (skip < 65536)
FieldsRight K D after Unknown = ⊥

unfoldable pub AllFieldsRight : ℕ → ℕ → List Op → Type 0
AllFieldsRight K D [] = Unit
AllFieldsRight K D (x ∷ xs) = FieldsRight K D (length xs) x × AllFieldsRight K D xs

module _ (form : Form) (D : ℕ) where
  right_more : (x : Op) {m n : ℕ} → m ≤ n → FieldsRight form.slots D m x → FieldsRight form.slots D n x
  unfolding FieldsRight
  right_more (Const bits n) le g = g
  right_more (Ref k n) le g = g
  right_more (Price p n) le g = g
  right_more (Extreme kind over n back) le g = g
  right_more (Arith k) le g = g
  right_more (Compare k) le g = g
  right_more (Cross k) le g = g
  right_more Between le g = g
  right_more (Answer w) le g = g
  right_more Turn le g = g
  right_more (InPosition w) le g = g
  right_more (BarsSinceEntry p k) le g = g
  right_more (JumpIf w skip) le g = (omega (arith, g.0), g.1)
  right_more Unknown le g = g

  right_append : (xs ys : List Op) → AllFieldsRight form.slots D xs → AllFieldsRight form.slots D ys → AllFieldsRight form.slots D (xs ++ ys)
  unfolding AllFieldsRight
  right_append [] ys g h = h
  right_append (x ∷ xs) ys g h = (right_more x (omega (arith, length-append xs ys)) g.0, right_append xs ys g.1 h)

  one_right : (x : Op) → FieldsRight form.slots D 0 x → AllFieldsRight form.slots D (x ∷ [])
  unfolding AllFieldsRight
  one_right x g = (g, tt)

  then_right : (xs : List Op) (x : Op) → AllFieldsRight form.slots D xs → FieldsRight form.slots D 0 x → AllFieldsRight form.slots D (xs ++ x ∷ [])
  then_right xs x g h = right_append xs (x ∷ []) g (one_right x h)

  series_right : (over : Series) → WithinSeries form over → SeriesRight form.slots over
  unfolding WithinSeries SeriesRight
  series_right (Over.Price p) r = omega arith
  series_right (Over.Slot k) r = r

  operand_right : (a : Operand) (n : ℕ) → Within form a → n + reach a < D → AllFieldsRight form.slots D (code a n)
  unfolding code Within reach FieldsRight
  operand_right (const bits) n r l = one_right (Const bits n) (omega arith)
  operand_right (ref slot) n r l = one_right (Ref slot n) (omega arith)
  operand_right (price selector) n r l = one_right (Price selector n) (omega arith)
  operand_right (extreme kind over m) n r l =
      one_right (Extreme kind over m n)
      ((extreme_numbers kind r.0).0, (extreme_numbers kind r.0).1, r.2, r.3, series_right over r.4, omega arith)
  operand_right (prev a m) n r l = operand_right a (n + m) r.1 (omega arith)
  operand_right (sums kind a b) n r l =
      right_append (code a n) (code b n ++ Arith kind ∷ []) (operand_right a n r.1 (omega arith))
      (then_right (code b n) (Arith kind) (operand_right b n r.2 (omega arith)) (operation_is kind (omega (arith, arith_numbers kind r.0))))

  trend_right : (kind : ℕ) → FieldsRight form.slots D 0 (Compare (trend_test kind))
  unfolding FieldsRight is_comparison
  trend_right kind = go (eqb kind 25)
    where
      go : (t : Bool) → is_comparison (cond t Named.gt Named.lt) ≡ true
      go true = refl
      go false = refl

  mutual
    unfolding code_of WithinOf reach_of FieldsRight AllFieldsRight

    condition_right : (c : Condition) → WithinOf form c → reach_of c < D → length (code_of c) < 65536 → AllFieldsRight form.slots D (code_of c)
    condition_right (compare kind a b) r l f =
        right_append (code a 0) (code b 0 ++ Compare kind ∷ []) (operand_right a 0 r.1 (omega arith))
        (then_right (code b 0) (Compare kind) (operand_right b 0 r.2 (omega arith)) (comparison_is kind (omega (arith, compare_numbers kind r.0))))
    condition_right (cross kind a b) r l f =
        right_append (code a 0) (code b 0 ++ (code a 1 ++ (code b 1 ++ Cross kind ∷ []))) (operand_right a 0 r.1 (omega arith))
        (right_append (code b 0) (code a 1 ++ (code b 1 ++ Cross kind ∷ [])) (operand_right b 0 r.2 (omega arith))
        (right_append (code a 1) (code b 1 ++ Cross kind ∷ []) (operand_right a 1 r.1 (omega arith))
        (then_right (code b 1) (Cross kind) (operand_right b 1 r.2 (omega arith)) (omega (arith, cross_numbers kind r.0)))))
    condition_right (between x lo hi) r l f =
        right_append (code x 0) (code lo 0 ++ (code hi 0 ++ Between ∷ [])) (operand_right x 0 r.0 (omega arith))
        (right_append (code lo 0) (code hi 0 ++ Between ∷ []) (operand_right lo 0 r.1 (omega arith))
        (then_right (code hi 0) Between (operand_right hi 0 r.2 (omega arith)) tt))
    condition_right (trend kind a n) r l f =
        right_append (code a 0) (code a n ++ Compare (trend_test kind) ∷ []) (operand_right a 0 r.2 (omega arith))
        (then_right (code a n) (Compare (trend_test kind)) (operand_right a n r.2 (omega arith)) (trend_right kind))
    condition_right (every cs) r l f = (tt, each_right false cs r l (omega arith))
    condition_right (any cs) r l f = (tt, each_right true cs r l (omega arith))
    condition_right (negated c) r l f = then_right (code_of c) Turn (condition_right c r l (omega (arith, length-append (code_of c) (Turn ∷ [])))) tt
    condition_right (in_position w) r l f = (tt, tt)
    condition_right (bars_since selector k) r l f = ((omega (arith, r.0), r.1), tt)

    each_right : (w : Bool) (cs : Conditions) → WithinAll form cs → reach_of_all cs < D → length (code_each w cs) < 65536
        → AllFieldsRight form.slots D (code_each w cs)
    each_right w none r l f = tt
    each_right w (more c cs) r l f =
        let long : length (code_of c ++ JumpIf w (length (code_each w cs)) ∷ code_each w cs) ≡ length (code_of c) + (length (code_each w cs) + 1) =
        length-append (code_of c) (JumpIf w (length (code_each w cs)) ∷ code_each w cs) ∙ omega arith in
        right_append (code_of c) (JumpIf w (length (code_each w cs)) ∷ code_each w cs) (condition_right c r.0 (omega arith) (omega arith))
        ((omega arith, omega arith), each_right w cs r.1 (omega arith) (omega arith))

-- every step of a translated list has right fields, where the tree's fields are in their ranges and D lies above its reach
pub translated_right : (form : Form) (D : ℕ) (c : Condition) → WithinOf form c → reach_of c < D → length (code_of c) < 65536
    → AllFieldsRight form.slots D (code_of c)
translated_right form D c r l f = condition_right form D c r l f
