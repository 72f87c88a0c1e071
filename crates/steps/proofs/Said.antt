-- What a step says, by the range in which its kind lies.
use Rattle.std.specs.Prelude.{Float, Option}
use Rattle.words.specs.Prelude.{◌-◌, ◌≤◌, ◌<◌, ◌≡◌, refl, Bool, true, false, cond, arith, ltb, leb, eqb, ltb-true, ltb-false, eq-eqb, ne_eqb, le-leb, lt-leb}
use Rattle.words.specs.Prelude.{lt-ltb, le-ltb}
use Rattle.steps.specs.{declared.step.Step.Step, declared.step.Op.TheVariants.Const, declared.step.Op.TheVariants.Ref}
use Rattle.steps.specs.{declared.step.Op.TheVariants.Price, declared.step.Op.TheVariants.Extreme, declared.step.Op.TheVariants.Arith}
use Rattle.steps.specs.{declared.step.Op.TheVariants.Answer, declared.step.Op.TheVariants.Turn, declared.step.Op.TheVariants.InPosition}
use Rattle.steps.specs.{declared.step.Op.TheVariants.BarsSinceEntry, declared.step.Op.TheVariants.JumpIf, declared.step.Op.TheVariants.Unknown}
use Rattle.steps.specs.{Bytes.op_of, Bytes.extreme_op, Bytes.operand_op, Bytes.answer_op, Bytes.first_test, Bytes.is_operation, Bytes.is_comparison}
use Rattle.steps.specs.{Bytes.is_test_step, Laws.Classes.operation_out, Laws.Classes.look_no_operation, Laws.Classes.test_rest, Laws.Classes.operand}
use Rattle.steps.specs.{Laws.Classes.says_arith, Laws.Classes.says_compare, Laws.Classes.says_cross, Laws.Classes.says_between, Laws.Classes.says_no_test}
use Rattle.steps.specs.{Machine.giving, Machine.saying, Machine.passing, Machine.effect}
use Rattle.rows.specs.{History.History}
use Rattle.rules.specs.{declared.position.PositionState.PositionState, Values.combined, Values.compared, Values.crossed}
use Rattle.rules.specs.{Values.within}
use mathlib.Core.Bool.{beq}
use Rattle.table.specs.declared.series.Series.TheVariants as Over

-- ---- what is said

module _ (x : Step) where
  -- kinds from 27 on
  other : 27 ≤ x.kind → op_of x ≡ answer_op x
  unfolding op_of
  other le = rw (le-ltb x.kind first_test (omega arith), le-ltb x.kind 27 le)

  -- each kind or range of kinds by itself
  pub says_const : x.kind ≡ 1 → op_of x ≡ Const x.bits x.n
  unfolding operand_op
  says_const e = rw (operand x (omega arith), eq-eqb x.kind 1 e)

  pub says_ref : x.kind ≡ 2 → op_of x ≡ Ref x.selector x.n
  unfolding operand_op
  says_ref e = rw (operand x (omega arith), ne_eqb x.kind 1 (λ f. omega arith), eq-eqb x.kind 2 e)

  pub says_price : x.kind ≡ 3 → op_of x ≡ Price x.selector x.n
  unfolding operand_op
  says_price e =
      rw (operand x (omega arith), ne_eqb x.kind 1 (λ f. omega arith), ne_eqb x.kind 2 (λ f. omega arith), eq-eqb x.kind 3 e)

  -- Highest and Lowest
  extreme_kind : 9 ≤ x.kind → x.kind < 13 → op_of x ≡ extreme_op x
  unfolding operand_op
  extreme_kind le l =
      rw (
        operand x (omega arith),
        ne_eqb x.kind 1 (λ f. omega arith),
        ne_eqb x.kind 2 (λ f. omega arith),
        ne_eqb x.kind 3 (λ f. omega arith),
        le-ltb x.kind 5 (omega arith),
        look_no_operation x.kind le (omega arith),
        le-leb x.kind 12 (omega arith),
      )

  pub says_over_price : 9 ≤ x.kind → x.kind < 11 → op_of x ≡ Extreme x.kind (Over.Price x.selector) x.skip (x.n - (x.skip - 1))
  unfolding extreme_op
  says_over_price le l = rw (extreme_kind le (omega arith), lt-ltb x.kind 11 l)

  pub says_over_slot : 11 ≤ x.kind → x.kind < 13 → op_of x ≡ Extreme (x.kind - 2) (Over.Slot x.selector) x.skip (x.n - (x.skip - 1))
  unfolding extreme_op
  says_over_slot le l = rw (extreme_kind (omega arith) l, le-ltb x.kind 11 le)

  pub says_answer : 27 ≤ x.kind → x.kind < 29 → op_of x ≡ Answer (eqb x.kind 27)
  unfolding answer_op
  says_answer le l = rw (other le, lt-ltb x.kind 29 l)

  pub says_turn : x.kind ≡ 29 → op_of x ≡ Turn
  unfolding answer_op
  says_turn e = rw (other (omega arith), le-ltb x.kind 29 (omega arith), eq-eqb x.kind 29 e)

  pub says_in_position : x.kind ≡ 30 → op_of x ≡ InPosition (eqb x.selector 1)
  unfolding answer_op
  says_in_position e =
      rw (
        other (omega arith),
        le-ltb x.kind 29 (omega arith),
        ne_eqb x.kind 29 (λ f. omega arith),
        eq-eqb x.kind 30 e,
      )

  pub says_bars : x.kind ≡ 31 → op_of x ≡ BarsSinceEntry x.selector x.n
  unfolding answer_op
  says_bars e =
      rw (
        other (omega arith),
        le-ltb x.kind 29 (omega arith),
        ne_eqb x.kind 29 (λ f. omega arith),
        ne_eqb x.kind 30 (λ f. omega arith),
        eq-eqb x.kind 31 e,
      )

  -- kinds from 32 on
  late : 32 ≤ x.kind → op_of x ≡ cond (ltb x.kind 34) (JumpIf (eqb x.kind 33) x.skip) Unknown
  unfolding answer_op
  late le =
      rw (
        other (omega arith),
        le-ltb x.kind 29 (omega arith),
        ne_eqb x.kind 29 (λ f. omega arith),
        ne_eqb x.kind 30 (λ f. omega arith),
        ne_eqb x.kind 31 (λ f. omega arith),
      )

  pub says_jump : 32 ≤ x.kind → x.kind < 34 → op_of x ≡ JumpIf (eqb x.kind 33) x.skip
  says_jump le l = rw (late le, lt-ltb x.kind 34 l)

  pub says_nothing_late : 34 ≤ x.kind → op_of x ≡ Unknown
  says_nothing_late le = rw (late (omega arith), le-ltb x.kind 34 le)

  -- a kind below 27 that is neither a leaf, an operation, a look over rows nor a test
  pub says_nothing_early : (1 ≤ x.kind → 4 ≤ x.kind) → is_operation x.kind ≡ false → (9 ≤ x.kind → 13 ≤ x.kind) → is_test_step x.kind ≡ false
      → x.kind < 27 → op_of x ≡ Unknown
  unfolding operand_op
  says_nothing_early leaf none look untested l = go (ltb x.kind first_test) refl
    where
      ends : (t : Bool) → ltb x.kind 5 ≡ t
          → cond t Unknown (cond (is_operation x.kind) (Arith x.kind) (cond (leb x.kind 12) (extreme_op x) Unknown)) ≡ Unknown
      ends true e = refl
      ends false e =
          let past = operation_out x.kind none (ltb-false x.kind 5 e) in
          rw (none, lt-leb x.kind 12 (look past))

      go : (t : Bool) → ltb x.kind first_test ≡ t → op_of x ≡ Unknown
      go true e =
          rw (
            operand x (ltb-true x.kind first_test e),
            ne_eqb x.kind 1 (λ f. omega (arith, leaf (omega arith))),
            ne_eqb x.kind 2 (λ f. omega (arith, leaf (omega arith))),
            ne_eqb x.kind 3 (λ f. omega (arith, leaf (omega arith))),
          ) (ends (ltb x.kind 5) refl)
      go false e = says_no_test x untested (ltb-false x.kind first_test e) l

  -- ---- what is done

  module _ (h : History) (s : PositionState) (a b c d : Option Float) (y : Bool) where
    pub does_arith : is_operation x.kind ≡ true → effect h s (op_of x) a b c d y ≡ giving 2 (combined x.kind b a) y
    unfolding effect
    does_arith is = rw (says_arith x is)

    pub does_compare : is_comparison x.kind ≡ true → effect h s (op_of x) a b c d y ≡ saying 2 (compared x.kind b a)
    unfolding effect
    does_compare is = rw (says_compare x is)

    pub does_cross : 22 ≤ x.kind → x.kind < 24 → effect h s (op_of x) a b c d y ≡ saying 4 (crossed x.kind d c b a)
    unfolding effect
    does_cross le l = rw (says_cross x le l)

    -- a crossing or Between
    pub does_test : is_test_step x.kind ≡ true → is_comparison x.kind ≡ false → effect h s (op_of x) a b c d y
        ≡ saying (cond (ltb x.kind 24) 4 3) (cond (ltb x.kind 24) (crossed x.kind d c b a) (within c b a))
    unfolding effect
    does_test is none = go (ltb x.kind 24) refl
      where
        go : (t : Bool) → ltb x.kind 24 ≡ t → effect h s (op_of x) a b c d y
            ≡ saying (cond t 4 3) (cond t (crossed x.kind d c b a) (within c b a))
        go true f = rw (says_cross x (test_rest x.kind is none).0 (ltb-true x.kind 24 f))
        go false f = rw (says_between x (omega (arith, (test_rest x.kind is none).1, ltb-false x.kind 24 f)))

    pub does_jump : 32 ≤ x.kind → x.kind < 34 → effect h s (op_of x) a b c d y ≡ passing (cond (beq y (eqb x.kind 33)) x.skip 0) y
    unfolding effect
    does_jump le l = rw (says_jump le l)
