-- The classes of steps: the numbers in each, and what a step of a class says. Whoever goes by a class needs no number of a kind in it.
use Rattle.std.specs.Prelude.{ℕ, ◌≤◌, ◌<◌, ◌≡◌, refl, Bool, true, false, ◌&&◌, ltb, leb}
use Rattle.words.specs.Prelude.{sym, true≢false, arith, leb-true, ltb-true, ltb-false, eq-eqb}
use Rattle.words.specs.Prelude.{ne_eqb, le-leb, lt-ltb, le-ltb}
use Rattle.steps.specs.{declared.step.Step.Step, declared.step.Op.TheVariants.Arith, declared.step.Op.TheVariants.Compare}
use Rattle.steps.specs.{declared.step.Op.TheVariants.Cross, declared.step.Op.TheVariants.Between, declared.step.Op.TheVariants.Unknown}
use Rattle.steps.specs.{Bytes.is_operation, Bytes.is_comparison, Bytes.is_test_step, Bytes.first_test, Bytes.lowest_slot, Bytes.op_of, Bytes.operand_op}
use Rattle.steps.specs.{Bytes.test_op}
use Rattle.table.specs.Named as Named

-- ---- a range, as it is asked for

-- a kind that is not among them, and not below them, is above them
pub range_out : (lo k hi : ℕ) → (leb lo k && ltb k hi) ≡ false → lo ≤ k → hi ≤ k
range_out lo k hi e le = ltb-false k hi (rw (le-leb lo k le) at e)

-- a kind that is among them
pub range_in : (lo k hi : ℕ) → (leb lo k && ltb k hi) ≡ true → (lo ≤ k) × (k < hi)
range_in lo k hi e = go (leb lo k) refl e
  where
    go : (t : Bool) → leb lo k ≡ t → (t && ltb k hi) ≡ true → (lo ≤ k) × (k < hi)
    go true l e = (leb-true lo k l, ltb-true k hi e)
    go false l e = absurd (true≢false (sym e))

-- what cannot be so is not
not-true : (t : Bool) → (t ≡ true → ⊥) → t ≡ false
not-true true other = absurd (other refl)
not-true false other = refl

-- ---- operations

-- those of the table
pub operation_is : (k : ℕ) → (Named.add ≤ k) × (k < Named.highest) → is_operation k ≡ true
unfolding is_operation
operation_is k r = rw (le-leb Named.add k r.0, lt-ltb k Named.highest r.1)

-- they lie between the leaves and the tests
pub operation_in : (k : ℕ) → is_operation k ≡ true → (Named.add ≤ k) × (k < first_test)
unfolding is_operation
operation_in k e = let r = range_in Named.add k Named.highest e in (r.0, omega (arith, r.1))

-- what is none, and no leaf, has no number below the looks over rows
pub operation_out : (k : ℕ) → is_operation k ≡ false → Named.add ≤ k → Named.highest ≤ k
unfolding is_operation
operation_out k e le = range_out Named.add k Named.highest e le

-- a look over rows is none
pub look_no_operation : (k : ℕ) → Named.highest ≤ k → k ≤ lowest_slot → is_operation k ≡ false
unfolding is_operation
look_no_operation k le l = rw (le-leb Named.add k (omega arith), le-ltb k Named.highest le)

-- nor is a test, or a step that sets, turns or reads the answer
pub late_no_operation : (k : ℕ) → first_test ≤ k → is_operation k ≡ false
late_no_operation k le = not-true (is_operation k) (λ e. omega (arith, (operation_in k e).1))

-- ---- tests

-- the comparisons of the table
pub comparison_is : (k : ℕ) → (first_test ≤ k) × (k < Named.cross_above) → is_comparison k ≡ true
unfolding is_comparison
comparison_is k r = rw (le-leb first_test k r.0, lt-ltb k Named.cross_above r.1)

-- they test values
comparison_tests : (k : ℕ) → is_comparison k ≡ true → is_test_step k ≡ true
unfolding is_comparison is_test_step
comparison_tests k e = let r = range_in first_test k Named.cross_above e in rw (le-leb first_test k r.0, lt-ltb k Named.rising (omega (arith, r.1)))

-- no cross is a comparison, nor is Between, nor what lies above
rest_compares_none : (k : ℕ) → Named.cross_above ≤ k → is_comparison k ≡ false
unfolding is_comparison
rest_compares_none k le = rw (le-leb first_test k (omega arith), le-ltb k Named.cross_above le)

-- a test that is no comparison is a cross or Between
pub test_rest : (k : ℕ) → is_test_step k ≡ true → is_comparison k ≡ false → (Named.cross_above ≤ k) × (k < Named.rising)
unfolding is_comparison is_test_step
test_rest k e none = let r = range_in first_test k Named.rising e in (range_out first_test k Named.cross_above none r.0, r.1)

-- all that test values lie between the operations and All
pub test_in : (k : ℕ) → is_test_step k ≡ true → (first_test ≤ k) × (k < Named.all)
unfolding is_test_step
test_in k e = let r = range_in first_test k Named.rising e in (r.0, omega (arith, r.1))

-- what is none, and not below them, lies past them
test_out : (k : ℕ) → is_test_step k ≡ false → first_test ≤ k → Named.rising ≤ k
unfolding is_test_step
test_out k e le = range_out first_test k Named.rising e le

-- what does not lie there tests none
pub no_test : (k : ℕ) → (first_test ≤ k → Named.all ≤ k) → is_test_step k ≡ false
no_test k out = not-true (is_test_step k) (λ e. let r = test_in k e in omega (arith, r.1, out r.0))

-- ---- what a step of a class says

module _ (x : Step) where
  -- kinds below those of tests
  pub operand : x.kind < first_test → op_of x ≡ operand_op x
  unfolding op_of
  operand l = rw (lt-ltb x.kind first_test l)

  -- kinds from there to All
  test : first_test ≤ x.kind → x.kind < Named.all → op_of x ≡ test_op x
  unfolding op_of
  test le l = rw (le-ltb x.kind first_test le, lt-ltb x.kind Named.all l)

  pub says_arith : is_operation x.kind ≡ true → op_of x ≡ Arith x.kind
  unfolding operand_op
  says_arith is =
      let l = operation_in x.kind is in
      rw (
        operand l.1,
        ne_eqb x.kind Named.const (λ f. omega (arith, l.0)),
        ne_eqb x.kind Named.ref (λ f. omega (arith, l.0)),
        ne_eqb x.kind Named.price (λ f. omega (arith, l.0)),
        le-ltb x.kind Named.add l.0,
        is,
      )

  pub says_compare : is_comparison x.kind ≡ true → op_of x ≡ Compare x.kind
  unfolding test_op
  says_compare is = let l = test_in x.kind (comparison_tests x.kind is) in rw (test l.0 l.1, is)

  pub says_cross : Named.cross_above ≤ x.kind → x.kind < Named.between → op_of x ≡ Cross x.kind
  unfolding test_op
  says_cross le l = rw (test (omega arith) (omega arith), rest_compares_none x.kind le, lt-ltb x.kind Named.between l)

  pub says_between : x.kind ≡ Named.between → op_of x ≡ Between
  unfolding test_op
  says_between e =
      rw (
        test (omega arith) (omega arith),
        rest_compares_none x.kind (omega arith),
        le-ltb x.kind Named.between (omega arith),
        eq-eqb x.kind Named.between e,
      )

  -- a kind from the first test to All that is none says nothing
  pub says_no_test : is_test_step x.kind ≡ false → first_test ≤ x.kind → x.kind < Named.all → op_of x ≡ Unknown
  unfolding test_op
  says_no_test none le l =
      let past = test_out x.kind none le in
      rw (
        test le l,
        rest_compares_none x.kind (omega (arith, past)),
        le-ltb x.kind Named.between (omega (arith, past)),
        ne_eqb x.kind Named.between (λ e. omega (arith, past)),
      )
