-- "a value not there counts as missing", and every value is kept: a well_formed list that holds 65 values at once, from elsewhere.
use Rattle.std.specs.Prelude.{ℕ, zero, suc, ◌+◌, ◌-◌, ◌≤◌, ◌≡◌, refl, Bool, true, false, cond, List, [], ◌∷◌, ltb, None, Ok, Some}
use Rattle.words.specs.Prelude.{arith, le-ltb}
use Rattle.words.specs.{Limits.most_slots, Limits.most_rows}
use Rattle.floats.specs.{Floats.float_of}
use Rattle.rows.specs.{History.History, History.history_of, History.whole_rows}
use Rattle.table.specs.{Trees.const}
use Rattle.rules.specs.{declared.position.PositionState.PositionState}
use Rattle.rules.specs.{Values.tested, Values.compared, Meaning.newest, Meaning.there, Meaning.value, Answers.state_right}
use Rattle.steps.specs.{declared.step.Op.Op, declared.step.Op.TheVariants.Const, declared.step.Op.TheVariants.Compare}
use Rattle.steps.specs.{Bytes.is_comparison, Bytes.bytes_of, Machine.Values, Machine.ago, Machine.effect}
use Rattle.steps.specs.{Machine.does, Machine.after_step, Machine.run, Machine.visit_count, Machine.start, Running.ran_if, Running.runs}
use Rattle.steps.specs.{Laws.TranslatedSteps.FieldsRight, Laws.TranslatedSteps.AllFieldsRight, Laws.WrittenSteps.well_formed}
use Rattle.steps.specs.{Laws.WrittenSteps.reads_back}
use Rattle.std.specs.Float.Ieee as Ieee

five : ℕ
five = 0x4014_0000_0000_0000

three : ℕ
three = 0x4008_0000_0000_0000

-- constants 5 and 3, and Lt (17)
last : List Op
last = Const five 0 ∷ Const three 0 ∷ Compare 17 ∷ []

-- so many constants 0 before them
after_zeros : ℕ → List Op
after_zeros zero = last
after_zeros (suc n) = Const 0 0 ∷ after_zeros n

-- 63 of them: 66 steps
pub five_below_three : List Op
five_below_three = after_zeros 63

module _ (h : History) (s : PositionState) where
  not-below : compared 17 (ago h (const five) 0) (ago h (const three) 0) ≡ false
  unfolding ago value there newest compared tested five three Ieee.lt Ieee.of_bits
  not-below = go (ltb 0 h.rows) (ltb (h.rows - 1 - 0) h.rows)
    where
      go : (t u : Bool) → compared 17 (cond t (cond u (Some (float_of five)) None) None)
          (cond t (cond u (Some (float_of three)) None) None) ≡ false
      go true true = refl
      go true false = refl
      go false u = refl

  -- whatever values lie below
  says_no : (n : ℕ) (v : Values) → (run h s (after_zeros n) 0 v).answer ≡ false
  unfolding after_zeros last run does effect after_step
  says_no zero v = not-below
  says_no (suc n) v = says_no n (after_step (does h s (Const 0 0) v) v)

  sees_all : (n : ℕ) (v : Values) → visit_count h s (after_zeros n) 0 v ≡ n + 3
  unfolding after_zeros last visit_count does effect
  sees_all zero v = refl
  sees_all (suc n) v = omega (arith, sees_all n (after_step (does h s (Const 0 0) v) v))

module _ (K D : ℕ) (deep : 1 ≤ D) where
  all_right : (n : ℕ) → AllFieldsRight K D (after_zeros n)
  unfolding AllFieldsRight FieldsRight is_comparison after_zeros last five three
  all_right zero = ((omega arith, omega arith), ((omega arith, omega arith), (refl, tt)))
  all_right (suc n) = ((omega arith, omega arith), all_right n)

  -- Run over any rows it answers no, since 5 < 3 is no. (A machine of 64 places would lose the 3, and find 0 < 5.)
  pub many_values : K ≤ most_slots → D ≤ most_rows → (ws : List ℕ) (s : PositionState) → whole_rows K ws ≡ true → state_right s ≡ true
      → runs (bytes_of five_below_three) ws K D s ≡ Ok (record { answer = false; visits = 66 })
  unfolding runs ran_if five_below_three
  many_values few most ws s whole fine =
      rw (
        le-ltb most_slots K few,
        le-ltb D 1 deep,
        le-ltb most_rows D most,
        whole,
        fine,
        well_formed K D few most five_below_three (unfold after_zeros last in omega arith) (all_right 63),
        reads_back K D few most five_below_three (unfold after_zeros last in omega arith) (all_right 63),
        says_no (history_of K ws) s 63 start,
        sees_all (history_of K ws) s 63 start,
      )
