-- A list that is written from steps with right fields is well formed, and reads back as those steps.
use Rattle.words.specs.Prelude.{◌∙◌}
use Rattle.words.specs.Prelude.{sym}
use Rattle.words.specs.Prelude.{ap}
use Rattle.steps.specs.declared.step.Op.TheVariants.{Unknown}
use Rattle.std.specs.Prelude.{ℕ, ◌+◌, ◌-◌, ◌*◌, ◌%◌, ◌<◌, ◌≤◌, ◌≡◌, refl, true, ◌&&◌, List, [], ◌∷◌, ◌++◌, length, Ok}
use Rattle.words.specs.Prelude.{append_assoc, arith, length-append, lt-ltb}
use Rattle.words.specs.Prelude.{le-ltb, le-leb, eq-eqb}
use Rattle.words.specs.{Limits.most_slots, Limits.most_rows, Limits.most_steps}
use Rattle.table.specs.{declared.series.Series.Series}
use Rattle.steps.specs.{declared.step.Op.Op, declared.step.Op.TheVariants.Extreme, declared.step.Op.TheVariants.Const}
use Rattle.steps.specs.{declared.step.Op.TheVariants.Ref, declared.step.Op.TheVariants.Price, declared.step.Op.TheVariants.Arith}
use Rattle.steps.specs.{declared.step.Op.TheVariants.Compare, declared.step.Op.TheVariants.Cross, declared.step.Op.TheVariants.Between}
use Rattle.steps.specs.{declared.step.Op.TheVariants.Answer, declared.step.Op.TheVariants.Turn, declared.step.Op.TheVariants.InPosition}
use Rattle.steps.specs.{declared.step.Op.TheVariants.BarsSinceEntry, declared.step.Op.TheVariants.JumpIf}
use Rattle.steps.specs.{Bytes.extreme_step, Bytes.step_of, Bytes.step_bytes, Bytes.bytes_of, Bytes.steps_in, Bytes.ops_of, WellFormed.zeros, WellFormed.rows_fit}
use Rattle.steps.specs.{WellFormed.unused_fields_zero, WellFormed.series_within, WellFormed.looks_within, WellFormed.bounded, WellFormed.good_step}
use Rattle.steps.specs.{WellFormed.formed_from, WellFormed.formed, Laws.Encoding.SayableSeries, Laws.Encoding.Sayable, Laws.Encoding.AllSayable}
use Rattle.steps.specs.{Laws.Encoding.says_back, Laws.Encoding.step_there, Laws.Encoding.steps_long, Laws.Encoding.ops_of_bytes}
use Rattle.steps.specs.{Laws.TranslatedSteps.SeriesRight, Laws.TranslatedSteps.FieldsRight, Laws.TranslatedSteps.AllFieldsRight}
use Rattle.table.specs.declared.series.Series.TheVariants as Over

module _ (K D : ℕ) (few : K ≤ most_slots) (near : D ≤ most_rows) where
  series_sayable : (over : Series) → SeriesRight K over → SayableSeries over
  unfolding SeriesRight SayableSeries
  series_sayable (Over.Price p) g = g
  series_sayable (Over.Slot k) g = omega arith

  sayable : (after : ℕ) (x : Op) → FieldsRight K D after x → Sayable x
  unfolding FieldsRight Sayable
  sayable after (Const bits n) g = (omega (arith, g.0), g.1)
  sayable after (Ref k n) g = (omega (arith, g.0), omega (arith, g.1))
  sayable after (Price p n) g = (g.0, omega (arith, g.1))
  sayable after (Extreme kind over n back) g = (g.0, g.1, g.2, omega (arith, g.3), series_sayable over g.4, omega (arith, g.5))
  sayable after (Arith k) g = g
  sayable after (Compare k) g = g
  sayable after (Cross k) g = g
  sayable after Between g = tt
  sayable after (Answer w) g = tt
  sayable after Turn g = tt
  sayable after (InPosition w) g = tt
  sayable after (BarsSinceEntry p k) g = g
  sayable after (JumpIf w skip) g = g.1
  sayable after Unknown g = elim g [ ]

  all_sayable : (xs : List Op) → AllFieldsRight K D xs → AllSayable xs
  unfolding AllFieldsRight AllSayable
  all_sayable [] g = tt
  all_sayable (x ∷ xs) g = (sayable (length xs) x g.0, all_sayable xs g.1)

  -- a look over rows, by what it looks over
  look_is : (kind : ℕ) (over : Series) (n back : ℕ) → 1 ≤ n → SeriesRight K over → back + (n - 1) < D
      → (unused_fields_zero (extreme_step kind over n (back + (n - 1))) (Extreme kind over n back) && looks_within K D over n back) ≡ true
  unfolding SeriesRight unused_fields_zero rows_fit extreme_step looks_within series_within
  look_is kind (Over.Price p) n back some g near =
      rw (le-leb 1 n some, le-leb (n - 1) (back + (n - 1)) (omega arith), lt-ltb (back + (n - 1)) D near)
  look_is kind (Over.Slot k) n back some g near =
      rw (le-leb 1 n some, le-leb (n - 1) (back + (n - 1)) (omega arith), lt-ltb k K g, lt-ltb (back + (n - 1)) D near)

  right_is : (after : ℕ) (x : Op) → FieldsRight K D after x → (unused_fields_zero (step_of x) x && bounded K D after x) ≡ true
  unfolding FieldsRight unused_fields_zero zeros bounded step_of
  right_is after (Const bits n) g = rw (lt-ltb n D g.0)
  right_is after (Ref k n) g = rw (lt-ltb k K g.0, lt-ltb n D g.1)
  right_is after (Price p n) g = rw (lt-ltb n D g.1)
  right_is after (Extreme kind over n back) g = look_is kind over n back g.2 g.4 g.5
  right_is after (Arith k) g = refl
  right_is after (Compare k) g = refl
  right_is after (Cross k) g = refl
  right_is after Between g = refl
  right_is after (Answer w) g = refl
  right_is after Turn g = refl
  right_is after (InPosition w) g = refl
  right_is after (BarsSinceEntry p k) g = refl
  right_is after (JumpIf w skip) g = rw (le-leb skip after g.0)
  right_is after Unknown g = elim g [ ]

  good_step_lem : (after : ℕ) (x : Op) → FieldsRight K D after x → good_step K D after (step_of x) ≡ true
  unfolding good_step
  good_step_lem after x g = rw (says_back x (sayable after x g)) (right_is after x g)

  well_from : (pre : List ℕ) (p : ℕ) → length pre ≡ 16 * p → (xs : List Op) → AllFieldsRight K D xs → formed_from K D (pre ++ bytes_of xs) p (length xs) ≡ Ok tt
  unfolding formed_from AllFieldsRight bytes_of
  well_from pre p e [] g = refl
  well_from pre p e (x ∷ xs) g =
      let sb : List ℕ = step_bytes (step_of x) in
      let sixteen : length sb ≡ 16 = unfold step_bytes in refl in
      let rest : formed_from K D ((pre ++ sb) ++ bytes_of xs) (p + 1) (length xs) ≡ (Ok tt) =
      well_from (pre ++ sb) (p + 1) (omega (arith, length-append pre sb)) xs g.1 in
      rw (step_there pre p e x (bytes_of xs) (sayable (length xs) x g.0), good_step_lem (length xs) x g.0)
      (ap (λ (l : List ℕ). formed_from K D l (p + 1) (length xs)) (sym (append_assoc pre sb (bytes_of xs))) ∙ rest)

  -- the bytes of steps with right fields are a well_formed list
  pub well_formed : (xs : List Op) → length xs ≤ most_steps → AllFieldsRight K D xs → formed K D (bytes_of xs) ≡ Ok tt
  unfolding formed
  well_formed xs short g =
      let long : length (bytes_of xs) ≡ 16 * length xs = steps_long xs in
      let whole : length (bytes_of xs) % 16 ≡ 0 = omega arith in
      let count : steps_in (bytes_of xs) ≡ length xs = omega arith in
      rw (eq-eqb (length (bytes_of xs) % 16) 0 whole, count, le-ltb most_steps (length xs) short) (well_from [] 0 refl xs g)

  -- and say those steps
  pub reads_back : (xs : List Op) → length xs ≤ most_steps → AllFieldsRight K D xs → ops_of (bytes_of xs) ≡ xs
  reads_back xs short g = ops_of_bytes xs short (all_sayable xs g)
