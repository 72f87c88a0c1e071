-- Steps written as bytes read back as the same steps.
use Rattle.words.specs.Prelude.{sym}
use Rattle.words.specs.Prelude.{ap}
use Rattle.std.specs.Prelude.{ℕ, ◌+◌, ◌-◌, ◌*◌, ◌/◌, ◌%◌, ◌<◌, ◌≤◌, ◌≡◌, refl, true, false, List, [], ◌∷◌, ◌++◌, length, get_or}
use Rattle.words.specs.Prelude.{◌∙◌, ⊎_elim, append_assoc, arith}
use Rattle.words.specs.Prelude.{mod-eq_of_lt, mod-add-div, div-div-eq-div-mul, length-append, get_or-append-add, lt-ltb}
use Rattle.words.specs.{Limits.most_steps, Laws.Numbers.less_or_not}
use Rattle.table.specs.{declared.series.Series.Series, Bytes.u16, Bytes.u32, Bytes.u64}
use Rattle.steps.specs.{declared.step.Step.Step, declared.step.Op.Op, declared.step.Op.TheVariants.Const, declared.step.Op.TheVariants.Ref}
use Rattle.steps.specs.{declared.step.Op.TheVariants.Price, declared.step.Op.TheVariants.Arith, declared.step.Op.TheVariants.Compare}
use Rattle.steps.specs.{declared.step.Op.TheVariants.Cross, declared.step.Op.TheVariants.Between, declared.step.Op.TheVariants.Answer}
use Rattle.steps.specs.{declared.step.Op.TheVariants.Turn, declared.step.Op.TheVariants.InPosition, declared.step.Op.TheVariants.BarsSinceEntry}
use Rattle.steps.specs.{declared.step.Op.TheVariants.JumpIf, declared.step.Op.TheVariants.Extreme, declared.step.Op.TheVariants.Unknown}
use Rattle.steps.specs.{Bytes.read_step, Bytes.step_at, Bytes.steps_run, Bytes.slot_kind, Bytes.is_operation, Bytes.is_comparison, Bytes.is_test_step}
use Rattle.steps.specs.{Bytes.extreme_op, Bytes.operand_op, Bytes.test_op, Bytes.fields, Bytes.answer_op, Bytes.op_of, Bytes.ops_from, Bytes.ops_of}
use Rattle.steps.specs.{Bytes.extreme_step, Bytes.step_of, Bytes.step_bytes, Bytes.bytes_of, Laws.Classes.says_arith, Laws.Classes.says_compare}
use Rattle.steps.specs.{Laws.Classes.says_cross}
use Rattle.table.specs.declared.series.Series.TheVariants as Over

-- ---- the fields that a step has room for

pub record StepFits (x : Step) : Type 0 where
  pub selector : x.selector < 256
  pub skip : x.skip < 65536
  pub n : x.n < 4294967296
  pub bits : x.bits < 18446744073709551616

unfoldable pub SayableSeries : Series → Type 0
SayableSeries (Over.Price p) = p < 256
SayableSeries (Over.Slot k) = k < 256

-- what a step can say
unfoldable pub Sayable : Op → Type 0
Sayable (Const bits n) = (n < 4294967296) × (bits < 18446744073709551616)
Sayable (Ref k n) = (k < 256) × (n < 4294967296)
Sayable (Price p n) = (p < 256) × (n < 4294967296)
Sayable (Extreme kind over n back) = (9 ≤ kind) × (kind ≤ 10) × (1 ≤ n) × (n < 65536) × SayableSeries over × (back + (n - 1) < 4294967296)
Sayable (Arith k) = is_operation k ≡ true
Sayable (Compare k) = is_comparison k ≡ true
Sayable (Cross k) = (22 ≤ k) × (k < 24)
Sayable Between = Unit
Sayable (Answer w) = Unit
Sayable Turn = Unit
Sayable (InPosition w) = Unit
Sayable (BarsSinceEntry p k) = (p < 256) × (k < 4294967296)
Sayable (JumpIf w skip) = skip < 65536
Sayable Unknown = ⊥

-- every step of a list can be said
unfoldable pub AllSayable : List Op → Type 0
AllSayable [] = Unit
AllSayable (x ∷ xs) = Sayable x × AllSayable xs

-- ---- numbers

two_back : (n : ℕ) → n < 65536 → n % 256 + 256 * (n / 256 % 256) ≡ n
two_back n l =
    let high : n / 256 % 256 ≡ n / 256 = mod-eq_of_lt (omega arith) in
    omega (arith, high, mod-add-div n 256)

from_four : (n a b c r₀ r₁ r₂ r₃ : ℕ) → r₀ + 256 * a ≡ n → r₁ + 256 * b ≡ a → r₂ + 256 * c ≡ b → r₃ ≡ c
    → r₀ + 256 * r₁ + 65536 * (r₂ + 256 * r₃) ≡ n
from_four n a b c r₀ r₁ r₂ r₃ e₀ e₁ e₂ e₃ = omega arith

-- four bytes of a number below 2^32 are the number
pub four_back : (n : ℕ) → n < 4294967296 → n % 256 + 256 * (n / 256 % 256) + 65536 * (n / 65536 % 256 + 256 * (n / 16777216 % 256)) ≡ n
four_back n l =
    let e₁ : n / 256 % 256 + 256 * (n / 65536) ≡ n / 256 = rw (← (div-div-eq-div-mul n 256 256)) (mod-add-div (n / 256) 256) in
    let e₂ : n / 65536 % 256 + 256 * (n / 16777216) ≡ n / 65536 = rw (← (div-div-eq-div-mul n 65536 256)) (mod-add-div (n / 65536) 256) in
    from_four n (n / 256) (n / 65536) (n / 16777216) _ _ _ _ (mod-add-div n 256) e₁ e₂ (mod-eq_of_lt (omega arith))

-- ---- a step

-- a step's bytes read back as its fields
step_back : (x : Step) (rest : List ℕ) → StepFits x → read_step (step_bytes x ++ rest) 0 ≡ x
unfolding read_step step_bytes u16 u32 u64
step_back x rest z =
    let low : x.bits % 4294967296 < 4294967296 = omega arith in
    let high : x.bits / 4294967296 < 4294967296 = omega (arith, z.bits) in
    let whole : x.bits % 4294967296 + 4294967296 * (x.bits / 4294967296) ≡ x.bits = omega arith in
    rw (
      mod-eq_of_lt z.selector,
      two_back x.skip z.skip,
      four_back x.n z.n,
      four_back (x.bits % 4294967296) low,
      four_back (x.bits / 4294967296) high,
      whole,
    )

-- Highest or Lowest, over a price or a slot
extreme_back : (kind : ℕ) (over : Series) (n back : ℕ) → 9 ≤ kind → kind ≤ 10 → op_of (extreme_step kind over n (back + (n - 1))) ≡ Extreme kind over n back
unfolding op_of is_test_step operand_op is_operation extreme_op extreme_step slot_kind
extreme_back kind over n back low high =
    ⊎_elim (λ (less : kind < 10). let nine : kind ≡ 9 = omega arith in rw nine (highest over))
    (λ (more : 10 ≤ kind). let ten : kind ≡ 10 = omega arith in rw ten (lowest over)) (less_or_not kind 10)
  where
    at : back + (n - 1) - (n - 1) ≡ back
    at = omega arith

    highest : (o : Series) → op_of (extreme_step 9 o n (back + (n - 1))) ≡ Extreme 9 o n back
    highest (Over.Price p) = rw at
    highest (Over.Slot k) = rw at

    lowest : (o : Series) → op_of (extreme_step 10 o n (back + (n - 1))) ≡ Extreme 10 o n back
    lowest (Over.Price p) = rw at
    lowest (Over.Slot k) = rw at

-- and say what was to be said
pub says_back : (x : Op) → Sayable x → op_of (step_of x) ≡ x
unfolding Sayable step_of op_of is_test_step is_comparison operand_op test_op answer_op
says_back (Const bits n) s = refl
says_back (Ref k n) s = refl
says_back (Price p n) s = refl
says_back (Extreme kind over n back) s = extreme_back kind over n back s.0 s.1
says_back (Arith k) s = says_arith (fields k 0 0 0 0) s
says_back (Compare k) s = says_compare (fields k 0 0 0 0) s
says_back (Cross k) s = says_cross (fields k 0 0 0 0) s.0 s.1
says_back Between s = refl
says_back (Answer true) s = refl
says_back (Answer false) s = refl
says_back Turn s = refl
says_back (InPosition true) s = refl
says_back (InPosition false) s = refl
says_back (BarsSinceEntry p k) s = refl
says_back (JumpIf true skip) s = refl
says_back (JumpIf false skip) s = refl
says_back Unknown s = elim s [ ]

sized : (x : Op) → Sayable x → StepFits (step_of x)
unfolding Sayable SayableSeries step_of extreme_step
sized (Const bits n) s = record { selector = omega arith; skip = omega arith; n = omega arith; bits = omega arith }
sized (Ref k n) s = record { selector = omega arith; skip = omega arith; n = omega arith; bits = omega arith }
sized (Price p n) s = record { selector = omega arith; skip = omega arith; n = omega arith; bits = omega arith }
sized (Extreme kind (Over.Price p) n back) s = record { selector = s.4; skip = s.3; n = s.5; bits = omega arith }
sized (Extreme kind (Over.Slot k) n back) s = record { selector = s.4; skip = s.3; n = s.5; bits = omega arith }
sized (Arith k) s = record { selector = omega arith; skip = omega arith; n = omega arith; bits = omega arith }
sized (Compare k) s = record { selector = omega arith; skip = omega arith; n = omega arith; bits = omega arith }
sized (Cross k) s = record { selector = omega arith; skip = omega arith; n = omega arith; bits = omega arith }
sized Between s = record { selector = omega arith; skip = omega arith; n = omega arith; bits = omega arith }
sized (Answer w) s = record { selector = omega arith; skip = omega arith; n = omega arith; bits = omega arith }
sized Turn s = record { selector = omega arith; skip = omega arith; n = omega arith; bits = omega arith }
sized (InPosition true) s = record { selector = omega arith; skip = omega arith; n = omega arith; bits = omega arith }
sized (InPosition false) s = record { selector = omega arith; skip = omega arith; n = omega arith; bits = omega arith }
sized (BarsSinceEntry p k) s = record { selector = omega arith; skip = omega arith; n = omega arith; bits = omega arith }
sized (JumpIf w skip) s = record { selector = omega arith; skip = omega arith; n = omega arith; bits = omega arith }
sized Unknown s = elim s [ ]

-- ---- a list of steps

module _ (pre l : List ℕ) where
  at_after : (k m : ℕ) → k ≡ length pre + m → get_or (pre ++ l) k 0 ≡ get_or l m 0
  at_after k m e = rw e (get_or-append-add pre l m 0)

  -- what stands after other bytes reads as it does alone
  read_after : read_step (pre ++ l) (length pre) ≡ read_step l 0
  unfolding read_step u16 u32 u64
  read_after =
      simp (
        at_after (length pre + 8 + 4 + 2 + 1) 15 (omega arith),
        at_after (length pre + 8 + 4 + 2) 14 (omega arith),
        at_after (length pre + 8 + 4 + 1) 13 (omega arith),
        at_after (length pre + 8 + 4) 12 (omega arith),
        at_after (length pre + 8 + 2 + 1) 11 (omega arith),
        at_after (length pre + 8 + 2) 10 (omega arith),
        at_after (length pre + 8 + 1) 9 (omega arith),
        at_after (length pre + 8) 8 (omega arith),
        at_after (length pre + 4 + 2 + 1) 7 (omega arith),
        at_after (length pre + 4 + 2) 6 (omega arith),
        at_after (length pre + 4 + 1) 5 (omega arith),
        at_after (length pre + 4) 4 (omega arith),
        at_after (length pre + 2 + 1) 3 (omega arith),
        at_after (length pre + 2) 2 (omega arith),
        at_after (length pre + 1) 1 (omega arith),
        at_after (length pre) 0 (omega arith),
      )

pub steps_long : (xs : List Op) → length (bytes_of xs) ≡ 16 * length xs
unfolding bytes_of step_bytes
steps_long [] = refl
steps_long (x ∷ xs) = omega (arith, steps_long xs)

-- a step that stands after the bytes of p steps, and before others
pub step_there : (pre : List ℕ) (p : ℕ) → length pre ≡ 16 * p → (x : Op) (rest : List ℕ) → Sayable x
    → step_at (pre ++ (step_bytes (step_of x) ++ rest)) p ≡ step_of x
unfolding step_at
step_there pre p e x rest s =
    let sb : List ℕ = step_bytes (step_of x) in
    let sixteen : length sb ≡ 16 = unfold step_bytes in refl in
    let long : length (pre ++ (sb ++ rest)) ≡ 16 * p + (16 + length rest) = length-append pre (sb ++ rest) ∙ rw (length-append sb rest, e, sixteen) in
    let within : p < length (pre ++ (sb ++ rest)) / 16 = omega arith in
    rw (lt-ltb p (length (pre ++ (sb ++ rest)) / 16) within, ← e) (read_after pre (sb ++ rest) ∙ step_back (step_of x) rest (sized x s))

-- the steps from place p on, where the bytes before them are those of p steps
ops_back : (pre : List ℕ) (p : ℕ) → length pre ≡ 16 * p → (xs : List Op) → AllSayable xs → ops_from (pre ++ bytes_of xs) p (length xs) ≡ xs
unfolding ops_from AllSayable bytes_of
ops_back pre p e [] s = refl
ops_back pre p e (x ∷ xs) s =
    let sb : List ℕ = step_bytes (step_of x) in
    let sixteen : length sb ≡ 16 = unfold step_bytes in refl in
    let rest : ops_from ((pre ++ sb) ++ bytes_of xs) (p + 1) (length xs) ≡ xs = ops_back (pre ++ sb) (p + 1) (omega (arith, length-append pre sb)) xs s.1 in
    rw (step_there pre p e x (bytes_of xs) s.0, says_back x s.0)
    (ap (λ (l : List ℕ). x ∷ ops_from l (p + 1) (length xs)) (sym (append_assoc pre sb (bytes_of xs))) ∙ ap (λ (l : List Op). x ∷ l) rest)

-- a list of steps, written and read
pub ops_of_bytes : (xs : List Op) → length xs ≤ most_steps → AllSayable xs → ops_of (bytes_of xs) ≡ xs
unfolding ops_of steps_run
ops_of_bytes xs short s =
    let count : steps_run (bytes_of xs) ≡ length xs = omega (arith, steps_long xs) in
    rw count (ops_back [] 0 refl xs s)
