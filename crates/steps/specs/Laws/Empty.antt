-- "An empty list answers no", and it is well formed, whatever the slots and the window.
use Rattle.std.specs.Prelude.{ℕ, ◌≡◌, refl, false, List, [], ◌∷◌, length, Ok}
use Rattle.words.specs.Prelude.{arith}
use Rattle.rows.specs.{History.History}
use Rattle.rules.specs.{declared.position.PositionState.PositionState}
use Rattle.steps.specs.{Bytes.ops_from, Bytes.ops_of, Bytes.steps_run, Machine.run}
use Rattle.steps.specs.{Machine.ran_over, WellFormed.formed_from, WellFormed.formed}

-- it is well formed
pub empty_well : (K D : ℕ) (bs : List ℕ) → length bs ≡ 0 → formed K D bs ≡ Ok tt
unfolding formed formed_from
empty_well K D [] h = refl
empty_well K D (b ∷ bs) h = absurd (omega (arith, h))

-- it answers no
pub empty_no : (h : History) (p : PositionState) (bs : List ℕ) → length bs ≡ 0 → (ran_over h p (ops_of bs)).answer ≡ false
unfolding ops_of ops_from steps_run run
empty_no h p [] none = refl
empty_no h p (b ∷ bs) none = absurd (omega (arith, none))
