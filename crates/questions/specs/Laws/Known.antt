-- What a check of a table tells whoever asks it: what the code finds with the array beside the check is the tree's chain, and that is short.
use Rattle.std.specs.Prelude.{ℕ, ◌≤◌, ◌≡◌, List, length}
use Rattle.table.specs.{Bytes.Bytes, Checked.checked, Ends.ends_beside}
use Rattle.rules.specs.{declared.position.PositionState.PositionState}
use Rattle.chain.specs.{Explained.explanation, Flat.flat_explanation, Laws.Numbered.explanation_found, Laws.Short.few_lines}
use Rattle.table.specs.{Outcome.accepts}

pub record Known (t ends : List ℕ) : Type 0 where
  pub found : (x : ℕ) (rows : List ℕ) (s : PositionState) → flat_explanation t ends x rows s ≡ explanation t x rows s
  pub short : (x : ℕ) (rows : List ℕ) (s : PositionState) → length (explanation t x rows s) ≤ 32

pub known : (t : List ℕ) → Bytes t → (n r : ℕ) → checked t ≡ accepts n r → (ends : List ℕ) → ends ≡ ends_beside t → Known t ends
known t small n r ok ends e = record {
  found = λ x rows s. rw e (explanation_found t n r ok x rows s);
  short = λ x rows s. few_lines t small n r ok x rows s;
}
