-- The nodes that are listed are the silent tests of the table's trees, where it is accepted; else nothing is listed.
use Rattle.std.specs.Prelude.{Err, Ok, Result, ℕ}
use Rattle.words.specs.Prelude.{ℕ, ◌≡◌, refl, ◌∙◌, List, arith, length}
use Rattle.table.specs.{Bytes.Bytes, Checked.checked}
use Rattle.table.specs.{Silent.silent_tests, Silent.silent_answer, Silent.list_after_answer, Silent.four_silent}
use Rattle.needed.specs.{Laws.Silent.silent_found}
use Rattle.words.specs.{declared.refusal.Refusal.Refusal}
use Rattle.table.specs.{declared.answer.Accepted.Accepted}
use Rattle.needed.proofs.silent.silent_tests.Goals as goal

module _ (t : List ℕ) (small : Bytes t) (d : ℕ) (given : List ℕ) (answer : Result ℕ Refusal) (list : List ℕ)
    (is : answer ≡ silent_answer (checked t) (four_silent t d) (length given)) (leaves : list ≡ list_after_answer answer (four_silent t d) given) where
  as_tests : (a : Result Accepted Refusal) → checked t ≡ a
      → (answer ≡ silent_answer (checked t) (silent_tests t d) (length given)) × (list ≡ list_after_answer answer (silent_tests t d) given)
  unfolding silent_answer list_after_answer
  as_tests (Ok accepted) ok = rw (← silent_found t small accepted.nodes accepted.rows ok d) (is, leaves)
  as_tests (Err why) bad =
      let so : answer ≡ Err why = is ∙ rw bad in
      (so ∙ rw bad, rw so (rw so at leaves))

pub returns : goal.returns
unfolding Bytes
returns c =
    let both = as_tests _ (λ i. omega (arith, c.type_inv.t i)) _ _ _ _
    c.silent_nodes.ensures.value c.silent_nodes.ensures.list_after _ refl in
    record { value = both.0; list_after = both.1 }
