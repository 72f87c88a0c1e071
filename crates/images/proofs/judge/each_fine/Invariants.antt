-- The loop's invariant: the rows passed are fine.
use Rattle.words.specs.Prelude.{ℕ, ◌≡◌, Bool, true, List}
use Rattle.refusals.specs.{Bar.every}
use Rattle.images.specs.{Reading.row_in, Refused.row_fine}
use Rattle.images.proofs.judge.each_fine.Given as goal

abbrev is_fine : List ℕ → ℕ → ℕ → Bool
is_fine x K i = row_fine K (row_in x K i)

abbrev pub invariant-loop-i : goal.invariant-loop-i
invariant-loop-i l = (every l.i (is_fine l.image l.slots) ≡ true)
