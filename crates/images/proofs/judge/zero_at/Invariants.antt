-- The loop's invariant: the bytes passed are zero.
use Rattle.words.specs.Prelude.{ℕ, ◌+◌, ◌≡◌, Bool, true, List, eqb, get_or}
use Rattle.refusals.specs.{Bar.every}
use Rattle.images.proofs.judge.zero_at.Given as goal

abbrev is_zero : List ℕ → ℕ → ℕ → Bool
is_zero x at i = eqb (get_or x (at + i) 0) 0

abbrev pub invariant-loop-i : goal.invariant-loop-i
invariant-loop-i l = (every l.i (is_zero l.image l.at) ≡ true)
