-- Those before position i are in order; the first that is not decides.
use Rattle.words.specs.Prelude.{◌≡◌, true}
use Rattle.questions.specs.{Position.all_right}
use Rattle.questions.proofs.position.all_right.Given as goal

abbrev pub invariant-loop-i : goal.invariant-loop-i
invariant-loop-i l = all_right l.positions l.i ≡ true
