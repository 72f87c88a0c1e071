-- The loop's invariant: i words are `moved`; a turn moves one more. Assumes nothing.
use Rattle.words.specs.Prelude.{◌≡◌, length}
use Rattle.words.proofs.{Copying.moved}
use Rattle.words.proofs.moving.shift_words.Given as goal

abbrev pub invariant-loop-i : goal.invariant-loop-i
invariant-loop-i l = (l.room ≡ moved l.initial.room l.width l.at l.i) × (length l.room ≡ length l.initial.room)
