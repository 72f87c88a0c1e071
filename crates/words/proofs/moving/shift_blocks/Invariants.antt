-- The loop's invariant: 16 * i words are `moved`; a turn moves sixteen more. Assumes nothing.
use Rattle.words.specs.Prelude.{◌≡◌, ◌*◌, length}
use Rattle.words.proofs.{Copying.moved}
use Rattle.words.proofs.moving.shift_blocks.Given as goal

abbrev pub invariant-loop-i : goal.invariant-loop-i
invariant-loop-i l = (l.room ≡ moved l.initial.room l.width l.at (16 * l.i)) × (length l.room ≡ length l.initial.room)
