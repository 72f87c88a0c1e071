-- So many places are filled.
use Rattle.words.specs.Prelude.{◌≡◌}
use Rattle.text.specs.{Rooms.laid, Rooms.byte_in}
use Rattle.text.proofs.rooms.fill_bytes.Given as goal

abbrev pub invariant-loop-i : goal.invariant-loop-i
invariant-loop-i l = l.room ≡ laid (byte_in l.line) 0 l.i l.initial.room
