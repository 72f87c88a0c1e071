-- Four stores.
use Rattle.words.specs.Prelude.{arith, length-set}
use Rattle.translation.proofs.{Writes.four_sets}
use Rattle.translation.proofs.emit.put_four.Goals as goal

pub bounds-room-p-2 : goal.bounds-room-p-2
bounds-room-p-2 c = simp length-set (omega arith)

pub bounds-room-p-3 : goal.bounds-room-p-3
bounds-room-p-3 c = simp length-set (omega arith)

pub bounds-room-p-4 : goal.bounds-room-p-4
bounds-room-p-4 c = simp length-set (omega arith)

pub returns : goal.returns
returns c = four_sets _ _ _ _ _ _
