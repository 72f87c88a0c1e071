-- Byte by byte.
use Rattle.translation.proofs.emit.put_number.Goals as goal

pub shape_of-room : goal.shape_of-room
shape_of-room c = c.put_four.auto.room

pub returns : goal.returns
returns c = rw (c.put_four.ensures, c.low-4.ensures, c.low-3.ensures, c.low-2.ensures, c.low.ensures)
