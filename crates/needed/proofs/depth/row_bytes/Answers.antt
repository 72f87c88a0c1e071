-- Eight bytes a word.
use Rattle.words.specs.Prelude.{arith}
use Rattle.table.specs.{Depth.row_bytes}
use Rattle.needed.proofs.depth.row_bytes.Goals as goal

pub returns : goal.returns
unfolding row_bytes
returns c = (rw c.slots.ensures, omega arith)
