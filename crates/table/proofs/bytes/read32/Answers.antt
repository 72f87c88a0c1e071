-- `read32` meets its contract: its two halves, and 0 past the end.
-- Assumes nothing.
use Rattle.words.specs.Prelude.{arith}
use Rattle.table.specs.{Bytes.u32}
use Rattle.table.proofs.{Past.past32}
use Rattle.table.proofs.bytes.read32.Goals as goal

pub returns-else-at-t : goal.returns-else-at-t
unfolding u32
returns-else-at-t c = omega (arith, past32 c.args.t.now c.args.at c.if-at-t.false)
