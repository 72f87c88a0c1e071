-- `read16` meets its contract: its two halves, and 0 past the end.
-- Assumes nothing.
use Rattle.words.specs.Prelude.{arith}
use Rattle.table.specs.{Bytes.u16}
use Rattle.table.proofs.{Past.past16}
use Rattle.table.proofs.bytes.read16.Goals as goal

pub returns-else-at-t : goal.returns-else-at-t
unfolding u16
returns-else-at-t c = omega (arith, past16 c.args.t.now c.args.at c.if-at-t.false)
