-- `read64` meets its contract: its two halves, and 0 past the end.
-- Assumes nothing.
use Rattle.words.specs.Prelude.{sym}
use Rattle.table.proofs.{Past.past64}
use Rattle.table.proofs.bytes.read64.Goals as goal

pub returns-else-at-t : goal.returns-else-at-t
returns-else-at-t c = sym (past64 c.args.t.now c.args.at c.if-at-t.false)
