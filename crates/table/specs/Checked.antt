-- The answer to a table, whatever its bytes are. Definitions only.
use Rattle.std.specs.Prelude.{List, ℕ, Option, Some, None, Result, Err}
use Rattle.words.specs.{declared.refusal.Refusal.Refusal}
use Rattle.table.specs.{declared.answer.Accepted.Accepted, Outcome.accepts}
use Rattle.table.specs.{Header.newest_version, Header.total, Header.header_refusal, Nodes.wrong_node, Order.misfits, Nesting.too_deep, Reach.too_far}
use Rattle.table.specs.{Reach.rows_needed}

-- a rule that is broken at a place refuses the table; else the rules after it decide
unfoldable pub or_refused : (ℕ → Refusal) → Option ℕ → Result Accepted Refusal → Result Accepted Refusal
or_refused rule None a = a
or_refused rule (Some p) a = Err (rule p)

-- rules 1 to 5 have place 0
unfoldable pub or_header : Option Refusal → Result Accepted Refusal → Result Accepted Refusal
or_header None a = a
or_header (Some r) a = Err r

-- "Several at once: 1 to 9 come first, in that order, each over the whole table."
unfoldable pub from9 : List ℕ → Result Accepted Refusal
from9 t = or_refused Refusal.Reach (too_far t) (accepts (total t) (rows_needed t))

unfoldable pub from8 : List ℕ → Result Accepted Refusal
from8 t = or_refused Refusal.Nesting (too_deep t) (from9 t)

unfoldable pub from7 : List ℕ → Result Accepted Refusal
from7 t = or_refused Refusal.Tree (misfits t) (from8 t)

-- the answer of a reader of versions 1 to `newest`
unfoldable pub checked_up_to : ℕ → List ℕ → Result Accepted Refusal
checked_up_to newest t = or_header (header_refusal newest t) (or_refused Refusal.Node (wrong_node t (total t) 0) (from7 t))

-- the answer of today's reader, which reads every version that there is
unfoldable pub checked : List ℕ → Result Accepted Refusal
checked t = checked_up_to newest_version t
