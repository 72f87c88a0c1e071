-- Where the row does not have it, nothing is told.
use Rattle.words.specs.Prelude.{sym, true≢false}
use Rattle.steps.proofs.leaves.slot_at_once.Goals as goal

pub returns-else-slot-slots : goal.returns-else-slot-slots
returns-else-slot-slots c e = absurd (true≢false (sym e))

pub returns-else-slot-lt64 : goal.returns-else-slot-lt64
returns-else-slot-lt64 c e = absurd (true≢false (sym e))
