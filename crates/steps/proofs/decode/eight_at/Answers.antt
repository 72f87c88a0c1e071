-- Both halves are below 2^32, so nothing wraps.
use Rattle.table.specs.{Bytes.u64}
use Rattle.steps.proofs.decode.eight_at.Goals as goal

pub returns : goal.returns
unfolding u64
returns c = simp (c.four_at-2.ensures.0, c.four_at.ensures.0)
