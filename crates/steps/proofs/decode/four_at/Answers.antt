-- Both halves are below 2^16, so nothing wraps.
use Rattle.words.specs.Prelude.{arith}
use Rattle.table.specs.{Bytes.u32}
use Rattle.steps.proofs.decode.four_at.Goals as goal

pub returns : goal.returns
unfolding u32
returns c = (simp (c.two_at-2.ensures.0, c.two_at.ensures.0), omega (arith, c.two_at-2.ensures.1, c.two_at.ensures.1))
