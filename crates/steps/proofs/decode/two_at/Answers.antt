-- Both bytes are below 256, so nothing wraps.
use Rattle.words.specs.Prelude.{arith}
use Rattle.table.specs.{Bytes.u16}
use Rattle.steps.proofs.decode.two_at.Goals as goal

pub returns : goal.returns
unfolding u16
returns c = (simp (c.from-2.ensures, c.from.ensures), omega (arith, c.from-2.ensures, c.from.ensures))
