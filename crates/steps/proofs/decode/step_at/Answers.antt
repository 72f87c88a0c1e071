-- A place below the number of whole steps has its 16 bytes in the list.
use Rattle.words.specs.Prelude.{lt-ltb}
use Rattle.steps.specs.{Bytes.step_at}
use Rattle.steps.proofs.decode.step_at.Goals as goal

pub returns : goal.returns
unfolding step_at
returns c = (simp (c.read_step.ensures.0, lt-ltb _ _ c.requires), c.read_step.ensures.1)
