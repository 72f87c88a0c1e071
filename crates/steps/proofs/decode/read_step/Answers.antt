-- Field by field.
use Rattle.steps.specs.{Bytes.read_step}
use Rattle.steps.proofs.decode.read_step.Goals as goal

pub returns : goal.returns
unfolding read_step
returns c = (simp (c.eight_at.ensures, c.four_at.ensures.0, c.two_at.ensures.0), c.two_at.ensures.1)
