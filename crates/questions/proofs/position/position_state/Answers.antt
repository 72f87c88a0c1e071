-- Each field is read from its own word.
use Rattle.questions.specs.{Position.position_state}
use Rattle.questions.proofs.position.position_state.Goals as goal

pub returns : goal.returns
unfolding position_state
returns c = simp (c.entered_of.ensures, c.float_of.ensures)
