-- One line: no trade is to be closed, or it has a place.
use Rattle.refusals.specs.{Lines.judged, Rooms.close_lines}
use Rattle.refusals.proofs.rooms.judge_close.Goals as goal

pub returns : goal.returns
unfolding judged close_lines
returns c = cc
