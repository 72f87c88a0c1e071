-- In a position, and a bar was seen.
use Rattle.refusals.specs.{Rooms.to_close}
use Rattle.refusals.proofs.rooms.to_close.Goals as goal

pub returns : goal.returns
unfolding to_close
returns c = cc
