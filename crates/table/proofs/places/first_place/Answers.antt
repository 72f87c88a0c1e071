-- `first_place` meets its contract: what the three calls say, put together.
-- Assumes nothing.
use Rattle.table.proofs.places.first_place.Goals as goal

pub returns : goal.returns
returns c = cc
