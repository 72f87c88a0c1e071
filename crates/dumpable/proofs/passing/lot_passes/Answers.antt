-- The two tests, joined.
use Rattle.dumpable.proofs.passing.lot_passes.Goals as goal

pub returns : goal.returns
returns c = cc
