-- The word that is read, as a float. Assumes nothing.
use Rattle.rules.proofs.values.field_at.Goals as goal

pub returns : goal.returns
returns c = cc
