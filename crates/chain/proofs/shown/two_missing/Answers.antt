-- The first missing of the two. Assumes nothing.
use Rattle.chain.proofs.shown.two_missing.Goals as goal

pub returns : goal.returns
returns c = rw (← c.first_missing-x.ensures, ← c.first_missing-y.ensures) c.first_found.ensures
