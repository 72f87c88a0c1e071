-- All but the levels stays. Assumes nothing.
use Rattle.engine.proofs.terms.with_levels.Goals as goal

pub returns : goal.returns
returns c same = rw same
