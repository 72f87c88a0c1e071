-- The library's nearest float is the definition's. Assumes nothing.
use Rattle.floats.specs.Sums.{counted}
use Rattle.floats.proofs.sums.counted.Goals as goal

pub returns : goal.returns
unfolding counted
returns c = c.nearest_u64_to_f64.ensures
