-- `floats::is_finite`: a number lies below +infinity and above -infinity, and a NaN is not below. Assumes nothing.
use Rattle.floats.proofs.{Words.in_range, Words.not-below}
use lib.Ieee as Ieee
use Rattle.floats.proofs.is_finite.Goals as goal

pub float_from_bits-top : goal.float_from_bits-top
unfolding Ieee.nan_bits
float_from_bits-top c = tt

pub returns-then-x-top : goal.returns-then-x-top
returns-then-x-top c = in_range _ c.if-x-top.true

pub returns : goal.returns
returns c = not-below _ c.if-x-top.false
