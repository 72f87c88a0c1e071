-- `floats::as_u64`: between -1 and 2^64 the library drops the fraction; from there on no word holds it, and all else is a NaN or below 0.
use Rattle.words.specs.Prelude.{sym, subst, T, of_bits, neg}
use Rattle.floats.specs.{Floor.as_u64}
use Rattle.floats.proofs.{Floors.floor_past, Floors.floor_none}
use Rattle.floats.proofs.as_u64.Goals as goal

pub truncating_f64_to_u64-requires : goal.truncating_f64_to_u64-requires
unfolding of_bits neg
truncating_f64_to_u64-requires c = record { lower_bound = subst T (sym c.if-x.true) tt; upper_bound = subst T (sym c.if-x-2.true) tt }

pub returns-then-x-2 : goal.returns-then-x-2
unfolding as_u64
returns-then-x-2 c = c.truncating_f64_to_u64.ensures

pub returns-then-x : goal.returns-then-x
unfolding of_bits neg
returns-then-x c = floor_past _ c.if-x.true c.if-x-2.false

pub returns : goal.returns
unfolding of_bits neg
returns c = floor_none _ c.if-x.false
