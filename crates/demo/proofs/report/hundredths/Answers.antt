-- The two tests before the cast are what the cast asks.
use Rattle.words.specs.Prelude.{sym, subst, T, of_bits, neg}
use Rattle.demo.proofs.report.hundredths.Goals as goal

pub truncating_f64_to_u64-requires-clause-lower_bound : goal.truncating_f64_to_u64-requires-clause-lower_bound
unfolding of_bits neg
truncating_f64_to_u64-requires-clause-lower_bound c = subst T (sym c.if-y.true) tt

pub truncating_f64_to_u64-requires-clause-upper_bound : goal.truncating_f64_to_u64-requires-clause-upper_bound
unfolding of_bits neg
truncating_f64_to_u64-requires-clause-upper_bound c = subst T (sym c.if-y-2.true) tt
