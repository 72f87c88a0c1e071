-- Field by field, what each call gives.
use Rattle.records.specs.{Bar.candle_of}
use Rattle.records.proofs.bar.candle_of.Goals as goal

pub returns : goal.returns
unfolding candle_of
returns c = cc
