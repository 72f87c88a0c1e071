-- `floats::float_of`: the patterns above that of the infinity, with either sign, are the NaNs; any other is read as it stands. Assumes nothing.
use Rattle.words.specs.Prelude.{◌∙◌}
use Rattle.floats.proofs.{Words.nan_is, Words.word_nan, Words.word_no_nan}
use Rattle.floats.proofs.float_of.Goals as goal

pub returns-then-w-gt9218868437227405312 : goal.returns-then-w-gt9218868437227405312
returns-then-w-gt9218868437227405312 c = nan_is ∙ word_nan c.args.w c.if-w-gt9218868437227405312.true

pub float_from_bits-result : goal.float_from_bits-result
float_from_bits-result c = word_no_nan c.args.w c.if-w-gt9218868437227405312.false
