-- `floats::word_of`: only a NaN differs from itself, and it is written as one pattern. Assumes nothing.
use Rattle.floats.proofs.{Words.nan_word, Words.not_nan}
use Rattle.floats.proofs.word_of.Goals as goal

pub returns-then-x : goal.returns-then-x
returns-then-x c = nan_word c.args.x c.if-x.true

pub float_to_bits-result : goal.float_to_bits-result
float_to_bits-result c = not_nan c.args.x c.if-x.false
