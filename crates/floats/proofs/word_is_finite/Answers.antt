-- `floats::word_is_finite`: the exponent's field is all ones for the infinities and the NaNs, and for them only. Assumes nothing.
use Rattle.floats.proofs.{Words.word_finite}
use Rattle.floats.proofs.word_is_finite.Goals as goal

pub returns : goal.returns
returns c = word_finite c.args.w
