-- The patterns above that of the infinity, with either sign, are the NaNs; any other is that of its float.
use Rattle.words.specs.Prelude.{ap, arith, binary64, to_bits}
use Rattle.floats.proofs.{Words.word_nan}
use Rattle.heads.proofs.{Made.plain_own}
use Rattle.heads.proofs.plain.plain_word.Goals as goal

pub returns-then-w-gt9218868437227405312 : goal.returns-then-w-gt9218868437227405312
unfolding to_bits
returns-then-w-gt9218868437227405312 c = ap (to_bits binary64) (word_nan c.args.w c.if-w-gt9218868437227405312.true)

pub returns : goal.returns
returns c = let good = c.well_formed in plain_own c.args.w (omega (arith, good)) c.if-w-gt9218868437227405312.false
