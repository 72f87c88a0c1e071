-- A mask of 64 bits has no others.
use Rattle.words.specs.Prelude.{lt-ltb, le-ltb}
use Rattle.accounts.specs.{Own.low_bits}
use Rattle.accounts.proofs.own.low_bits.Goals as goal

pub returns-then-slots-lt-MOST_SLOTS : goal.returns-then-slots-lt-MOST_SLOTS
unfolding low_bits
returns-then-slots-lt-MOST_SLOTS c = simp (lt-ltb _ _ c.if-slots-lt-MOST_SLOTS.true, c.power.ensures.0)

pub returns : goal.returns
unfolding low_bits
returns c = simp (le-ltb _ _ c.if-slots-lt-MOST_SLOTS.false)
