-- `far_at` meets its contract.
-- Assumes nothing.
use Rattle.words.specs.Prelude.{lt-ltb, le-ltb}
use Rattle.table.specs.{Reach.far_at}
use Rattle.table.proofs.reach.far_at.Goals as goal

pub returns-then-reach-gt-MOST_REACH : goal.returns-then-reach-gt-MOST_REACH
unfolding far_at
returns-then-reach-gt-MOST_REACH c = simp (lt-ltb _ _ c.if-reach-gt-MOST_REACH.true)

pub returns-else-reach-gt-MOST_REACH : goal.returns-else-reach-gt-MOST_REACH
unfolding far_at
returns-else-reach-gt-MOST_REACH c = simp (le-ltb _ _ c.if-reach-gt-MOST_REACH.false)
