-- One count after the other.
use Rattle.words.specs.Prelude.{eq-eqb, ne_eqb}
use Rattle.accounts.specs.{Profile.no_short_trees}
use Rattle.accounts.proofs.profile.no_short_trees.Goals as goal

pub returns-then-count-ne0 : goal.returns-then-count-ne0
unfolding no_short_trees
returns-then-count-ne0 c = rw (← c.count.ensures.0, ne_eqb _ _ c.if-count-ne0.true)

pub returns : goal.returns
unfolding no_short_trees
returns c = rw (← c.count.ensures.0, ← c.count-2.ensures.0, eq-eqb _ _ c.if-count-ne0.false)
