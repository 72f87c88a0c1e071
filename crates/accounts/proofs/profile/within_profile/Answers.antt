-- Test by test: those passed hold, and the first that does not decides.
use Rattle.refusals.specs.{Laws.Descent.so, Laws.Descent.not_so}
use Rattle.accounts.specs.{Profile.within_profile}
use Rattle.accounts.proofs.profile.within_profile.Goals as goal

pub returns-then-not-no_short_trees : goal.returns-then-not-no_short_trees
unfolding within_profile
returns-then-not-no_short_trees c = rw (not_so c.no_short_trees.ensures c.if-not-no_short_trees.true-raw)

pub returns-then-not-leverage_within : goal.returns-then-not-leverage_within
unfolding within_profile
returns-then-not-leverage_within c =
    rw (
      so c.no_short_trees.ensures c.if-not-no_short_trees.false-raw,
      not_so c.leverage_within.ensures c.if-not-leverage_within.true-raw,
    )

pub returns : goal.returns
unfolding within_profile
returns c =
    rw (
      so c.no_short_trees.ensures c.if-not-no_short_trees.false-raw,
      so c.leverage_within.ensures c.if-not-leverage_within.false-raw,
    ) c.slots_within.ensures
