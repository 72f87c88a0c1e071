-- `misfit_of` meets its contract: a tree's place of misfit is told by its root's word.
-- Assumes nothing.
use Rattle.words.specs.Prelude.{rules}
use Rattle.table.specs.{Passes.EndedFrom}
use Rattle.table.proofs.{Prefix.misfit_none, Prefix.misfit_sort, Prefix.misfit_inside, Prefix.misfit_soon, Prefix.misfit-fits}
use Rattle.table.proofs.order.misfit_of.Goals as goal

pub returns-then-e-b : goal.returns-then-e-b
returns-then-e-b c = misfit_none _ _ _ (search rules)

pub returns-then-sort_at-ne-CONDITION : goal.returns-then-sort_at-ne-CONDITION
returns-then-sort_at-ne-CONDITION c = misfit_sort _ _ _ (search rules) (search rules)

pub returns-then-v-ge-MISFIT_FROM : goal.returns-then-v-ge-MISFIT_FROM
unfolding EndedFrom
returns-then-v-ge-MISFIT_FROM c =
    misfit_inside _ _ _ _ (search rules) (search rules)
    (c.requires.ended_from _ (search rules) (search rules)) (search rules)

pub returns-then-v-e : goal.returns-then-v-e
unfolding EndedFrom
returns-then-v-e c =
    misfit_soon _ _ _ _ (search rules) (search rules)
    (c.requires.ended_from _ (search rules) (search rules)) (search rules) (search rules)

pub returns : goal.returns
unfolding EndedFrom
returns c =
    misfit-fits _ _ _ _ (search rules) (search rules)
    (c.requires.ended_from _ (search rules) (search rules)) (search rules) (search rules)
