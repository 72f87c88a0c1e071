-- `reach_of` meets its contract: the root's word weighs the whole tree, which ends where the nodes do.
-- Assumes nothing.
use Rattle.words.specs.Prelude.{rules}
use Rattle.table.specs.{Ends.Linked, Passes.WordsFrom}
use Rattle.table.proofs.{Weigh.reach_none, Weigh.reach_one}
use Rattle.table.proofs.reach.reach_of.Goals as goal

pub returns-then-e-b : goal.returns-then-e-b
returns-then-e-b c = reach_none _ _ _ (search rules)

pub returns : goal.returns
unfolding Linked WordsFrom
returns c =
    let a = c.args in
    reach_one _ _ _ _ _
    (c.weigh_tree-far.ensures a.b (search rules) (search rules))
    (c.requires.linked a.b (search rules) (search rules))
    (c.requires.b_value (search rules))
