-- Each tree's tests follow those of the tree before it.
use Rattle.words.specs.Prelude.{arith}
use Rattle.table.specs.{Silent.WholeTrees, Silent.four_silent}
use Rattle.table.proofs.{Listing.put_four}
use Rattle.table.proofs.silent.list_all.Goals as goal

pub list_tree-p-requires : goal.list_tree-p-requires
unfolding WholeTrees four_silent
list_tree-p-requires c = record { x_bound = omega arith; whole_tree = c.requires 0 (omega arith); at_bound = omega arith }

pub list_tree-q-requires : goal.list_tree-q-requires
unfolding WholeTrees four_silent
list_tree-q-requires c = record { x_bound = omega arith; whole_tree = c.requires 1 (omega arith); at_bound = c.list_tree-p.ensures.value.1 }

pub list_tree-r-requires : goal.list_tree-r-requires
unfolding WholeTrees four_silent
list_tree-r-requires c = record { x_bound = omega arith; whole_tree = c.requires 2 (omega arith); at_bound = c.list_tree-q.ensures.value.1 }

pub list_tree-requires : goal.list_tree-requires
unfolding WholeTrees four_silent
list_tree-requires c = record { x_bound = omega arith; whole_tree = c.requires 3 (omega arith); at_bound = c.list_tree-r.ensures.value.1 }

pub returns : goal.returns
unfolding WholeTrees four_silent
returns c =
    let both = put_four _ _ _ _ _ _ _ _ _ _ _ _ _ c.list_tree-p.ensures.value.0 c.list_tree-p.ensures.list_after
    c.list_tree-q.ensures.value.0 c.list_tree-q.ensures.list_after
    c.list_tree-r.ensures.value.0 c.list_tree-r.ensures.list_after
    c.list_tree.ensures.value.0 c.list_tree.ensures.list_after in
    record { value = both.0; list_after = both.1 }
