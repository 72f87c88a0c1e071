-- `order_all` meets its contract: each pass leaves the words of the trees before it as they are.
-- Assumes nothing.
use Rattle.words.specs.Prelude.{rules}
use Rattle.table.proofs.{Four.order_four, Four.zeros_at}
use Rattle.words.specs.{Limits.most_nodes}
use Rattle.table.proofs.order.order_all.Goals as goal

pub returns : goal.returns
returns c =
    order_four _ _ _ _ _ _ _
    c.requires (zeros_at most_nodes) (search rules)
    c.order_tree-one.ensures
    c.order_tree-two.ensures c.order_tree-three.ensures c.order_tree.ensures
