-- `end_of` meets its contract: the first child is none that the node takes, or its children decide.
-- Assumes nothing.
use Rattle.words.specs.Prelude.{◌≡◌, sym, ◌∙◌, ap, Bool, List, ℕ, ◌+◌, rules}
use Rattle.table.specs.{declared.kinds.Kind.Kind, declared.nodes.Node.Node, Kinds.kind_of, Nodes.node_at, Nodes.child_count, Nodes.child_count_at}
use Rattle.table.specs.{Nodes.child_sort_at, Nodes.child_fits, Nodes.child_fits_at}
use Rattle.table.proofs.{Prefix.wrong_child}
use Rattle.table.proofs.order.end_of.Goals as goal

-- what was read of the node is what the definitions read
module _ (t : List ℕ) (i : ℕ) (n : Node) (w : Kind) (node : n ≡ node_at t i) (row : w ≡ kind_of n.kind) where
  row_is : w ≡ kind_of (node_at t i).kind
  row_is = row ∙ ap (λ (m : Node). kind_of m.kind) node

  fits_is : (b : Bool) → b ≡ child_fits w (kind_of (node_at t (i + 1)).kind) → child_fits_at t i ≡ b
  unfolding child_fits_at
  fits_is b h = ap (λ (r : Kind). child_fits r (kind_of (node_at t (i + 1)).kind)) (sym row_is) ∙ sym h

  many_is : (k : ℕ) → k ≡ child_count n w → k ≡ child_count_at t i
  unfolding child_count_at
  many_is k h = h ∙ ap (λ (m : Node). child_count m w) node ∙ ap (child_count (node_at t i)) row_is

  sort_is : w.below ≡ child_sort_at t i
  unfolding child_sort_at
  sort_is = ap (λ (r : Kind). r.below) row_is

pub end_below-requires : goal.end_below-requires
end_below-requires c =
    let node = c.node_at-node.ensures in
    let row = c.kind_of-row.ensures in
    let fits = fits_is _ _ _ _ node row _ c.child_fits.ensures ∙ c.if-child_fits.true in
    record { i_lt_e = c.requires.i_lt_e; ended_from = c.requires.ended_from; i_value = (fits, many_is _ _ _ _ node row _ c.child_count.ensures, sort_is _ _ _ _ node row) }

pub returns-else-child_fits : goal.returns-else-child_fits
returns-else-child_fits c =
    let node = c.node_at-node.ensures in
    let row = c.kind_of-row.ensures in
    wrong_child _ _ _ (search rules) (search rules) (fits_is _ _ _ _ node row _ c.child_fits.ensures ∙ c.if-child_fits.false)
