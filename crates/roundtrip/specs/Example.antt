-- "Example, whole: entry CrossAbove(slot 0, slot 1); exit Lt(close, Prev(close, 2)). K is 2; seven nodes make 128 bytes. ..
-- `accepted nodes 7 rows 3`."
use Rattle.std.specs.Prelude.{◌≡◌, refl, List, [], ◌∷◌, ◌++◌, ℕ}
use Rattle.table.specs.{Bytes.u16, Bytes.u32, Bytes.u64, Kinds.kinds, Kinds.kind_of, Kinds.versions, Kinds.since_of}
use Rattle.table.specs.{Header.mark_right, Header.version_right, Header.counts_right, Header.header_refusal, Header.root, Nodes.node_at, Nodes.children_right}
use Rattle.table.specs.{Nodes.n_right, Nodes.constant_right, Nodes.kind_right, Nodes.fields_right, Nodes.own_right, Nodes.node_right, Nodes.wrong_node, Nodes.sort_at}
use Rattle.table.specs.{Nodes.child_count, Nodes.child_count_at, Nodes.child_sort_at, Nodes.child_fits, Nodes.child_fits_at, Order.fits, Order.misfit, Order.or_place}
use Rattle.table.specs.{Order.of_four, Order.misfits, Forest.first_trees, Forest.other_trees, Forest.node_over, Forest.trees, Forest.forest_of, Nesting.deeper}
use Rattle.table.specs.{Nesting.too_deep, Reach.back, Reach.own_back, Reach.weigh, Reach.forest_reach, Reach.tree_reach, Reach.far_at, Reach.too_far}
use Rattle.table.specs.{Reach.rows_needed, Trees.ref, Trees.price, Trees.prev, Trees.compare, Trees.cross, Reading.operand_by, Reading.operand_from}
use Rattle.table.specs.{Reading.operands, Reading.first_of, Reading.condition_by, Reading.condition_from, Reading.conditions, Reading.present, Reading.tree_of}
use Rattle.table.specs.{Writing.absent, Writing.short_of, Writing.rule_of, Checked.or_refused, Checked.or_header, Checked.from9, Checked.from8, Checked.from7}
use Rattle.table.specs.{Checked.checked_up_to, Checked.checked}
use Rattle.table.specs.Named as Named
use Rattle.table.specs.{Outcome.accepts}

-- kind, selector and n of a node that has neither children of its own number nor a constant
abbrev node : ℕ → ℕ → ℕ → List ℕ
node kind selector n = kind ∷ selector ∷ 0 ∷ 0 ∷ n ∷ 0 ∷ 0 ∷ 0 ∷ 0 ∷ 0 ∷ 0 ∷ 0 ∷ 0 ∷ 0 ∷ 0 ∷ 0 ∷ []

unfoldable pub example : List ℕ
example =
    (82 ∷ 84 ∷ 66 ∷ 2 ∷ 1 ∷ 0 ∷ 7 ∷ 0 ∷ 3 ∷ 0 ∷ 4 ∷ 0 ∷ 0 ∷ 0 ∷ 0 ∷ 0 ∷ []) ++
    node 22 0 0 ++ node 2 0 0 ++ node 2 0 1 ++
    node 17 0 0 ++ node 3 3 0 ++ node 4 0 2 ++ node 3 3 0

pub example_accepted : checked example ≡ accepts 7 3
unfolding example checked checked_up_to or_header or_refused from7 from8 from9 too_far rows_needed far_at too_deep misfits of_four tree_reach forest_of root forest_reach
    weigh own_back back deeper or_place trees node_over other_trees first_trees u16 u32 u64 kind_of kinds node_at header_refusal mark_right version_right counts_right
    wrong_node node_right own_right kind_right since_of versions fields_right n_right constant_right children_right sort_at child_count_at child_count child_sort_at
    child_fits_at child_fits fits misfit
example_accepted = refl

-- and it holds those two trees
pub example_rule : rule_of example ≡ record {
  entry = cross Named.cross_above (ref 0) (ref 1);
  exit = compare Named.lt (price 3) (prev (price 3) 2);
  short_entry = absent;
  short_exit = absent;
}
unfolding example rule_of short_of present tree_of forest_of root trees node_over other_trees first_trees u16 u32 u64 kind_of kinds node_at child_count_at child_count
    conditions condition_by condition_from operands operand_by operand_from first_of
example_rule = refl
