-- The child of Highest and Lowest is a series: where each node has the children that its kind takes, it is a Price or a Ref.
-- Assumes nothing.
use Rattle.std.specs.Prelude.{◌≡◌, refl, true, List, [], ◌∷◌, ℕ, replicate}
use Rattle.words.specs.Prelude.{sym, true≢false, arith}
use Rattle.table.specs.{declared.nodes.Node.Node, declared.header.Form.Form, declared.series.Series.Series, declared.series.Series.TheVariants.Price}
use Rattle.table.specs.{declared.series.Series.TheVariants.Slot, declared.kinds.OperandClass.OperandClass, Kinds.kind_of, Kinds.extremum, Kinds.is_series}
use Rattle.table.specs.{Nodes.child_count, Nodes.child_fits, Forest.Forest, Forest.sorts, Forest.Fitting, Trees.Operand, Trees.reach, Series.as_series}
use Rattle.table.specs.{Series.as_operand, Series.series_by, Reading.child, Reading.operand_by, Reading.operand_from, Reading.operands, Writing.write_operand}
use Rattle.table.specs.{Writing.write_series, Limits.Within, Limits.WithinSeries, Laws.Kinds.OperandKind, Laws.Kinds.a_const, Laws.Kinds.a_ref}
use Rattle.table.specs.{Laws.Kinds.a_price, Laws.Kinds.a_prev, Laws.Kinds.an_arith, Laws.Kinds.an_extreme, Laws.Kinds.operand_kind}
use Rattle.table.specs.declared.kinds.OperandClass.TheVariants as AsOperand

-- an operand that is a series
abbrev pub IsSeries : Operand → Type 0
IsSeries a = a ≡ as_operand (as_series a)

none_there : ◌≡◌ {A = List ℕ} [] (1 ∷ []) → ⊥
none_there h = let z : ◌≡◌ {A = ℕ} 0 1 = cc in omega arith

-- a node whose row says so reads as one
series_node : (c : Node) (os : List Operand) → is_series (kind_of c.kind).series ≡ true → OperandKind c.kind → IsSeries (operand_from c os)
unfolding operand_from operand_by as_series as_operand
series_node c os is (a_const e r) = absurd (true≢false (sym (rw r at is)))
series_node c os is (a_ref e r) = rw r
series_node c os is (a_price e r) = rw r
series_node c os is (a_prev e r) = absurd (true≢false (sym (rw r at is)))
series_node c os is (an_arith r) = absurd (true≢false (sym (rw r at is)))
series_node c os is (an_extreme r) = absurd (true≢false (sym (rw r at is)))

pub series_child : (n : Node) (below : Forest) → sorts below ≡ replicate (child_count n (kind_of n.kind)) (kind_of n.kind).below → Fitting n below
    → kind_of n.kind ≡ extremum → IsSeries (child (operands below) 0)
unfolding sorts operands Fitting child_fits child_count
series_child n Forest.none under fit row = absurd (none_there (rw row at under))
series_child n (Forest.tree c f rest) under fit row =
    let here : (kind_of c.kind).sort ∷ sorts rest ≡ 1 ∷ [] = rw row at under in
    let sort : (kind_of c.kind).sort ≡ 1 = cc in
    series_node c (operands f) (rw row at fit) (operand_kind c.kind sort)

by_class : (c : OperandClass) (n : Node) (os : List Operand) → as_series (operand_by c n os) ≡ series_by c n
unfolding operand_by as_series series_by
by_class AsOperand.Const n os = refl
by_class AsOperand.Ref n os = refl
by_class AsOperand.Price n os = refl
by_class AsOperand.Prev n os = refl
by_class AsOperand.Arith n os = refl
by_class AsOperand.Extreme n os = refl
by_class AsOperand.NoOperand n os = refl

-- Whatever the node is, what it reads as is as a series what its own bytes say.
pub series_read : (n : Node) (os : List Operand) → as_series (operand_from n os) ≡ series_by (kind_of n.kind).operand n
unfolding operand_from
series_read n os = by_class (kind_of n.kind).operand n os

-- ---- a series is a leaf

pub leaf_reach : (s : Series) → reach (as_operand s) ≡ 0
unfolding as_operand reach
leaf_reach (Price selector) = refl
leaf_reach (Slot slot) = refl

pub leaf_written : (s : Series) → write_operand (as_operand s) ≡ write_series s
unfolding as_operand write_operand write_series
leaf_written (Price selector) = refl
leaf_written (Slot slot) = refl

pub leaf_within : (form : Form) (s : Series) → Within form (as_operand s) → WithinSeries form s
unfolding as_operand Within WithinSeries
leaf_within form (Price selector) w = w
leaf_within form (Slot slot) w = w
