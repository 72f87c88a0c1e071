-- What Highest and Lowest look over: "one child that must be a Price or a Ref". Definitions only.
use Rattle.std.specs.Prelude.{List, ℕ}
use Rattle.table.specs.{declared.nodes.Node.Node, declared.kinds.OperandClass.OperandClass, declared.series.Series.Series}
use Rattle.table.specs.{declared.series.Series.TheVariants.Price, declared.series.Series.TheVariants.Slot, Kinds.kind_of, Nodes.node_at, Trees.Operand}
use Rattle.table.specs.{Trees.const, Trees.ref, Trees.price, Trees.prev, Trees.arith, Trees.extreme}
use Rattle.table.specs.declared.kinds.OperandClass.TheVariants as AsOperand

-- an operand as a series, and a series as the operand that it is; what is no Price and no Ref counts as the open
unfoldable pub as_series : Operand → Series
as_series (ref slot) = Slot slot
as_series (price selector) = Price selector
as_series (const bits) = Price 0
as_series (prev a n) = Price 0
as_series (arith kind a b) = Price 0
as_series (extreme kind s n) = Price 0

unfoldable pub as_operand : Series → Operand
as_operand (Price selector) = price selector
as_operand (Slot slot) = ref slot

-- the series that a node is, by the class of its kind; and the one at node i of a table
unfoldable pub series_by : OperandClass → Node → Series
series_by AsOperand.Ref n = Slot n.n
series_by AsOperand.Price n = Price n.selector
series_by AsOperand.Const n = Price 0
series_by AsOperand.Prev n = Price 0
series_by AsOperand.Arith n = Price 0
series_by AsOperand.Extreme n = Price 0
series_by AsOperand.NoOperand n = Price 0

unfoldable pub series_in : List ℕ → ℕ → Series
series_in t i = series_by (kind_of (node_at t i).kind).operand (node_at t i)
