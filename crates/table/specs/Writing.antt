-- Writing trees as a table: the other way round from reading. Definitions only.
use Rattle.std.specs.Prelude.{cond, List, [], ◌∷◌, ◌++◌, ℕ, suc, ◌+◌, ◌/◌, ◌%◌}
use Rattle.table.specs.{declared.nodes.Node.Node, declared.header.Form.Form, declared.series.Series.Series, declared.series.Series.TheVariants.Price}
use Rattle.table.specs.{declared.series.Series.TheVariants.Slot, Trees.Operand, Trees.const, Trees.ref, Trees.price, Trees.prev, Trees.arith}
use Rattle.table.specs.{Trees.extreme, Trees.Condition, Trees.Conditions, Trees.compare, Trees.cross, Trees.between, Trees.trend, Trees.every, Trees.any}
use Rattle.table.specs.{Trees.negated, Trees.in_position, Trees.bars_since, Trees.none, Trees.more, Reading.tree_of, Reading.present}
use Rattle.table.specs.Named as Named

-- "Little-endian."
unfoldable pub le16 : ℕ → List ℕ
le16 x = x % 256 ∷ x / 256 ∷ []

unfoldable pub le32 : ℕ → List ℕ
le32 x = le16 (x % 65536) ++ le16 (x / 65536)

unfoldable pub le64 : ℕ → List ℕ
le64 x = le32 (x % 4294967296) ++ le32 (x / 4294967296)

-- "Node: kind (1), selector (1), children (2), n (4), constant bits (8)."
unfoldable pub node : ℕ → ℕ → ℕ → ℕ → ℕ → List ℕ
node kind selector children n constant = kind ∷ selector ∷ (le16 children ++ le32 n ++ le64 constant)

-- a node's bytes, and those of nodes in a row
unfoldable pub node_bytes : Node → List ℕ
node_bytes n = node n.kind n.selector n.children n.n n.constant

unfoldable pub nodes_bytes : List Node → List ℕ
nodes_bytes [] = []
nodes_bytes (n ∷ ns) = node_bytes n ++ nodes_bytes ns

-- "Unused fields are zero": a node whose kind says all
abbrev pub plain_node : ℕ → List ℕ
plain_node kind = node kind 0 0 0 0

-- the child of Highest and Lowest
unfoldable pub write_series : Series → List ℕ
write_series (Price selector) = node Named.price selector 0 0 0
write_series (Slot slot) = node Named.ref 0 0 slot 0

-- "each tree in prefix order"
unfoldable pub write_operand : Operand → List ℕ
write_operand (const bits) = node Named.const 0 0 0 bits
write_operand (ref slot) = node Named.ref 0 0 slot 0
write_operand (price selector) = node Named.price selector 0 0 0
write_operand (prev a n) = node Named.prev 0 0 n 0 ++ write_operand a
write_operand (arith kind a b) = plain_node kind ++ write_operand a ++ write_operand b
write_operand (extreme kind s n) = node kind 0 0 n 0 ++ write_series s

-- operands in a row
unfoldable pub write_row : List Operand → List ℕ
write_row [] = []
write_row (a ∷ rest) = write_operand a ++ write_row rest

-- how many conditions stand in a row
unfoldable pub many_of : Conditions → ℕ
many_of none = 0
many_of (more c cs) = suc (many_of cs)

unfoldable mutual
  pub write_condition : Condition → List ℕ
  write_condition (compare kind a b) = plain_node kind ++ write_operand a ++ write_operand b
  write_condition (cross kind a b) = plain_node kind ++ write_operand a ++ write_operand b
  write_condition (between x low high) = plain_node Named.between ++ write_operand x ++ write_operand low ++ write_operand high
  write_condition (trend kind a n) = node kind 0 0 n 0 ++ write_operand a
  write_condition (every cs) = node Named.all 0 (many_of cs) 0 0 ++ write_all cs
  write_condition (any cs) = node Named.any 0 (many_of cs) 0 0 ++ write_all cs
  write_condition (negated c) = plain_node Named.not ++ write_condition c
  write_condition (in_position want) = node Named.in_position (cond want 1 0) 0 0 0
  write_condition (bars_since selector k) = node Named.bars_since_entry selector 0 k 0

  pub write_all : Conditions → List ℕ
  write_all none = []
  write_all (more c cs) = write_condition c ++ write_all cs

-- How many nodes a tree has.
unfoldable pub nodes_in : Operand → ℕ
nodes_in (const _) = 1
nodes_in (ref _) = 1
nodes_in (price _) = 1
nodes_in (prev a _) = 1 + nodes_in a
nodes_in (arith _ a b) = 1 + nodes_in a + nodes_in b
nodes_in (extreme _ _ _) = 2

unfoldable mutual
  pub nodes_of : Condition → ℕ
  nodes_of (compare _ a b) = 1 + nodes_in a + nodes_in b
  nodes_of (cross _ a b) = 1 + nodes_in a + nodes_in b
  nodes_of (between x low high) = 1 + nodes_in x + nodes_in low + nodes_in high
  nodes_of (trend _ a _) = 1 + nodes_in a
  nodes_of (every cs) = 1 + nodes_of_all cs
  nodes_of (any cs) = 1 + nodes_of_all cs
  nodes_of (negated c) = 1 + nodes_of c
  nodes_of (in_position _) = 1
  nodes_of (bars_since _ _) = 1

  pub nodes_of_all : Conditions → ℕ
  nodes_of_all none = 0
  nodes_of_all (more c cs) = nodes_of c + nodes_of_all cs

-- "entry, exit, short entry, short exit (.. the first two at least 1, 0 means absent ..)"
pub data Short : Type 0 where
  absent : Short
  given : Condition → Short

pub record Rule : Type 0 where
  pub entry : Condition
  pub exit : Condition
  pub short_entry : Short
  pub short_exit : Short

unfoldable pub nodes_of_short : Short → ℕ
nodes_of_short absent = 0
nodes_of_short (given c) = nodes_of c

unfoldable pub write_short : Short → List ℕ
write_short absent = []
write_short (given c) = write_condition c

unfoldable pub nodes_of_rule : Rule → ℕ
nodes_of_rule r = nodes_of r.entry + nodes_of r.exit + nodes_of_short r.short_entry + nodes_of_short r.short_exit

-- "Header, 16 bytes: mark `RTB`; slot count K (one byte ..); version, 16 bits, 1 [or 2]; total nodes (16 bits ..); node counts of
-- entry, exit, short entry, short exit (16 bits each ..)."
unfoldable pub header_of : Form → Rule → List ℕ
header_of form r =
    82 ∷ 84 ∷ 66 ∷ form.slots ∷
    (le16 form.version ++ le16 (nodes_of_rule r) ++
    le16 (nodes_of r.entry) ++ le16 (nodes_of r.exit) ++
    le16 (nodes_of_short r.short_entry) ++ le16 (nodes_of_short r.short_exit))

-- the table of a rule, of a version and with a number of slots
unfoldable pub table_of : Form → Rule → List ℕ
table_of form r =
    header_of form r ++
    write_condition r.entry ++ write_condition r.exit ++ write_short r.short_entry ++ write_short r.short_exit

-- The rule that a table holds.
unfoldable pub short_of : List ℕ → ℕ → Short
short_of t x = cond (present t x) (given (tree_of t x)) absent

unfoldable pub rule_of : List ℕ → Rule
rule_of t = record { entry = tree_of t 0; exit = tree_of t 1; short_entry = short_of t 2; short_exit = short_of t 3 }
