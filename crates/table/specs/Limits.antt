-- The limits that document 01 sets a rule's trees. Definitions only.
use Rattle.std.specs.Prelude.{◌≡◌, true, ℕ, ◌+◌, ◌≤◌, ◌<◌, max}
use Rattle.words.specs.{Limits.most_slots, Limits.most_reach, Limits.most_nesting, Limits.most_nodes}
use Rattle.floats.specs.{Floats.finite, Floats.float_of}
use Rattle.table.specs.{declared.header.Form.Form, declared.series.Series.Series, declared.series.Series.TheVariants.Price}
use Rattle.table.specs.{declared.series.Series.TheVariants.Slot, Kinds.kind_of, Kinds.arithmetic, Kinds.extremum, Kinds.comparison, Kinds.crossing}
use Rattle.table.specs.{Header.newest_version, Nodes.kind_right, Trees.Operand, Trees.const, Trees.ref, Trees.price, Trees.prev, Trees.arith, Trees.extreme}
use Rattle.table.specs.{Trees.Condition, Trees.Conditions, Trees.compare, Trees.cross, Trees.between, Trees.trend, Trees.every, Trees.any, Trees.negated}
use Rattle.table.specs.{Trees.in_position, Trees.bars_since, Trees.none, Trees.more, Trees.reach_of, Writing.Short, Writing.absent, Writing.given}
use Rattle.table.specs.{Writing.Rule, Writing.nodes_of_rule}
use Rattle.table.specs.Kinds as Kinds

-- "Ref (n = slot, below K)"; "Price (selector 0..6 ..)"
unfoldable pub WithinSeries : Form → Series → Type 0
WithinSeries form (Price selector) = selector < 7
WithinSeries form (Slot slot) = slot < form.slots

-- a kind of the version that the table has, or of an earlier one
abbrev pub InVersion : Form → ℕ → Type 0
InVersion form kind = kind_right form.version kind ≡ true

-- "Const (constant, finite)", its bits a 64-bit word; "Ref (n = slot, below K)"; "Price (selector 0..6 ..)"; n 32 bits; "5..8 Add,
-- Sub, Mul, Div". "Kinds 9 and 10, Highest and Lowest, take n from 1 to 4,095", in a table of version 2.
unfoldable pub Within : Form → Operand → Type 0
Within form (const bits) = (bits < 18446744073709551616) × (finite (float_of bits) ≡ true)
Within form (ref slot) = slot < form.slots
Within form (price selector) = selector < 7
Within form (prev a n) = (n < 4294967296) × Within form a
Within form (arith kind a b) = (kind_of kind ≡ arithmetic) × Within form a × Within form b × InVersion form kind
Within form (extreme kind s n) = (kind_of kind ≡ extremum) × InVersion form kind × (1 ≤ n) × (n ≤ most_reach) × WithinSeries form s

-- "16..21 Gt, Lt, Ge, Le, Eq, Ne and 22, 23 CrossAbove, CrossBelow"; "25, 26 Rising, Falling"; "31 BarsSinceEntry (selector 0..4 ..)"
unfoldable mutual
  pub WithinOf : Form → Condition → Type 0
  WithinOf form (compare kind a b) = (kind_of kind ≡ comparison) × Within form a × Within form b × InVersion form kind
  WithinOf form (cross kind a b) = (kind_of kind ≡ crossing) × Within form a × Within form b × InVersion form kind
  WithinOf form (between x low high) = Within form x × Within form low × Within form high
  WithinOf form (trend kind a n) = (kind_of kind ≡ Kinds.trend) × (n < 4294967296) × Within form a × InVersion form kind
  WithinOf form (every cs) = WithinAll form cs
  WithinOf form (any cs) = WithinAll form cs
  WithinOf form (negated c) = WithinOf form c
  WithinOf form (in_position _) = Unit
  WithinOf form (bars_since selector n) = (selector < 5) × (n < 4294967296)

  pub WithinAll : Form → Conditions → Type 0
  WithinAll form none = Unit
  WithinAll form (more c cs) = WithinOf form c × WithinAll form cs

-- How many levels a tree has: "nesting .. (root is 1)".
unfoldable pub levels : Operand → ℕ
levels (const _) = 1
levels (ref _) = 1
levels (price _) = 1
levels (prev a _) = 1 + levels a
levels (arith _ a b) = 1 + max (levels a) (levels b)
levels (extreme _ _ _) = 2

unfoldable mutual
  pub levels_of : Condition → ℕ
  levels_of (compare _ a b) = 1 + max (levels a) (levels b)
  levels_of (cross _ a b) = 1 + max (levels a) (levels b)
  levels_of (between x low high) = 1 + max (levels x) (max (levels low) (levels high))
  levels_of (trend _ a _) = 1 + levels a
  levels_of (every cs) = 1 + levels_of_all cs
  levels_of (any cs) = 1 + levels_of_all cs
  levels_of (negated c) = 1 + levels_of c
  levels_of (in_position _) = 1
  levels_of (bars_since _ _) = 1

  pub levels_of_all : Conditions → ℕ
  levels_of_all none = 0
  levels_of_all (more c cs) = max (levels_of c) (levels_of_all cs)

-- a tree: its fields, "nesting above 32" and "a reach above 4,095" refused
pub record TreeWithin (form : Form) (c : Condition) : Type 0 where
  pub fields : WithinOf form c
  pub nesting : levels_of c ≤ most_nesting
  pub reaches : reach_of c ≤ most_reach

unfoldable pub ShortWithin : Form → Short → Type 0
ShortWithin form absent = Unit
ShortWithin form (given c) = TreeWithin form c

-- a rule: version 1 or 2, "slot count K (.. 0 to 64)", "total nodes (.. 2 to 256)" (two trees have two nodes at least)
pub record RuleWithin (form : Form) (r : Rule) : Type 0 where
  pub some_version : 1 ≤ form.version
  pub known_version : form.version ≤ newest_version
  pub few_slots : form.slots ≤ most_slots
  pub few_nodes : nodes_of_rule r ≤ most_nodes
  pub entry : TreeWithin form r.entry
  pub exit : TreeWithin form r.exit
  pub short_entry : ShortWithin form r.short_entry
  pub short_exit : ShortWithin form r.short_exit
