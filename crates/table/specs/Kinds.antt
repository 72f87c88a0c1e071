-- The table of kinds: what a node of each kind takes. `Named` has the kinds by name. Definitions only.
use Rattle.std.specs.Prelude.{List, [], ◌∷◌, ℕ, Bool, true, false, ◌&&◌, eqb, get_or}
use Rattle.table.specs.{declared.kinds.Kind.Kind, declared.kinds.OperandClass.OperandClass, declared.kinds.ConditionClass.ConditionClass}
use Rattle.table.specs.{declared.kinds.Children.Children, declared.kinds.NumberUse.NumberUse, declared.kinds.Back.Back, declared.kinds.SeriesRole.SeriesRole}
use Rattle.table.specs.{declared.kinds.Row.Row, declared.kinds.OperandClass.TheVariants.NoOperand, declared.kinds.OperandClass.TheVariants.Const}
use Rattle.table.specs.{declared.kinds.OperandClass.TheVariants.Ref, declared.kinds.OperandClass.TheVariants.Price}
use Rattle.table.specs.{declared.kinds.OperandClass.TheVariants.Prev, declared.kinds.OperandClass.TheVariants.Arith}
use Rattle.table.specs.{declared.kinds.OperandClass.TheVariants.Extreme, declared.kinds.ConditionClass.TheVariants.NoCondition}
use Rattle.table.specs.{declared.kinds.ConditionClass.TheVariants.Compare, declared.kinds.ConditionClass.TheVariants.Cross}
use Rattle.table.specs.{declared.kinds.ConditionClass.TheVariants.Between, declared.kinds.ConditionClass.TheVariants.Trend}
use Rattle.table.specs.{declared.kinds.ConditionClass.TheVariants.All, declared.kinds.ConditionClass.TheVariants.Any}
use Rattle.table.specs.{declared.kinds.ConditionClass.TheVariants.Not, declared.kinds.ConditionClass.TheVariants.InPosition}
use Rattle.table.specs.{declared.kinds.ConditionClass.TheVariants.BarsSince}

-- ---- what a row says

-- The sort of a node.
abbrev pub operand : ℕ
operand = 1

abbrev pub condition : ℕ
condition = 2

-- What stands below a node: how many children, and of which sort.
pub record Takes : Type 0 where
  pub children : Children
  pub sort : ℕ

abbrev pub leaf : Takes
leaf = record { children = Children.Exactly 0; sort = 0 }

abbrev pub operands : ℕ → Takes
operands m = record { children = Children.Exactly m; sort = operand }

abbrev pub conditions : Children → Takes
conditions many = record { children = many; sort = condition }

-- Which fields a node uses beside its kind. An unused selector has one value, zero; n is unused, a slot, any number or how many bars; and
-- whether the constant is used.
pub record Uses : Type 0 where
  pub selectors : ℕ
  pub n : NumberUse
  pub constant : Bool

abbrev pub kind_alone : Uses
kind_alone = record { selectors = 1; n = NumberUse.Unused; constant = false }

abbrev pub the_constant : Uses
the_constant = record { selectors = 1; n = NumberUse.Unused; constant = true }

abbrev pub slot_below_k : Uses
slot_below_k = record { selectors = 1; n = NumberUse.Slot; constant = false }

abbrev pub its_number : Uses
its_number = record { selectors = 1; n = NumberUse.AnyNumber; constant = false }

abbrev pub how_many_bars : Uses
how_many_bars = record { selectors = 1; n = NumberUse.BarCount; constant = false }

abbrev pub selector_below : ℕ → Uses
selector_below m = record { selectors = m; n = NumberUse.Unused; constant = false }

abbrev pub number_and_selector_below : ℕ → Uses
number_and_selector_below m = record { selectors = m; n = NumberUse.AnyNumber; constant = false }

-- "one child that must be a Price or a Ref": such a child is a series; Highest and Lowest take one.
abbrev pub is_series : SeriesRole → Bool
is_series SeriesRole.Neither = false
is_series SeriesRole.Series = true
is_series SeriesRole.OverSeries = false

abbrev pub takes_series : SeriesRole → Bool
takes_series SeriesRole.Neither = false
takes_series SeriesRole.Series = false
takes_series SeriesRole.OverSeries = true

-- What a node adds to the reach, a `Back`: "Prev, Rising and Falling add n, a cross adds 1"; "the reach is n − 1 plus the child's".
-- A row: the class of the node, what stands below it, which fields it uses, what it adds to the reach, whether it is a series or
-- takes one.
abbrev pub row : OperandClass → ConditionClass → ℕ → Takes → Uses → Back → SeriesRole → Kind
row o c sort takes uses back series =
    record {
      operand = o;
      condition = c;
      sort = sort;
      children = takes.children;
      below = takes.sort;
      selectors = uses.selectors;
      n = uses.n;
      constant = uses.constant;
      back = back;
      series = series;
    }

abbrev pub an_operand : OperandClass → Takes → Uses → Back → Kind
an_operand class takes uses back = row class NoCondition operand takes uses back SeriesRole.Neither

abbrev pub a_leaf_of_each_row : OperandClass → Uses → Kind
a_leaf_of_each_row class uses = row class NoCondition operand leaf uses Back.Nothing SeriesRole.Series

abbrev pub a_condition : ConditionClass → Takes → Uses → Back → Kind
a_condition class takes uses back = row NoOperand class condition takes uses back SeriesRole.Neither

-- ---- the rows

-- "Kinds: 1 Const (constant, finite); 2 Ref (n = slot, below K); 3 Price (selector 0..6: open, high, low, close, volume,
-- hlc3, ohlc4); 4 Prev (n; one operand); 5..8 Add, Sub, Mul, Div, 16..21 Gt, Lt, Ge, Le, Eq, Ne and 22, 23 CrossAbove,
-- CrossBelow (two operands); 24 Between (value, low, high); 25, 26 Rising, Falling (n; one operand); 27, 28 All, Any (0 or
-- more conditions); 29 Not (one condition); 30 InPosition (selector 0 or 1); 31 BarsSinceEntry (selector 0..4: Gt, Lt, Ge,
-- Le, Eq; n = k)."
abbrev pub no_kind : Kind
no_kind = row NoOperand NoCondition 0 leaf (selector_below 0) Back.Nothing SeriesRole.Neither

abbrev pub constant : Kind
constant = an_operand Const leaf the_constant Back.Nothing

abbrev pub reference : Kind
reference = a_leaf_of_each_row Ref slot_below_k

abbrev pub price : Kind
price = a_leaf_of_each_row Price (selector_below 7)

abbrev pub previous : Kind
previous = an_operand Prev (operands 1) its_number Back.ItsN

abbrev pub arithmetic : Kind
arithmetic = an_operand Arith (operands 2) kind_alone Back.Nothing

-- "Kinds 9 and 10, Highest and Lowest, take n from 1 to 4,095 and one child that must be a Price or a Ref." (request 8)
abbrev pub extremum : Kind
extremum = row Extreme NoCondition operand (operands 1) how_many_bars Back.BarsBefore SeriesRole.OverSeries

abbrev pub comparison : Kind
comparison = a_condition Compare (operands 2) kind_alone Back.Nothing

abbrev pub crossing : Kind
crossing = a_condition Cross (operands 2) kind_alone Back.OneBar

abbrev pub between : Kind
between = a_condition Between (operands 3) kind_alone Back.Nothing

abbrev pub trend : Kind
trend = a_condition Trend (operands 1) its_number Back.ItsN

abbrev pub all_of : Kind
all_of = a_condition All (conditions Children.AsWritten) kind_alone Back.Nothing

abbrev pub any_of : Kind
any_of = a_condition Any (conditions Children.AsWritten) kind_alone Back.Nothing

abbrev pub negation : Kind
negation = a_condition Not (conditions (Children.Exactly 1)) kind_alone Back.Nothing

abbrev pub position : Kind
position = a_condition InPosition leaf (selector_below 2) Back.Nothing

abbrev pub bars_since : Kind
bars_since = a_condition BarsSince leaf (number_and_selector_below 5) Back.Nothing

-- The rows by name.
unfoldable pub row_named : Row → Kind
row_named Row.Unknown = no_kind
row_named Row.Const = constant
row_named Row.Ref = reference
row_named Row.Price = price
row_named Row.Prev = previous
row_named Row.Arith = arithmetic
row_named Row.Extreme = extremum
row_named Row.Compare = comparison
row_named Row.Cross = crossing
row_named Row.Between = between
row_named Row.Trend = trend
row_named Row.All = all_of
row_named Row.Any = any_of
row_named Row.Not = negation
row_named Row.InPosition = position
row_named Row.BarsSince = bars_since

-- "How many children each kind takes, and of which sort, stands in one constant table indexed by kind."
unfoldable pub kinds : List Kind
kinds =
    no_kind ∷ constant ∷ reference ∷ price ∷ previous ∷
    arithmetic ∷ arithmetic ∷ arithmetic ∷ arithmetic ∷
    extremum ∷ extremum ∷ no_kind ∷ no_kind ∷ no_kind ∷ no_kind ∷ no_kind ∷
    comparison ∷ comparison ∷ comparison ∷ comparison ∷ comparison ∷ comparison ∷
    crossing ∷ crossing ∷ between ∷ trend ∷ trend ∷ all_of ∷ any_of ∷ negation ∷ position ∷ bars_since ∷ []

unfoldable pub kind_of : ℕ → Kind
kind_of k = get_or kinds k no_kind

-- The tests: the conditions that stand over operands.
unfoldable pub is_test_kind : ℕ → Bool
is_test_kind k = eqb (kind_of k).sort condition && eqb (kind_of k).below operand

-- ---- the version that a kind came with

abbrev pub second_version : ℕ
second_version = 2

-- Of kinds 0 to 31, 0 where there is no such kind; "Kinds 9 and 10" came with version 2 (request 8). It is no part of a row, so that
-- kinds of one row may come with different versions.
unfoldable pub versions : List ℕ
versions =
    0 ∷ 1 ∷ 1 ∷ 1 ∷ 1 ∷ 1 ∷ 1 ∷ 1 ∷ 1 ∷ 2 ∷ 2 ∷ 0 ∷ 0 ∷ 0 ∷ 0 ∷ 0 ∷
    1 ∷ 1 ∷ 1 ∷ 1 ∷ 1 ∷ 1 ∷ 1 ∷ 1 ∷ 1 ∷ 1 ∷ 1 ∷ 1 ∷ 1 ∷ 1 ∷ 1 ∷ 1 ∷ []

unfoldable pub since_of : ℕ → ℕ
since_of k = get_or versions k 0
