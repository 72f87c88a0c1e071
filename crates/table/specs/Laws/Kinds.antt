-- THE VIEW of a node's kind: one case for each class of operands and one for each class of conditions, with what the table
-- of kinds says there. Whoever goes by the kind of a node goes by these cases.
-- Assumes nothing.
use Rattle.std.specs.Prelude.{◌≡◌, refl, Bool, true, cond, ◌&&◌, List, ℕ, ◌+◌, ◌-◌, ◌≤◌, ◌<◌, get_or, leb, eqb}
use Rattle.words.specs.Prelude.{sym, ◌∙◌, ap, true≢false, ⊎_elim, arith, eq-zero-or-pos}
use Rattle.words.specs.Prelude.{List·get_or-eq_default, leb-true, eqb-true, eq-eqb}
use Rattle.table.specs.{declared.kinds.Children.Children, declared.kinds.Kind.Kind, declared.kinds.OperandClass.OperandClass}
use Rattle.table.specs.{declared.kinds.OperandClass.TheVariants.NoOperand}
use Rattle.table.specs.{declared.kinds.OperandClass.TheVariants.Const, declared.kinds.OperandClass.TheVariants.Ref}
use Rattle.table.specs.{declared.kinds.OperandClass.TheVariants.Price, declared.kinds.OperandClass.TheVariants.Prev}
use Rattle.table.specs.{declared.kinds.OperandClass.TheVariants.Arith, declared.kinds.OperandClass.TheVariants.Extreme}
use Rattle.table.specs.{declared.kinds.ConditionClass.ConditionClass, declared.kinds.ConditionClass.TheVariants.NoCondition}
use Rattle.table.specs.{declared.kinds.ConditionClass.TheVariants.Compare, declared.kinds.ConditionClass.TheVariants.Cross}
use Rattle.table.specs.{declared.kinds.ConditionClass.TheVariants.Between, declared.kinds.ConditionClass.TheVariants.Trend}
use Rattle.table.specs.{declared.kinds.ConditionClass.TheVariants.All, declared.kinds.ConditionClass.TheVariants.Any}
use Rattle.table.specs.{declared.kinds.ConditionClass.TheVariants.Not, declared.kinds.ConditionClass.TheVariants.InPosition}
use Rattle.table.specs.{declared.kinds.ConditionClass.TheVariants.BarsSince, Kinds.kinds, Kinds.kind_of, Kinds.no_kind, Kinds.constant, Kinds.reference}
use Rattle.table.specs.{Kinds.price, Kinds.previous, Kinds.arithmetic, Kinds.extremum, Kinds.takes_series, Kinds.comparison, Kinds.crossing, Kinds.between}
use Rattle.table.specs.{Kinds.trend, Kinds.all_of, Kinds.any_of, Kinds.negation, Kinds.position, Kinds.bars_since, Kinds.second_version, Kinds.versions}
use Rattle.table.specs.{Kinds.since_of, Ends.from, Laws.Header.and_parts, Laws.Ends.from_at}
use Rattle.table.specs.Named as Named

-- ---- what holds of the 32 rows, and of no row past them

-- two functions with the same list of values agree there
pub of_rows : {A : Type 0} (f g : ℕ → A) → from f 32 0 ≡ from g 32 0 → (k : ℕ) → k < 32 → f k ≡ g k
of_rows {A} f g h k l =
    let place : 0 + k ≡ k = omega arith in
    rw place at (sym (from_at f (f 0) 32 0 k l) ∙ ap (λ (xs : List A). get_or xs k (f 0)) h ∙ from_at g (f 0) 32 0 k l)

past_rows : (k : ℕ) → 32 ≤ k → kind_of k ≡ no_kind
unfolding kind_of kinds
past_rows k h = List·get_or-eq_default kinds no_kind h

-- a kind that has a sort has a row
pub known : (k : ℕ) (row : Kind) → kind_of k ≡ row → 0 < row.sort → k < 32
known k row h some = ⊎_elim
    (λ z. omega arith)
    (λ z. absurd (none (sym h ∙ past_rows k (omega arith))))
    (eq-zero-or-pos (k - 31))
  where
    none : row ≡ no_kind → ⊥
    none e = let z : row.sort ≡ 0 = ap (λ (r : Kind). r.sort) e in omega arith

-- where the rows of a sort are as one of their columns tells them, so is a kind's row
as_told : ℕ → (Kind → Kind) → ℕ → Kind
as_told sort row k = cond (eqb (kind_of k).sort sort) (row (kind_of k)) (kind_of k)

as_told_lem : (sort : ℕ) (row : Kind → Kind) → from kind_of 32 0 ≡ from (as_told sort row) 32 0
    → (k : ℕ) → k < 32 → (kind_of k).sort ≡ sort → kind_of k ≡ row (kind_of k)
unfolding as_told
as_told_lem sort row all k l s = of_rows kind_of (as_told sort row) all k l ∙ rw (eq-eqb (kind_of k).sort sort s)

-- a number tested from both sides
in_range : (low high k : ℕ) → (leb low k && leb k high) ≡ true → (low ≤ k) × (k ≤ high)
in_range low high k h =
    let sides = and_parts (leb low k) (leb k high) h in
    (leb-true low k sides.0, leb-true k high sides.1)

-- ---- operands

pub data OperandKind (k : ℕ) : Type 0 where
  a_const : k ≡ Named.const → kind_of k ≡ constant → OperandKind k
  a_ref : k ≡ Named.ref → kind_of k ≡ reference → OperandKind k
  a_price : k ≡ Named.price → kind_of k ≡ price → OperandKind k
  a_prev : k ≡ Named.prev → kind_of k ≡ previous → OperandKind k
  an_arith : kind_of k ≡ arithmetic → OperandKind k
  an_extreme : kind_of k ≡ extremum → OperandKind k

-- the row of a class, and the numbers of its kinds
operand_row : OperandClass → Kind
operand_row NoOperand = no_kind
operand_row Const = constant
operand_row Ref = reference
operand_row Price = price
operand_row Prev = previous
operand_row Arith = arithmetic
operand_row Extreme = extremum

operand_number : OperandClass → ℕ → Bool
operand_number NoOperand k = true
operand_number Const k = eqb k Named.const
operand_number Ref k = eqb k Named.ref
operand_number Price k = eqb k Named.price
operand_number Prev k = eqb k Named.prev
operand_number Arith k = leb Named.add k && leb k Named.div
operand_number Extreme k = leb Named.highest k && leb k Named.lowest

operand_row_lem : (k : ℕ) → k < 32 → (kind_of k).sort ≡ 1 → kind_of k ≡ operand_row (kind_of k).operand
operand_row_lem = as_told_lem 1 (λ row. operand_row row.operand) (unfold from as_told kind_of kinds operand_row in refl)

operand_number_lem : (k : ℕ) → k < 32 → operand_number (kind_of k).operand k ≡ true
operand_number_lem k l =
    of_rows (λ i. operand_number (kind_of i).operand i) (λ i. true) (unfold from kind_of kinds operand_number in refl) k l

pub operand_kind : (k : ℕ) → (kind_of k).sort ≡ 1 → OperandKind k
unfolding operand_row operand_number
operand_kind k s = go (kind_of k).operand (operand_row_lem k low s) (operand_number_lem k low)
  where
    low : k < 32
    low = known k (kind_of k) refl (omega arith)

    go : (c : OperandClass) → kind_of k ≡ operand_row c → operand_number c k ≡ true → OperandKind k
    go NoOperand r n = absurd (omega (arith, s, ap (λ (row : Kind). row.sort) r))
    go Const r n = a_const (eqb-true k Named.const n) r
    go Ref r n = a_ref (eqb-true k Named.ref n) r
    go Price r n = a_price (eqb-true k Named.price n) r
    go Prev r n = a_prev (eqb-true k Named.prev n) r
    go Arith r n = an_arith r
    go Extreme r n = an_extreme r

-- "5..8 Add, Sub, Mul, Div"
pub arith_numbers : (k : ℕ) → kind_of k ≡ arithmetic → (Named.add ≤ k) × (k ≤ Named.div)
unfolding operand_number
arith_numbers k r =
    in_range Named.add Named.div k (rw r at (operand_number_lem k (known k arithmetic r (omega arith))))

-- "Kinds 9 and 10, Highest and Lowest"
pub extreme_numbers : (k : ℕ) → kind_of k ≡ extremum → (Named.highest ≤ k) × (k ≤ Named.lowest)
unfolding operand_number
extreme_numbers k r =
    in_range Named.highest Named.lowest k (rw r at (operand_number_lem k (known k extremum r (omega arith))))

-- and they came with version 2
extreme_since : ℕ → ℕ
extreme_since k = cond (takes_series (kind_of k).series) (since_of k) second_version

pub extreme_since_lem : (k : ℕ) → kind_of k ≡ extremum → since_of k ≡ second_version
unfolding extreme_since
extreme_since_lem k r =
    let low : k < 32 = known k extremum r (omega arith) in
    rw r at (of_rows extreme_since (λ i. second_version) (unfold from kind_of kinds since_of versions extreme_since in refl) k low)

-- what takes a series takes one child
children_over_series : ℕ → Children
children_over_series k = cond (takes_series (kind_of k).series) (kind_of k).children (Children.Exactly 1)

children_over_series_lem : (k : ℕ) → k < 32 → children_over_series k ≡ Children.Exactly 1
children_over_series_lem = of_rows children_over_series (λ i. Children.Exactly 1) (unfold from kind_of kinds children_over_series in refl)

pub over_series_one : (k : ℕ) → takes_series (kind_of k).series ≡ true → (kind_of k).children ≡ Children.Exactly 1
unfolding children_over_series
over_series_one k h = ⊎_elim
    (λ z. rw h at (children_over_series_lem k (omega arith)))
    (λ z. absurd (true≢false (sym h ∙ ap (λ (r : Kind). takes_series r.series) (past_rows k (omega arith)))))
    (eq-zero-or-pos (k - 31))

-- ---- conditions

pub data ConditionKind (k : ℕ) : Type 0 where
  a_compare : kind_of k ≡ comparison → ConditionKind k
  a_cross : kind_of k ≡ crossing → ConditionKind k
  a_between : k ≡ Named.between → kind_of k ≡ between → ConditionKind k
  a_trend : kind_of k ≡ trend → ConditionKind k
  an_all : k ≡ Named.all → kind_of k ≡ all_of → ConditionKind k
  an_any : k ≡ Named.any → kind_of k ≡ any_of → ConditionKind k
  a_not : k ≡ Named.not → kind_of k ≡ negation → ConditionKind k
  a_position : k ≡ Named.in_position → kind_of k ≡ position → ConditionKind k
  a_count : k ≡ Named.bars_since_entry → kind_of k ≡ bars_since → ConditionKind k

condition_row : ConditionClass → Kind
condition_row NoCondition = no_kind
condition_row Compare = comparison
condition_row Cross = crossing
condition_row Between = between
condition_row Trend = trend
condition_row All = all_of
condition_row Any = any_of
condition_row Not = negation
condition_row InPosition = position
condition_row BarsSince = bars_since

condition_number : ConditionClass → ℕ → Bool
condition_number NoCondition k = true
condition_number Compare k = leb Named.gt k && leb k Named.ne
condition_number Cross k = leb Named.cross_above k && leb k Named.cross_below
condition_number Between k = eqb k Named.between
condition_number Trend k = leb Named.rising k && leb k Named.falling
condition_number All k = eqb k Named.all
condition_number Any k = eqb k Named.any
condition_number Not k = eqb k Named.not
condition_number InPosition k = eqb k Named.in_position
condition_number BarsSince k = eqb k Named.bars_since_entry

condition_row_lem : (k : ℕ) → k < 32 → (kind_of k).sort ≡ 2 → kind_of k ≡ condition_row (kind_of k).condition
condition_row_lem = as_told_lem 2 (λ row. condition_row row.condition) (unfold from as_told kind_of kinds condition_row in refl)

condition_number_lem : (k : ℕ) → k < 32 → condition_number (kind_of k).condition k ≡ true
condition_number_lem k l =
    of_rows (λ i. condition_number (kind_of i).condition i) (λ i. true) (unfold from kind_of kinds condition_number in refl) k l

pub condition_kind : (k : ℕ) → (kind_of k).sort ≡ 2 → ConditionKind k
unfolding condition_row condition_number
condition_kind k s = go (kind_of k).condition (condition_row_lem k low s) (condition_number_lem k low)
  where
    low : k < 32
    low = known k (kind_of k) refl (omega arith)

    go : (c : ConditionClass) → kind_of k ≡ condition_row c → condition_number c k ≡ true → ConditionKind k
    go NoCondition r n = absurd (omega (arith, s, ap (λ (row : Kind). row.sort) r))
    go Compare r n = a_compare r
    go Cross r n = a_cross r
    go Between r n = a_between (eqb-true k Named.between n) r
    go Trend r n = a_trend r
    go All r n = an_all (eqb-true k Named.all n) r
    go Any r n = an_any (eqb-true k Named.any n) r
    go Not r n = a_not (eqb-true k Named.not n) r
    go InPosition r n = a_position (eqb-true k Named.in_position n) r
    go BarsSince r n = a_count (eqb-true k Named.bars_since_entry n) r

-- "16..21 Gt, Lt, Ge, Le, Eq, Ne and 22, 23 CrossAbove, CrossBelow"
pub compare_numbers : (k : ℕ) → kind_of k ≡ comparison → (Named.gt ≤ k) × (k ≤ Named.ne)
unfolding condition_number
compare_numbers k r =
    in_range Named.gt Named.ne k (rw r at (condition_number_lem k (known k comparison r (omega arith))))

pub cross_numbers : (k : ℕ) → kind_of k ≡ crossing → (Named.cross_above ≤ k) × (k ≤ Named.cross_below)
unfolding condition_number
cross_numbers k r =
    in_range Named.cross_above Named.cross_below k (rw r at (condition_number_lem k (known k crossing r (omega arith))))
