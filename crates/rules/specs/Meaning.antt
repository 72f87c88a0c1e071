-- "What a rule means": operands and conditions at a bar of a history. Definitions only.
use Rattle.std.specs.Prelude.{ℕ, zero, suc, ◌+◌, ◌-◌, Bool, true, false, not, cond, ◌&&◌, ◌||◌, ltb, eqb, Float, None, Option, Some}
use Rattle.floats.specs.{Floats.float_of}
use Rattle.rows.specs.{History.History}
use Rattle.table.specs.{declared.series.Series.Series, declared.series.Series.TheVariants.Price, declared.series.Series.TheVariants.Slot, Trees.Operand}
use Rattle.table.specs.{Trees.const, Trees.ref, Trees.price, Trees.prev, Trees.arith, Trees.extreme, Trees.Condition, Trees.Conditions, Trees.compare}
use Rattle.table.specs.{Trees.cross, Trees.between, Trees.trend, Trees.every, Trees.any, Trees.negated, Trees.in_position, Trees.bars_since, Trees.none}
use Rattle.table.specs.{Trees.more}
use Rattle.rules.specs.{declared.position.PositionState.PositionState, Values.price_of, Values.slot_of, Values.combined, Values.pick, Values.compared}
use Rattle.rules.specs.{Values.crossed, Values.within, Values.trended, Values.held, Values.counted_since}

-- "The newest bar is the last row's; with no rows it is bar 0, whose row does not exist."
unfoldable pub newest : History → ℕ
newest h = h.rows - 1

-- "An operand at bar i, even a Const, is missing if row i does not exist."
unfoldable pub there : History → ℕ → Option Float → Option Float
there h i v = cond (ltb i h.rows) v None

-- what is so many bars before bar i, or missing where there are not so many: "missing if i < n, else .. at i − n"
abbrev pub bars_back : (ℕ → Option Float) → ℕ → ℕ → Option Float
bars_back what n i = cond (ltb i n) None (what (i - n))

-- "one child that must be a Price or a Ref" (request 8): that child at bar i
unfoldable pub series_at : History → Series → ℕ → Option Float
series_at h (Price selector) i = there h i (Some (price_of (h.word i) selector))
series_at h (Slot slot) i = there h i (slot_of (h.word i) slot)

-- over bar `oldest` and the m after it: "it starts at the oldest, and a later one takes its place only if ..", one after the other
unfoldable pub extreme_over : History → ℕ → Series → ℕ → ℕ → Option Float
extreme_over h kind s oldest zero = series_at h s oldest
extreme_over h kind s oldest (suc m) = pick kind (extreme_over h kind s oldest m) (series_at h s (oldest + suc m))

-- "The answer is over the bar and the n − 1 before it, and missing if any is missing": missing too where there are not so many before it
unfoldable pub extreme_at : History → ℕ → Series → ℕ → ℕ → Option Float
extreme_at h kind s n i = bars_back (λ oldest. extreme_over h kind s oldest (n - 1)) (n - 1) i

-- `eval_operand`. "Prev is missing if i < n, else its operand at i − n."
unfoldable pub value : History → Operand → ℕ → Option Float
value h (const bits) i = there h i (Some (float_of bits))
value h (ref slot) i = there h i (slot_of (h.word i) slot)
value h (price selector) i = there h i (Some (price_of (h.word i) selector))
value h (prev a n) i = there h i (bars_back (value h a) n i)
value h (arith kind a b) i = combined kind (value h a i) (value h b i)
value h (extreme kind s n) i = extreme_at h kind s n i

-- `eval_condition`. "A cross is no at bar 0"; Rising and Falling are no where there is no bar n back.
unfoldable mutual
  pub holds : History → PositionState → Condition → ℕ → Bool
  holds h s (compare kind a b) i = compared kind (value h a i) (value h b i)
  holds h s (cross kind a b) i =
      not (eqb i 0) && crossed kind (value h a i) (value h b i) (value h a (i - 1)) (value h b (i - 1))
  holds h s (between x low high) i = within (value h x i) (value h low i) (value h high i)
  holds h s (trend kind a n) i = not (ltb i n) && trended kind (value h a i) (value h a (i - n))
  holds h s (every cs) i = all_hold h s cs i
  holds h s (any cs) i = any_holds h s cs i
  holds h s (negated c) i = not (holds h s c i)
  holds h s (in_position wanted) i = cond wanted (held s.qty) (not (held s.qty))
  holds h s (bars_since selector k) i = counted_since selector k s

  pub all_hold : History → PositionState → Conditions → ℕ → Bool
  all_hold h s none i = true
  all_hold h s (more c cs) i = holds h s c i && all_hold h s cs i

  pub any_holds : History → PositionState → Conditions → ℕ → Bool
  any_holds h s none i = false
  any_holds h s (more c cs) i = holds h s c i || any_holds h s cs i

-- What a rule says: its condition at the newest bar.
unfoldable pub says : History → PositionState → Condition → Bool
says h s c = holds h s c (newest h)
