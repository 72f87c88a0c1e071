-- What a window that is too short does to a rule: each test that reaches back beyond it is struck out. Definitions only.
use Rattle.std.specs.Prelude.{ℕ, cond}
use Rattle.table.specs.{Trees.Condition, Trees.Conditions, Trees.compare, Trees.cross, Trees.between, Trees.trend, Trees.every, Trees.any, Trees.negated}
use Rattle.table.specs.{Trees.in_position, Trees.bars_since, Trees.none, Trees.more, Silent.silent}

-- A test, or in its place Any of none, which is no, where it falls silent over d rows.
unfoldable pub unless_silent : ℕ → Condition → Condition
unless_silent d c = cond (silent d c) (any none) c

-- A condition with each test that falls silent over d rows replaced by no. All and Any keep their children, Not its condition.
unfoldable mutual
  pub struck_out : ℕ → Condition → Condition
  struck_out d (compare kind a b) = unless_silent d (compare kind a b)
  struck_out d (cross kind a b) = unless_silent d (cross kind a b)
  struck_out d (between x low high) = unless_silent d (between x low high)
  struck_out d (trend kind a n) = unless_silent d (trend kind a n)
  struck_out d (every cs) = every (struck_out_all d cs)
  struck_out d (any cs) = any (struck_out_all d cs)
  struck_out d (negated c) = negated (struck_out d c)
  struck_out d (in_position wanted) = in_position wanted
  struck_out d (bars_since selector k) = bars_since selector k

  pub struck_out_all : ℕ → Conditions → Conditions
  struck_out_all d none = none
  struck_out_all d (more c cs) = more (struck_out d c) (struck_out_all d cs)
