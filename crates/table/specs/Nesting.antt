-- Rule 8: nesting. Definitions only.
use Rattle.std.specs.Prelude.{List, ℕ, zero, suc, None, Option, Some}
use Rattle.words.specs.{Limits.most_nesting}
use Rattle.table.specs.{Order.or_place}
use Rattle.table.specs.{Order.of_four, Forest.Forest, Forest.none, Forest.tree, Forest.forest_of}

-- the first node, and so the lowest, with more than l levels down to it, itself counted
unfoldable pub deeper : ℕ → Forest → Option ℕ
deeper l none = None
deeper zero (tree n below rest) = Some n.number
deeper (suc l) (tree n below rest) = or_place (deeper l below) (deeper (suc l) rest)

-- "8 nesting above 32 (root is 1): lowest such node". Operands count too.
unfoldable pub too_deep : List ℕ → Option ℕ
too_deep t = of_four (λ x. deeper most_nesting (forest_of t x))
