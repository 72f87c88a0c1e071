-- Rule 9: how far back a tree reads. Definitions only.
use Rattle.std.specs.Prelude.{cond, List, ℕ, ◌+◌, ◌-◌, max, ltb, None, Option, Some}
use Rattle.words.specs.{Limits.most_reach}
use Rattle.table.specs.{declared.kinds.Kind.Kind, declared.kinds.Back.Back, declared.nodes.Node.Node}
use Rattle.table.specs.{Kinds.kind_of, Header.root, Order.of_four, Forest.Forest, Forest.none, Forest.tree}
use Rattle.table.specs.{Forest.forest_of}

-- "Reach: 0 for leaves, else the greatest child's (0 if none); Prev, Rising and Falling add n, a cross adds 1."
-- "The reach is n − 1 plus the child's" (request 8). What a node adds stands in its kind's row.
abbrev pub back_by : ℕ → Back → ℕ
back_by n Back.Nothing = 0
back_by n Back.ItsN = n
back_by n Back.OneBar = 1
back_by n Back.BarsBefore = n - 1

unfoldable pub back : Node → Kind → ℕ
back n w = back_by n.n w.back

unfoldable pub own_back : Node → ℕ
own_back n = back n (kind_of n.kind)

-- the greatest sum of the nodes' own weights along a way down
unfoldable pub weigh : (Node → ℕ) → Forest → ℕ
weigh w none = 0
weigh w (tree n below rest) = max (w n + weigh w below) (weigh w rest)

unfoldable pub forest_reach : Forest → ℕ
forest_reach f = weigh own_back f

unfoldable pub tree_reach : List ℕ → ℕ → ℕ
tree_reach t x = forest_reach (forest_of t x)

-- "9 a reach above 4,095: first such tree's root"
unfoldable pub far_at : ℕ → ℕ → Option ℕ
far_at r b = cond (ltb most_reach r) (Some b) None

unfoldable pub too_far : List ℕ → Option ℕ
too_far t = of_four (λ x. far_at (tree_reach t x) (root t x))

-- "rows = greatest reach + 1"
unfoldable pub rows_needed : List ℕ → ℕ
rows_needed t = max (max (tree_reach t 0) (tree_reach t 1)) (max (tree_reach t 2) (tree_reach t 3)) + 1
