-- Trees in a row, as the nodes of a table make them in prefix order, whatever their bytes are. Definitions only.
use Rattle.std.specs.Prelude.{◌≡◌, true, List, [], ◌∷◌, ◌++◌, ℕ, zero, suc, ◌+◌, replicate}
use Rattle.table.specs.{declared.nodes.Node.Node, Kinds.kind_of, Header.count, Header.root, Nodes.node_at, Nodes.child_count, Nodes.child_count_at}
use Rattle.table.specs.{Nodes.child_fits}

-- no tree; or a node, the trees below it, and the trees after it
pub data Forest : Type 0 where
  none : Forest
  tree : Node → Forest → Forest → Forest

unfoldable pub first_trees : ℕ → Forest → Forest
first_trees zero f = none
first_trees (suc k) none = none
first_trees (suc k) (tree n below rest) = tree n below (first_trees k rest)

unfoldable pub other_trees : ℕ → Forest → Forest
other_trees zero f = f
other_trees (suc k) none = none
other_trees (suc k) (tree n below rest) = other_trees k rest

-- a node over its k children, which are the first k of the trees that follow it
unfoldable pub node_over : Node → ℕ → Forest → Forest
node_over n k f = tree n (first_trees k f) (other_trees k f)

-- the trees that the m nodes from node i on are, in prefix order
unfoldable pub trees : List ℕ → ℕ → ℕ → Forest
trees t zero i = none
trees t (suc m) i = node_over (node_at t i) (child_count_at t i) (trees t m (i + 1))

-- tree x of the table: 0 entry, 1 exit, 2 short entry, 3 short exit
unfoldable pub forest_of : List ℕ → ℕ → Forest
forest_of t x = trees t (count t x) (root t x)

-- How many nodes there are, and the nodes in prefix order.
unfoldable pub size : Forest → ℕ
size none = 0
size (tree n below rest) = 1 + size below + size rest

unfoldable pub flat : Forest → List Node
flat none = []
flat (tree n below rest) = n ∷ (flat below ++ flat rest)

-- the m nodes of the table from node i on
unfoldable pub nodes : List ℕ → ℕ → ℕ → List Node
nodes t zero i = []
nodes t (suc m) i = node_at t i ∷ nodes t m (i + 1)

-- The sorts of the trees in a row, and that each node has the children that its kind takes.
unfoldable pub sorts : Forest → List ℕ
sorts none = []
sorts (tree n below rest) = (kind_of n.kind).sort ∷ sorts rest

-- the first child of a node is one that it takes
unfoldable pub Fitting : Node → Forest → Type 0
Fitting n none = Unit
Fitting n (tree child below rest) = child_fits (kind_of n.kind) (kind_of child.kind) ≡ true

unfoldable pub Sorted : Forest → Type 0
Sorted none = Unit
Sorted (tree n below rest) =
    (sorts below ≡ replicate (child_count n (kind_of n.kind)) (kind_of n.kind).below) × Sorted below × Sorted rest × Fitting n below
