-- The tests of a table that fall silent over so few rows. Definitions only.
use Rattle.std.specs.Prelude.{ℕ, ◌+◌, ◌<◌, min, Bool, true, false, cond, ◌&&◌, List, [], ◌∷◌, ◌++◌, ltb, leb, length, drop, set, Err, Ok, Result}
use Rattle.words.specs.{Limits.most_rows}
use Rattle.table.specs.{declared.nodes.Node.Node}
use Rattle.table.specs.{Kinds.is_test_kind, Header.root}
use Rattle.table.specs.{Forest.Forest, Forest.forest_of, Reach.own_back, Reach.weigh, Trees.Condition, Trees.Conditions, Trees.compare, Trees.cross}
use Rattle.table.specs.{Trees.between, Trees.trend, Trees.every, Trees.any, Trees.negated, Trees.in_position, Trees.bars_since, Trees.none, Trees.more}
use Rattle.table.specs.{Trees.reach_of, Reading.tree_of, Writing.nodes_of, Laws.Accepted.WholeTree}
use Rattle.words.specs.{declared.refusal.Refusal.Refusal}
use Rattle.table.specs.{declared.answer.Accepted.Accepted}

-- The tests: a comparison, a cross, Between, Rising and Falling. All else only joins their answers, or reads the position.
unfoldable pub is_test : Condition → Bool
is_test (compare kind a b) = true
is_test (cross kind a b) = true
is_test (between x low high) = true
is_test (trend kind a n) = true
is_test (every cs) = false
is_test (any cs) = false
is_test (negated c) = false
is_test (in_position wanted) = false
is_test (bars_since selector k) = false

-- A test falls silent over d rows where it reaches back d bars or more.
unfoldable pub silent : ℕ → Condition → Bool
silent d c = is_test c && leb d (reach_of c)

-- ---- by their node numbers, in table order

-- a test with node number i, where it falls silent
unfoldable pub if_silent : ℕ → Condition → ℕ → List ℕ
if_silent d c i = cond (silent d c) (i ∷ []) []

-- Those of a condition whose own node is number i: its children follow it, "each tree in prefix order".
unfoldable mutual
  pub silent_in : ℕ → Condition → ℕ → List ℕ
  silent_in d (compare kind a b) i = if_silent d (compare kind a b) i
  silent_in d (cross kind a b) i = if_silent d (cross kind a b) i
  silent_in d (between x low high) i = if_silent d (between x low high) i
  silent_in d (trend kind a n) i = if_silent d (trend kind a n) i
  silent_in d (every cs) i = silent_in_all d cs (i + 1)
  silent_in d (any cs) i = silent_in_all d cs (i + 1)
  silent_in d (negated c) i = silent_in d c (i + 1)
  silent_in d (in_position wanted) i = []
  silent_in d (bars_since selector k) i = []

  pub silent_in_all : ℕ → Conditions → ℕ → List ℕ
  silent_in_all d none i = []
  silent_in_all d (more c cs) i = silent_in d c i ++ silent_in_all d cs (i + nodes_of c)

-- Those of tree x, whose root is a node of the table, and of all four. "Nodes are numbered from 0 over the whole table."
unfoldable pub silent_of : List ℕ → ℕ → ℕ → List ℕ
silent_of t d x = silent_in d (tree_of t x) (root t x)

unfoldable pub silent_tests : List ℕ → ℕ → List ℕ
silent_tests t d = silent_of t d 0 ++ (silent_of t d 1 ++ (silent_of t d 2 ++ silent_of t d 3))

-- ---- the call

-- "1 to 9 come first"; then "10 a lent room below .. the bytes the call writes there": the list is room 18.
unfoldable pub silent_answer : Result Accepted Refusal → List ℕ → ℕ → Result ℕ Refusal
silent_answer (Err why) numbers places = Err why
silent_answer (Ok accepted) numbers places = cond (ltb places (length numbers)) (Err (Refusal.Room 18)) (Ok (length numbers))

-- The list afterwards: the numbers, and what stood past them. "A refusal .. changes nothing lent."
unfoldable pub list_after_answer : Result ℕ Refusal → List ℕ → List ℕ → List ℕ
list_after_answer (Err why) numbers list = list
list_after_answer (Ok n) numbers list = numbers ++ drop (length numbers) list

-- each tree has right bytes and right ends
unfoldable pub WholeTrees : List ℕ → List ℕ → Type 0
WholeTrees t ends = (x : ℕ) → x < 4 → WholeTree t ends (root t x) (root t (x + 1))

-- ---- as the code finds them: a node of a test's kind whose subtree weighs d bars or more, weights being capped at 4,096

unfoldable pub silent_node : ℕ → Node → ℕ → List ℕ
silent_node d n back = cond (is_test_kind n.kind && leb d (min back most_rows)) (n.number ∷ []) []

unfoldable pub silent_nodes : ℕ → Forest → List ℕ
silent_nodes d Forest.none = []
silent_nodes d (Forest.tree n below rest) = silent_node d n (own_back n + weigh own_back below) ++ (silent_nodes d below ++ silent_nodes d rest)

unfoldable pub four_silent : List ℕ → ℕ → List ℕ
four_silent t d =
    silent_nodes d (forest_of t 0) ++ (silent_nodes d (forest_of t 1) ++ (silent_nodes d (forest_of t 2) ++ silent_nodes d (forest_of t 3)))

-- numbers put into a list from place `at` on, where the list has a place
unfoldable pub put_all : List ℕ → ℕ → List ℕ → List ℕ
put_all list at [] = list
put_all list at (x ∷ xs) = put_all (set list at x) (at + 1) xs
