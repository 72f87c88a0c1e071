-- The array of subtree ends. Definitions only.
use Rattle.std.specs.Prelude.{◌≡◌, cond, List, [], ◌∷◌, ℕ, zero, suc, ◌+◌, ◌-◌, ◌≤◌, ◌<◌, get_or, replicate, ltb, Err, None, Ok, Option, Result, Some}
use Rattle.words.specs.{Limits.most_nodes}
use Rattle.table.specs.{Header.root, Nodes.sort_at, Order.fits, Forest.first_trees, Forest.other_trees, Forest.trees, Forest.size, Checked.checked}
use Rattle.words.specs.{declared.refusal.Refusal.Refusal}
use Rattle.table.specs.{declared.answer.Accepted.Accepted}

-- "While reading, the checker keeps the end of the subtree for each of the 256 nodes."
-- The end of the subtree that begins at node i, with m nodes from there to its tree's end: the place where one tree of its
-- sort is complete.
unfoldable pub place_or : ℕ → Option ℕ → ℕ
place_or e None = e
place_or e (Some p) = p

unfoldable pub end_at : List ℕ → ℕ → ℕ → ℕ
end_at t m i = place_or (i + m) (fits t m i (sort_at t i ∷ []))

-- node j's end, in the tree that it stands in; 0 past the last tree
unfoldable pub end_of_node : List ℕ → ℕ → ℕ
end_of_node t j =
    cond (ltb j (root t 1)) (end_at t (root t 1 - j) j)
    (cond (ltb j (root t 2)) (end_at t (root t 2 - j) j)
    (cond (ltb j (root t 3)) (end_at t (root t 3 - j) j)
    (cond (ltb j (root t 4)) (end_at t (root t 4 - j) j) 0)))

-- f at i, i + 1, .. : m of them
unfoldable pub from : {A : Type 0} → (ℕ → A) → ℕ → ℕ → List A
from f zero i = []
from f (suc m) i = f i ∷ from f m (i + 1)

unfoldable pub ends_all : List ℕ → List ℕ
ends_all t = from (end_of_node t) most_nodes 0

-- the array beside an answer: zeros beside a refusal (decided)
unfoldable pub ends_for : Result Accepted Refusal → List ℕ → List ℕ
ends_for (Ok accepted) ends = ends
ends_for (Err why) ends = replicate most_nodes 0

unfoldable pub ends_beside : List ℕ → List ℕ
ends_beside t = ends_for (checked t) (ends_all t)

-- The array `ends` leads from each of a tree's nodes, b up to e, to the trees after the subtree that begins there.
pub record Link (t : List ℕ) (e j v : ℕ) : Type 0 where
  pub beyond : j < v
  pub within : v ≤ e
  pub next : other_trees 1 (trees t (e - j) j) ≡ trees t (e - v) v
  pub counts : v ≡ j + size (first_trees 1 (trees t (e - j) j))

unfoldable pub Linked : List ℕ → List ℕ → ℕ → ℕ → Type 0
Linked t ends b e = (j : ℕ) → b ≤ j → j < e → Link t e j (get_or ends j 0)
