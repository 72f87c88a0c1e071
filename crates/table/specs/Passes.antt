-- What the parts of the check promise each other while they work: statements about the arrays that the passes fill.
-- Definitions only, and none of them is in a promise of `check`.
use Rattle.std.specs.Prelude.{◌≡◌, cond, List, ◌∷◌, ℕ, ◌+◌, ◌-◌, ◌*◌, ◌≤◌, ◌<◌, min, length, get_or, ltb, Option, Some}
use Rattle.words.specs.{Limits.most_rows, Limits.most_nodes}
use Rattle.table.specs.{declared.weighing.Weight.Weight, declared.trees.Roots.Roots, declared.nodes.Node.Node}
use Rattle.table.specs.{Header.total, Header.root}
use Rattle.table.specs.{Nodes.sort_at, Nodes.child_count_at, Order.fits, Forest.first_trees, Forest.trees, Reach.weigh, Reach.own_back, Ends.Linked}

-- From here on a word is no end, but a place and as much more.
abbrev pub misfit_from : ℕ
misfit_from = 512

-- Rule 7. Node i's word v, of a tree's nodes below e, is the end of the subtree that begins at node i, or `misfit_from` more than the
-- place where that subtree stops fitting. `skips` says so in the terms of rule 7, whatever is wanted next.
unfoldable pub fits_after : List ℕ → ℕ → ℕ → List ℕ → Option ℕ
fits_after t e v ws = cond (ltb v misfit_from) (fits t (e - v) v ws) (Some (v - misfit_from))

pub record Ended (t : List ℕ) (e i v : ℕ) : Type 0 where
  pub skips : (ws : List ℕ) → fits t (e - i) i (sort_at t i ∷ ws) ≡ fits_after t e v ws
  pub beyond : v < misfit_from → i < v
  pub within : v < misfit_from → v ≤ e
  pub small : v < 2 * misfit_from

-- the array `ends` has the words of the nodes from b up to e
unfoldable pub EndedFrom : List ℕ → List ℕ → ℕ → ℕ → Type 0
EndedFrom t ends b e = (j : ℕ) → b ≤ j → j < e → Ended t e j (get_or ends j 0)

-- what the pass over one tree, of the nodes from b up to e, does to the array
pub record Ordered (t : List ℕ) (b e : ℕ) (given ends : List ℕ) : Type 0 where
  pub known : EndedFrom t ends b e
  pub below : (j : ℕ) → j < b → get_or ends j 0 ≡ get_or given j 0
  pub above : (j : ℕ) → e ≤ j → get_or ends j 0 ≡ get_or given j 0

-- Rules 8 and 9. The array of words: node j's is what its subtree weighs, capped at 4,096. What is
-- weighed is levels, or bars back.
unfoldable pub weight : Weight → Node → ℕ
weight Weight.Levels n = 1
weight Weight.Bars n = own_back n

unfoldable pub WordsFrom : List ℕ → List ℕ → (Node → ℕ) → ℕ → ℕ → Type 0
WordsFrom t words w b e = (j : ℕ) → b ≤ j → j < e → get_or words j 0 ≡ min (weigh w (first_trees 1 (trees t (e - j) j))) most_rows

-- r is the greatest word of node i's children
unfoldable pub Most : List ℕ → List ℕ → ℕ → ℕ → ℕ → Type 0
Most t words i e r =
    (w : Node → ℕ) → WordsFrom t words w (i + 1) e → r ≡ min (weigh w (first_trees (child_count_at t i) (trees t (e - (i + 1)) (i + 1)))) most_rows

-- The four trees: their roots and the table's end, and what the array says of all of them.
pub record AreRoots (t : List ℕ) (roots : Roots) : Type 0 where
  pub one : roots.exit ≡ root t 1
  pub two : roots.short_entry ≡ root t 2
  pub three : roots.short_exit ≡ root t 3
  pub four : roots.end ≡ root t 4
  pub all : roots.end ≡ total t
  pub small : roots.end ≤ most_nodes
  pub low : roots.exit ≤ roots.short_entry
  pub mid : roots.short_entry ≤ roots.short_exit
  pub high : roots.short_exit ≤ roots.end

pub record EndedAll (t ends : List ℕ) (roots : Roots) : Type 0 where
  pub entry : EndedFrom t ends 0 roots.exit
  pub exit : EndedFrom t ends roots.exit roots.short_entry
  pub short_entry : EndedFrom t ends roots.short_entry roots.short_exit
  pub short_exit : EndedFrom t ends roots.short_exit roots.end
  pub past : (j : ℕ) → roots.end ≤ j → get_or ends j 0 ≡ 0
  pub long : length ends ≡ most_nodes

pub record LinkedTree (t ends : List ℕ) (b e : ℕ) : Type 0 where
  pub links : Linked t ends b e
  pub ends_at : b < e → get_or ends b 0 ≡ e

pub record LinkedAll (t ends : List ℕ) (roots : Roots) : Type 0 where
  pub entry : LinkedTree t ends 0 roots.exit
  pub exit : LinkedTree t ends roots.exit roots.short_entry
  pub short_entry : LinkedTree t ends roots.short_entry roots.short_exit
  pub short_exit : LinkedTree t ends roots.short_exit roots.end
