-- Rule 7: "each tree in prefix order". Definitions only.
use Rattle.std.specs.Prelude.{cond, List, [], ◌∷◌, ◌++◌, ℕ, zero, suc, ◌+◌, replicate, eqb, None, Option, Some}
use Rattle.table.specs.{Header.count}
use Rattle.table.specs.{Header.root, Nodes.sort_at, Nodes.child_count_at, Nodes.child_sort_at, Nodes.child_fits_at}

-- Do the m nodes from node i on fit the sorts that are wanted, one tree in prefix order for each? A node of the wanted sort
-- stands there, and its children are wanted next. If not, the place:
-- "first node that cannot stand there; just past a tree's count if cut short; just past its last fitting node if complete
-- too soon". "a wrong child is 7": Highest or Lowest over what is no Price and no Ref stops at that child.
unfoldable pub fits : List ℕ → ℕ → ℕ → List ℕ → Option ℕ
fits t zero i [] = None
fits t zero i (w ∷ ws) = Some i
fits t (suc m) i [] = Some i
fits t (suc m) i (w ∷ ws) =
    cond (eqb (sort_at t i) w)
    (cond (child_fits_at t i) (fits t m (i + 1) (replicate (child_count_at t i) (child_sort_at t i) ++ ws)) (Some (i + 1)))
    (Some i)

-- the tree of the m nodes from node b on: one condition; absent where m is 0
unfoldable pub misfit : List ℕ → ℕ → ℕ → Option ℕ
misfit t m b = cond (eqb m 0) None (fits t m b (2 ∷ []))

unfoldable pub or_place : Option ℕ → Option ℕ → Option ℕ
or_place None q = q
or_place (Some p) q = Some p

abbrev pub first_place : Option ℕ → Option ℕ → Option ℕ → Option ℕ → Option ℕ
first_place p q r s = or_place p (or_place q (or_place r s))

-- the first place that one of the four trees gives; their nodes rise with the trees, so it is the lowest
unfoldable pub of_four : (ℕ → Option ℕ) → Option ℕ
of_four f = first_place (f 0) (f 1) (f 2) (f 3)

-- "7 a tree's sorts or extent wrong"
unfoldable pub misfits : List ℕ → Option ℕ
misfits t = of_four (λ x. misfit t (count t x) (root t x))
