-- Laws of trees in a row: how they come apart, and that their nodes in prefix order are the table's.
-- Assumes nothing.
use Rattle.std.specs.Prelude.{◌≡◌, refl, List, ◌∷◌, ◌++◌, ℕ, zero, suc, ◌+◌, ◌-◌, ◌≤◌, ◌<◌, replicate}
use Rattle.words.specs.Prelude.{sym, ◌∙◌, ap, append_assoc, arith, zero-add, suc-add}
use Rattle.table.specs.{declared.nodes.Node.Node, Nodes.node_at, Nodes.child_count_at, Forest.Forest, Forest.none, Forest.tree, Forest.first_trees}
use Rattle.table.specs.{Forest.other_trees, Forest.node_over, Forest.trees, Forest.size, Forest.flat, Forest.nodes, Forest.sorts, Forest.Sorted}

-- The nodes from node i up to e: how many are left.
pub left_suc : (e i : ℕ) → i < e → e - i ≡ suc (e - (i + 1))
left_suc e i h = omega arith

pub left_zero : (e i : ℕ) → e ≤ i → e - i ≡ 0
left_zero e i h = omega arith

pub other_none : (k : ℕ) → other_trees k none ≡ none
unfolding other_trees
other_none zero = refl
other_none (suc k) = refl

pub first_none : (k : ℕ) → first_trees k none ≡ none
unfolding first_trees
first_none zero = refl
first_none (suc k) = refl

pub other_other : (k l : ℕ) (f : Forest) → other_trees l (other_trees k f) ≡ other_trees (k + l) f
unfolding other_trees
other_other zero l f = ap (λ (n : ℕ). other_trees n f) (sym (zero-add l))
other_other (suc k) l none = other_none l ∙ sym (other_none (suc k + l))
other_other (suc k) l (tree n below rest) = other_other k l rest ∙ ap (λ (n' : ℕ). other_trees n' (tree n below rest)) (sym (suc-add k l))

pub size_split : (k l : ℕ) (f : Forest) → size (first_trees (k + l) f) ≡ size (first_trees k f) + size (first_trees l (other_trees k f))
unfolding size first_trees other_trees
size_split zero l f = rw (zero-add l) (sym (zero-add _))
size_split (suc k) l none = rw (first_none (suc k + l), first_none l)
size_split (suc k) l (tree n below rest) = rw (suc-add k l, size_split k l rest) (omega arith)

pub flat_split : (k : ℕ) (f : Forest) → flat (first_trees k f) ++ flat (other_trees k f) ≡ flat f
unfolding flat first_trees other_trees
flat_split zero f = refl
flat_split (suc k) none = refl
flat_split (suc k) (tree n below rest) =
    ap (λ (l : List Node). n ∷ l) (append_assoc (flat below) _ _ ∙ ap (λ (l : List Node). flat below ++ l) (flat_split k rest))

pub sorts_first : (k s : ℕ) (f : Forest) (ws : List ℕ) → sorts f ≡ replicate k s ++ ws
    → (sorts (first_trees k f) ≡ replicate k s) × (sorts (other_trees k f) ≡ ws)
unfolding sorts first_trees other_trees
sorts_first zero s f ws h = (refl, h)
sorts_first (suc k) s none ws h = absurd never
  where
    never : ⊥
    never = let z : ◌≡◌ {A = ℕ} 0 1 = cc in omega arith
sorts_first (suc k) s (tree n below rest) ws h =
    let g = sorts_first k s rest ws (cc) in
    (cc, g.1)

pub sorted_first : (k : ℕ) (f : Forest) → Sorted f → Sorted (first_trees k f) × Sorted (other_trees k f)
unfolding Sorted first_trees other_trees
sorted_first zero f h = (tt, h)
sorted_first (suc k) none h = (tt, tt)
sorted_first (suc k) (tree n below rest) h =
    let g = sorted_first k rest h.2 in
    ((h.0, h.1, g.0, h.3), g.1)

-- Of every byte string: the trees' nodes in prefix order are the table's nodes.
pub flat-trees : (t : List ℕ) (m i : ℕ) → flat (trees t m i) ≡ nodes t m i
unfolding flat trees node_over nodes
flat-trees t zero i = refl
flat-trees t (suc m) i = ap (λ (l : List Node). node_at t i ∷ l) (flat_split (child_count_at t i) (trees t m (i + 1)) ∙ flat-trees t m (i + 1))
