-- Laws of reading: a row of trees reads as many operands or conditions as it has trees, and operands stand on operands.
-- Assumes nothing.
use Rattle.std.specs.Prelude.{◌≡◌, refl, Bool, true, false, cond, List, [], ◌∷◌, ℕ, suc, length, replicate, eqb}
use Rattle.words.specs.Prelude.{◌∙◌, ap, arith, length-replicate, eqb-true}
use Rattle.table.specs.{declared.kinds.Children.Children, Nodes.taken, declared.nodes.Node.Node, declared.kinds.Kind.Kind, Kinds.kinds, Kinds.kind_of}
use Rattle.table.specs.{Nodes.child_count, Forest.Forest, Forest.sorts}
use Rattle.table.specs.{Trees.Operand, Reading.child}
use Rattle.table.specs.{Reading.operands, Reading.conditions, Writing.many_of, Ends.from, Laws.Kinds.of_rows, Laws.Kinds.known}

pub as_many : (f : Forest) → length (operands f) ≡ length (sorts f)
unfolding operands sorts
as_many Forest.none = refl
as_many (Forest.tree n below rest) = ap suc (as_many rest)

pub many_conditions : (f : Forest) → many_of (conditions f) ≡ length (sorts f)
unfolding conditions many_of sorts
many_conditions Forest.none = refl
many_conditions (Forest.tree n below rest) = ap suc (many_conditions rest)

-- operands in a row of a known length
pub row_none : (os : List Operand) → length os ≡ 0 → os ≡ []
row_none [] h = refl
row_none (a ∷ os) h = absurd (omega arith)

pub row_one : (os : List Operand) → length os ≡ 1 → os ≡ child os 0 ∷ []
row_one [] h = absurd (omega arith)
row_one (a ∷ os) h = ap (λ (l : List Operand). a ∷ l) (row_none os (omega arith))

pub row_two : (os : List Operand) → length os ≡ 2 → os ≡ child os 0 ∷ child os 1 ∷ []
row_two [] h = absurd (omega arith)
row_two (a ∷ os) h = ap (λ (l : List Operand). a ∷ l) (row_one os (omega arith))

pub row_three : (os : List Operand) → length os ≡ 3 → os ≡ child os 0 ∷ child os 1 ∷ child os 2 ∷ []
row_three [] h = absurd (omega arith)
row_three (a ∷ os) h = ap (λ (l : List Operand). a ∷ l) (row_two os (omega arith))

-- An operand takes operands, or nothing: so say all rows of the table of kinds.
no_children : Children → Bool
no_children (Children.Exactly many) = eqb many 0
no_children Children.AsWritten = false

none_taken : (written : ℕ) (takes : Children) → no_children takes ≡ true → taken written takes ≡ 0
unfolding no_children
none_taken written (Children.Exactly many) none = eqb-true many 0 none
none_taken written Children.AsWritten none = cc

takes_operands : ℕ → Bool
takes_operands k = cond (eqb (kind_of k).sort 1) (cond (eqb (kind_of k).below 1) true (no_children (kind_of k).children)) true

below_operand : (n : Node) → (kind_of n.kind).sort ≡ 1
    → replicate (child_count n (kind_of n.kind)) (kind_of n.kind).below ≡ replicate (child_count n (kind_of n.kind)) 1
unfolding takes_operands
below_operand n sort =
    let low = known n.kind (kind_of n.kind) refl (omega arith) in
    go (eqb (kind_of n.kind).below 1) refl (rw sort at (of_rows takes_operands (λ i. true) (unfold from kind_of kinds no_children in refl) n.kind low))
  where
    go : (b : Bool) → eqb (kind_of n.kind).below 1 ≡ b → cond b true (no_children (kind_of n.kind).children) ≡ true
        → replicate (child_count n (kind_of n.kind)) (kind_of n.kind).below ≡ replicate (child_count n (kind_of n.kind)) 1
    go true is t = rw (eqb-true (kind_of n.kind).below 1 is)
    go false not_so t = unfold child_count in rw (none_taken n.children (kind_of n.kind).children t)

-- so the trees below an operand are operands, as many as it takes
pub operands_below : (n : Node) (below : Forest) → (kind_of n.kind).sort ≡ 1
    → sorts below ≡ replicate (child_count n (kind_of n.kind)) (kind_of n.kind).below
    → (sorts below ≡ replicate (child_count n (kind_of n.kind)) 1) × (length (operands below) ≡ child_count n (kind_of n.kind))
operands_below n below sort row =
    let under = row ∙ below_operand n sort in
    (under, as_many below ∙ ap length under ∙ length-replicate _ _)

-- ---- what is below a node, by the node's row

-- so many operands, or conditions
pub some_operands : (f : Forest) (k : ℕ) → sorts f ≡ replicate k 1 → length (operands f) ≡ k
some_operands f k h = as_many f ∙ ap length h ∙ length-replicate k 1

pub some_conditions : (f : Forest) (k : ℕ) → sorts f ≡ replicate k 2 → many_of (conditions f) ≡ k
some_conditions f k h = many_conditions f ∙ ap length h ∙ length-replicate k 2

module _ (n : Node) (below : Forest) (under : sorts below ≡ replicate (child_count n (kind_of n.kind)) (kind_of n.kind).below) where
  pub under_by : (row : Kind) → kind_of n.kind ≡ row → sorts below ≡ replicate (child_count n row) row.below
  under_by row h = under ∙ ap (λ (r : Kind). replicate (child_count n r) r.below) h

  -- what is told of any operands below, told of the k that there are
  pub row_below : {A : Type 0} {w : A} (told : List Operand → A) → ((k : ℕ) → sorts below ≡ replicate k 1 → w ≡ told (operands below)) → (k : ℕ) (row : Kind)
      → kind_of n.kind ≡ row → replicate (child_count n row) row.below ≡ replicate k 1 → (w ≡ told (operands below)) × (length (operands below) ≡ k)
  row_below told of-operands k row h same =
      let here : sorts below ≡ replicate k 1 = under_by row h ∙ same in
      (of-operands k here, some_operands below k here)
