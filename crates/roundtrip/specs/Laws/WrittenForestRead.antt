-- The forest of a tree within the limits is no deeper than the tree, and reads as the tree.
-- Assumes nothing.
use Rattle.std.specs.Prelude.{◌≡◌, refl, Bool, true, false, cond, List, [], ◌∷◌, ℕ, zero, suc, ◌+◌, ◌-◌, ◌≤◌, ◌<◌, eqb, None}
use Rattle.words.specs.Prelude.{◌∙◌, ap, arith}
use Rattle.table.specs.{declared.nodes.Node.Node, declared.header.Form.Form, declared.series.Series.Series, declared.series.Series.TheVariants.Price}
use Rattle.table.specs.{declared.series.Series.TheVariants.Slot, Kinds.kinds, Kinds.kind_of, Order.or_place}
use Rattle.table.specs.{Forest.Forest, Nesting.deeper, Trees.Operand, Trees.const, Trees.ref, Trees.price, Trees.prev, Trees.arith as sums, Trees.extreme}
use Rattle.table.specs.{Trees.Condition, Trees.Conditions, Trees.compare, Trees.cross, Trees.between, Trees.trend, Trees.every, Trees.any, Trees.negated}
use Rattle.table.specs.{Trees.in_position, Trees.bars_since, Trees.none, Trees.more, Reading.child, Reading.operand_by, Reading.operand_from, Reading.operands}
use Rattle.table.specs.{Reading.first_of, Reading.condition_by, Reading.condition_from, Reading.conditions, Series.as_series, Writing.nodes_in, Writing.nodes_of}
use Rattle.table.specs.{Limits.Within, Limits.WithinOf, Limits.WithinAll, Limits.levels, Limits.levels_of, Limits.levels_of_all}
use Rattle.roundtrip.specs.{Laws.WrittenForest.plant_series, Laws.WrittenForest.plant, Laws.WrittenForest.plant_of, Laws.WrittenForest.plant_all}

-- ---- depth

one_level : (n : Node) (l : ℕ) (below rest : Forest) → 0 < l → deeper (l - 1) below ≡ None → deeper l (Forest.tree n below rest) ≡ deeper l rest
unfolding deeper or_place
one_level n zero below rest h b = absurd (never h)
  where
    never : 0 < 0 → ⊥
    never h' = omega arith
one_level n (suc l) below rest h b =
    let same : l ≡ suc l - 1 = omega arith in
    rw (ap (λ (m : ℕ). deeper m below) same ∙ b)

no_levels : (l : ℕ) → deeper l Forest.none ≡ None
unfolding deeper
no_levels l = refl

shallow_series : (s : Series) (i l : ℕ) → 1 ≤ l → deeper l (plant_series i s) ≡ None
unfolding plant_series
shallow_series (Price x) i l h = one_level _ l Forest.none Forest.none (omega arith) (no_levels (l - 1)) ∙ no_levels l
shallow_series (Slot x) i l h = one_level _ l Forest.none Forest.none (omega arith) (no_levels (l - 1)) ∙ no_levels l

pub shallow : (a : Operand) (i l : ℕ) (rest : Forest) → levels a ≤ l → deeper l (plant i a rest) ≡ deeper l rest
unfolding plant levels
shallow (const x) i l rest h = one_level _ l Forest.none rest (omega arith) (no_levels (l - 1))
shallow (ref s) i l rest h = one_level _ l Forest.none rest (omega arith) (no_levels (l - 1))
shallow (price s) i l rest h = one_level _ l Forest.none rest (omega arith) (no_levels (l - 1))
shallow (prev a n) i l rest h =
    one_level _ l _ rest (omega arith) (shallow a (i + 1) (l - 1) Forest.none (omega arith) ∙ no_levels (l - 1))
shallow (sums kind a b) i l rest h =
    one_level _ l _ rest (omega arith)
    (shallow a (i + 1) (l - 1) (plant (i + 1 + nodes_in a) b Forest.none) (omega arith) ∙ shallow b (i + 1 + nodes_in a) (l - 1) Forest.none (omega arith)
    ∙ no_levels (l - 1))
shallow (extreme kind s n) i l rest h = one_level _ l _ rest (omega arith) (shallow_series s (i + 1) (l - 1) (omega arith))

mutual
  unfolding plant_of levels_of

  pub shallow_of : (c : Condition) (i l : ℕ) (rest : Forest) → levels_of c ≤ l → deeper l (plant_of i c rest) ≡ deeper l rest
  shallow_of (compare kind a b) i l rest h =
      one_level _ l _ rest (omega arith)
      (shallow a (i + 1) (l - 1) (plant (i + 1 + nodes_in a) b Forest.none) (omega arith) ∙ shallow b (i + 1 + nodes_in a) (l - 1) Forest.none (omega arith)
      ∙ no_levels (l - 1))
  shallow_of (cross kind a b) i l rest h =
      one_level _ l _ rest (omega arith)
      (shallow a (i + 1) (l - 1) (plant (i + 1 + nodes_in a) b Forest.none) (omega arith) ∙ shallow b (i + 1 + nodes_in a) (l - 1) Forest.none (omega arith)
      ∙ no_levels (l - 1))
  shallow_of (between x a b) i l rest h =
      one_level _ l _ rest (omega arith)
      (shallow x (i + 1) (l - 1) (plant (i + 1 + nodes_in x) a (plant (i + 1 + nodes_in x + nodes_in a) b Forest.none)) (omega arith)
      ∙ shallow a (i + 1 + nodes_in x) (l - 1) (plant (i + 1 + nodes_in x + nodes_in a) b Forest.none) (omega arith)
      ∙ shallow b (i + 1 + nodes_in x + nodes_in a) (l - 1) Forest.none (omega arith)
      ∙ no_levels (l - 1))
  shallow_of (trend kind a n) i l rest h =
      one_level _ l _ rest (omega arith) (shallow a (i + 1) (l - 1) Forest.none (omega arith) ∙ no_levels (l - 1))
  shallow_of (every cs) i l rest h = one_level _ l _ rest (omega arith) (shallow_all cs (i + 1) (l - 1) Forest.none (omega arith) ∙ no_levels (l - 1))
  shallow_of (any cs) i l rest h = one_level _ l _ rest (omega arith) (shallow_all cs (i + 1) (l - 1) Forest.none (omega arith) ∙ no_levels (l - 1))
  shallow_of (negated c) i l rest h = one_level _ l _ rest (omega arith) (shallow_of c (i + 1) (l - 1) Forest.none (omega arith) ∙ no_levels (l - 1))
  shallow_of (in_position want) i l rest h = one_level _ l Forest.none rest (omega arith) (no_levels (l - 1))
  shallow_of (bars_since s n) i l rest h = one_level _ l Forest.none rest (omega arith) (no_levels (l - 1))

  pub shallow_all : (cs : Conditions) (i l : ℕ) (rest : Forest) → levels_of_all cs ≤ l → deeper l (plant_all i cs rest) ≡ deeper l rest
  shallow_all none i l rest h = refl
  shallow_all (more c cs) i l rest h =
      shallow_of c i l (plant_all (i + nodes_of c) cs rest) (omega arith) ∙ shallow_all cs (i + nodes_of c) l rest (omega arith)

-- ---- reading

reads_series : (s : Series) (i : ℕ) → as_series (child (operands (plant_series i s)) 0) ≡ s
unfolding plant_series operands operand_from operand_by as_series kind_of kinds
reads_series (Price x) i = refl
reads_series (Slot x) i = refl

module _ (form : Form) where
  pub reads : (a : Operand) (i : ℕ) (rest : Forest) → Within form a → operands (plant i a rest) ≡ a ∷ operands rest
  unfolding Within plant operands operand_from operand_by kind_of kinds
  reads (const x) i rest w = refl
  reads (ref s) i rest w = refl
  reads (price s) i rest w = refl
  reads (prev a n) i rest w = rw (reads a (i + 1) Forest.none w.1)
  reads (sums kind a b) i rest w =
      let below : operands (plant (i + 1) a (plant (i + 1 + nodes_in a) b Forest.none)) ≡ a ∷ b ∷ [] =
      reads a (i + 1) _ w.1 ∙ ap (λ (l : List Operand). a ∷ l) (reads b (i + 1 + nodes_in a) Forest.none w.2) in
      simp (w.0, below)
  reads (extreme kind s n) i rest w = simp (w.0, reads_series s (i + 1))

  reads_two : (i j : ℕ) (a b : Operand) → Within form a → Within form b → operands (plant i a (plant j b Forest.none)) ≡ a ∷ b ∷ []
  unfolding operands
  reads_two i j a b wa wb = reads a i _ wa ∙ ap (λ (l : List Operand). a ∷ l) (reads b j Forest.none wb)

  reads_three : (h i j : ℕ) (x a b : Operand) → Within form x → Within form a → Within form b
      → operands (plant h x (plant i a (plant j b Forest.none))) ≡ x ∷ a ∷ b ∷ []
  reads_three h i j x a b wx wa wb = reads x h _ wx ∙ ap (λ (l : List Operand). x ∷ l) (reads_two i j a b wa wb)

  want_back : (want : Bool) → eqb (cond want 1 0) 1 ≡ want
  want_back true = refl
  want_back false = refl

  mutual
    unfolding WithinOf plant_of conditions condition_from condition_by operands first_of kind_of kinds

    pub reads_of : (c : Condition) (i : ℕ) (rest : Forest) → WithinOf form c → conditions (plant_of i c rest) ≡ more c (conditions rest)
    reads_of (compare kind a b) i rest w = simp (w.0, reads_two (i + 1) (i + 1 + nodes_in a) a b w.1 w.2)
    reads_of (cross kind a b) i rest w = simp (w.0, reads_two (i + 1) (i + 1 + nodes_in a) a b w.1 w.2)
    reads_of (between x a b) i rest w = simp (reads_three (i + 1) (i + 1 + nodes_in x) (i + 1 + nodes_in x + nodes_in a) x a b w.0 w.1 w.2)
    reads_of (trend kind a n) i rest w = simp (w.0, reads a (i + 1) Forest.none w.2)
    reads_of (every cs) i rest w = rw (reads_all cs (i + 1) w)
    reads_of (any cs) i rest w = rw (reads_all cs (i + 1) w)
    reads_of (negated c) i rest w = rw (reads_of c (i + 1) Forest.none w)
    reads_of (in_position want) i rest w = rw (want_back want)
    reads_of (bars_since s n) i rest w = refl

    pub reads_all : (cs : Conditions) (i : ℕ) → WithinAll form cs → conditions (plant_all i cs Forest.none) ≡ cs
    reads_all none i w = refl
    reads_all (more c cs) i w = reads_of c i _ w.0 ∙ ap (more c) (reads_all cs (i + nodes_of c) w.1)
