-- The forest of a tree that is written in a table: its nodes with their numbers, over their children.
-- Assumes nothing.
use Rattle.std.specs.Prelude.{◌≡◌, refl, cond, List, ◌++◌, ℕ, ◌+◌, ◌*◌, length}
use Rattle.words.specs.Prelude.{sym, ap, ◌∙◌, append_assoc, append-nil, arith}
use Rattle.table.specs.{declared.nodes.Node.Node, declared.series.Series.Series, declared.series.Series.TheVariants.Price}
use Rattle.table.specs.{declared.series.Series.TheVariants.Slot, Forest.Forest, Forest.size, Forest.flat, Trees.Operand, Trees.const, Trees.ref, Trees.price}
use Rattle.table.specs.{Trees.prev, Trees.arith as sums, Trees.extreme, Trees.Condition, Trees.Conditions, Trees.compare, Trees.cross, Trees.between}
use Rattle.table.specs.{Trees.trend, Trees.every, Trees.any, Trees.negated, Trees.in_position, Trees.bars_since, Trees.none, Trees.more, Writing.node_bytes}
use Rattle.table.specs.{Writing.nodes_bytes, Writing.write_series, Writing.write_operand, Writing.nodes_in, Writing.many_of, Writing.write_condition}
use Rattle.table.specs.{Writing.write_all, Writing.nodes_of, Writing.nodes_of_all}
use Rattle.roundtrip.specs.{Laws.NodeBytes.tree_bytes, Laws.NodeBytes.no_bytes, Laws.NodeBytes.forest_long}
use Rattle.table.specs.Named as Named

abbrev pub nd : ℕ → ℕ → ℕ → ℕ → ℕ → ℕ → Node
nd i kind selector children n constant = record { number = i; kind = kind; selector = selector; children = children; n = n; constant = constant }

-- the child of Highest and Lowest, whose node is number i
unfoldable pub plant_series : ℕ → Series → Forest
plant_series i (Price s) = Forest.tree (nd i Named.price s 0 0 0) Forest.none Forest.none
plant_series i (Slot s) = Forest.tree (nd i Named.ref 0 0 s 0) Forest.none Forest.none

unfoldable pub plant : ℕ → Operand → Forest → Forest
plant i (const x) rest = Forest.tree (nd i Named.const 0 0 0 x) Forest.none rest
plant i (ref s) rest = Forest.tree (nd i Named.ref 0 0 s 0) Forest.none rest
plant i (price s) rest = Forest.tree (nd i Named.price s 0 0 0) Forest.none rest
plant i (prev a n) rest = Forest.tree (nd i Named.prev 0 0 n 0) (plant (i + 1) a Forest.none) rest
plant i (sums k a b) rest = Forest.tree (nd i k 0 0 0 0) (plant (i + 1) a (plant (i + 1 + nodes_in a) b Forest.none)) rest
plant i (extreme k s n) rest = Forest.tree (nd i k 0 0 n 0) (plant_series (i + 1) s) rest

unfoldable mutual
  pub plant_of : ℕ → Condition → Forest → Forest
  plant_of i (compare k a b) rest = Forest.tree (nd i k 0 0 0 0) (plant (i + 1) a (plant (i + 1 + nodes_in a) b Forest.none)) rest
  plant_of i (cross k a b) rest = Forest.tree (nd i k 0 0 0 0) (plant (i + 1) a (plant (i + 1 + nodes_in a) b Forest.none)) rest
  plant_of i (between x a b) rest =
      Forest.tree (nd i Named.between 0 0 0 0) (plant (i + 1) x (plant (i + 1 + nodes_in x) a (plant (i + 1 + nodes_in x + nodes_in a) b Forest.none))) rest
  plant_of i (trend k a n) rest = Forest.tree (nd i k 0 0 n 0) (plant (i + 1) a Forest.none) rest
  plant_of i (every cs) rest = Forest.tree (nd i Named.all 0 (many_of cs) 0 0) (plant_all (i + 1) cs Forest.none) rest
  plant_of i (any cs) rest = Forest.tree (nd i Named.any 0 (many_of cs) 0 0) (plant_all (i + 1) cs Forest.none) rest
  plant_of i (negated c) rest = Forest.tree (nd i Named.not 0 0 0 0) (plant_of (i + 1) c Forest.none) rest
  plant_of i (in_position w) rest = Forest.tree (nd i Named.in_position (cond w 1 0) 0 0 0) Forest.none rest
  plant_of i (bars_since s k) rest = Forest.tree (nd i Named.bars_since_entry s 0 k 0) Forest.none rest

  pub plant_all : ℕ → Conditions → Forest → Forest
  plant_all i none rest = rest
  plant_all i (more c cs) rest = plant_of i c (plant_all (i + nodes_of c) cs rest)

-- ---- its nodes: how many they are, what bytes they have, and that they are numbered one after the other

unfoldable pub NumberedFrom : ℕ → Forest → Type 0
NumberedFrom i Forest.none = Unit
NumberedFrom i (Forest.tree n below rest) = (n.number ≡ i) × NumberedFrom (i + 1) below × NumberedFrom (i + (1 + size below)) rest

-- m nodes, the first of them number i, whose bytes are l, and then the others
pub record Planted (i m : ℕ) (l : List ℕ) (f rest : Forest) : Type 0 where
  pub many : size f ≡ m + size rest
  pub bytes : nodes_bytes (flat f) ≡ l ++ nodes_bytes (flat rest)
  pub numbers : NumberedFrom (i + m) rest → NumberedFrom i f

-- a node over none, over others, and nodes before others
alone : (n : Node) (rest : Forest) → Planted n.number 1 (node_bytes n) (Forest.tree n Forest.none rest) rest
unfolding size flat nodes_bytes NumberedFrom
alone n rest = record { many = refl; bytes = refl; numbers = λ r. (refl, tt, r) }

over : (n : Node) (m : ℕ) (l : List ℕ) (below rest : Forest) → Planted (n.number + 1) m l below Forest.none
    → Planted n.number (1 + m) (node_bytes n ++ l) (Forest.tree n below rest) rest
unfolding size NumberedFrom
over n m l below rest p =
    let many : size below ≡ m = omega (arith, p.many) in
    let own : nodes_bytes (flat below) ≡ l = p.bytes ∙ rw no_bytes (append-nil l) in
    record { many = omega arith; bytes = tree_bytes n below rest ∙ rw own; numbers = λ r. (refl, p.numbers tt, rw many r) }

next : {i m m' : ℕ} {l l' : List ℕ} {f g rest : Forest} → Planted i m l f g → Planted (i + m) m' l' g rest → Planted i (m + m') (l ++ l') f rest
next {i} {m} {m'} {l} {l'} {f} {g} {rest} p q =
    let place : i + (m + m') ≡ i + m + m' = omega arith in
    record {
      many = omega (arith, p.many, q.many);
      bytes = p.bytes ∙ rw q.bytes (sym (append_assoc l l' (nodes_bytes (flat rest))));
      numbers = λ r. p.numbers (q.numbers (rw place at r));
    }

over_two : (n : Node) (m m' : ℕ) (l l' : List ℕ) (below rest : Forest) → Planted (n.number + 1) (m + m') (l ++ l') below Forest.none
    → Planted n.number (1 + m + m') (node_bytes n ++ l ++ l') (Forest.tree n below rest) rest
over_two n m m' l l' below rest p =
    let all : 1 + (m + m') ≡ 1 + m + m' = omega arith in
    let own : node_bytes n ++ (l ++ l') ≡ node_bytes n ++ l ++ l' = simp append_assoc in
    rw (all, own) at (over n (m + m') (l ++ l') below rest p)

over_three : (n : Node) (m m' m'' : ℕ) (l l' l'' : List ℕ) (below rest : Forest) → Planted (n.number + 1) (m + (m' + m'')) (l ++ (l' ++ l'')) below Forest.none
    → Planted n.number (1 + m + m' + m'') (node_bytes n ++ l ++ l' ++ l'') (Forest.tree n below rest) rest
over_three n m m' m'' l l' l'' below rest p =
    let all : 1 + (m + (m' + m'')) ≡ 1 + m + m' + m'' = omega arith in
    let own : node_bytes n ++ (l ++ (l' ++ l'')) ≡ node_bytes n ++ l ++ l' ++ l'' = simp append_assoc in
    rw (all, own) at (over n (m + (m' + m'')) (l ++ (l' ++ l'')) below rest p)

series_nodes : (s : Series) (i : ℕ) → Planted i 1 (write_series s) (plant_series i s) Forest.none
unfolding plant_series write_series node_bytes
series_nodes (Price s) i = alone _ Forest.none
series_nodes (Slot s) i = alone _ Forest.none

operand_nodes : (a : Operand) (i : ℕ) (rest : Forest) → Planted i (nodes_in a) (write_operand a) (plant i a rest) rest
unfolding plant nodes_in write_operand node_bytes
operand_nodes (const x) i rest = alone _ rest
operand_nodes (ref s) i rest = alone _ rest
operand_nodes (price s) i rest = alone _ rest
operand_nodes (prev a n) i rest = over _ _ _ _ rest (operand_nodes a (i + 1) Forest.none)
operand_nodes (sums k a b) i rest = over_two _ _ _ _ _ _ rest (next (operand_nodes a (i + 1) _) (operand_nodes b (i + 1 + nodes_in a) Forest.none))
operand_nodes (extreme k s n) i rest = over _ _ _ _ rest (series_nodes s (i + 1))

two_nodes : (a b : Operand) (i : ℕ)
    → Planted i (nodes_in a + nodes_in b) (write_operand a ++ write_operand b) (plant i a (plant (i + nodes_in a) b Forest.none)) Forest.none
two_nodes a b i = next (operand_nodes a i _) (operand_nodes b (i + nodes_in a) Forest.none)

mutual
  unfolding plant_of nodes_of write_condition node_bytes

  pub condition_nodes : (c : Condition) (i : ℕ) (rest : Forest) → Planted i (nodes_of c) (write_condition c) (plant_of i c rest) rest
  condition_nodes (compare k a b) i rest = over_two _ _ _ _ _ _ rest (two_nodes a b (i + 1))
  condition_nodes (cross k a b) i rest = over_two _ _ _ _ _ _ rest (two_nodes a b (i + 1))
  condition_nodes (between x a b) i rest = over_three _ _ _ _ _ _ _ _ rest (next (operand_nodes x (i + 1) _) (two_nodes a b (i + 1 + nodes_in x)))
  condition_nodes (trend k a n) i rest = over _ _ _ _ rest (operand_nodes a (i + 1) Forest.none)
  condition_nodes (every cs) i rest = over _ _ _ _ rest (conditions_nodes cs (i + 1) Forest.none)
  condition_nodes (any cs) i rest = over _ _ _ _ rest (conditions_nodes cs (i + 1) Forest.none)
  condition_nodes (negated c) i rest = over _ _ _ _ rest (condition_nodes c (i + 1) Forest.none)
  condition_nodes (in_position w) i rest = alone _ rest
  condition_nodes (bars_since s k) i rest = alone _ rest

  conditions_nodes : (cs : Conditions) (i : ℕ) (rest : Forest) → Planted i (nodes_of_all cs) (write_all cs) (plant_all i cs rest) rest
  conditions_nodes none i rest =
      let same : i + 0 ≡ i = omega arith in
      record { many = omega arith; bytes = refl; numbers = λ r. rw same at r }
  conditions_nodes (more c cs) i rest = next (condition_nodes c i _) (conditions_nodes cs (i + nodes_of c) rest)

-- a condition has a node of its own
pub some_nodes : (c : Condition) → nodes_of c ≡ 0 → ⊥
unfolding nodes_of
some_nodes (compare k a b) h = omega arith
some_nodes (cross k a b) h = omega arith
some_nodes (between x a b) h = omega arith
some_nodes (trend k a n) h = omega arith
some_nodes (every cs) h = omega arith
some_nodes (any cs) h = omega arith
some_nodes (negated c) h = omega arith
some_nodes (in_position w) h = omega arith
some_nodes (bars_since s n) h = omega arith

-- ---- so the bytes of a tree's forest are the tree's, sixteen a node

pub condition_bytes : (c : Condition) (i : ℕ) → nodes_bytes (flat (plant_of i c Forest.none)) ≡ write_condition c
condition_bytes c i = (condition_nodes c i Forest.none).bytes ∙ rw no_bytes (append-nil (write_condition c))

pub condition_long : (c : Condition) → length (write_condition c) ≡ 16 * nodes_of c
unfolding size
condition_long c =
    omega (
      arith,
      ap length (condition_bytes c 0),
      forest_long (plant_of 0 c Forest.none),
      (condition_nodes c 0 Forest.none).many,
    )
