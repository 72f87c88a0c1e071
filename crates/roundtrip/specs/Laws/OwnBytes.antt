-- A row of one condition, and a node whose own bytes are right.
-- Assumes nothing.
use Rattle.std.specs.Prelude.{◌≡◌, refl, true, not, [], ℕ, ◌<◌, ltb, eqb}
use Rattle.words.specs.Prelude.{append-nil, arith, ltb-true, eqb-true}
use Rattle.table.specs.{declared.nodes.Node.Node, declared.kinds.Kind.Kind, declared.header.Form.Form, Nodes.children_right, Nodes.n_right, Nodes.constant_right}
use Rattle.table.specs.{Nodes.kind_right, Nodes.fields_right, Nodes.own_right, Forest.Forest, Trees.Conditions, Trees.none, Trees.more, Reading.first_of}
use Rattle.table.specs.{Writing.node, Writing.node_bytes, Writing.many_of, Writing.write_condition, Writing.write_all, Laws.Header.and_parts}

-- ---- a row of one condition

all_none : (cs : Conditions) → many_of cs ≡ 0 → write_all cs ≡ []
unfolding many_of write_all
all_none none h = refl
all_none (more c cs) h = absurd (omega arith)

pub all_one : (cs : Conditions) → many_of cs ≡ 1 → write_all cs ≡ write_condition (first_of cs)
unfolding many_of write_all first_of
all_one none h = absurd (omega arith)
all_one (more c cs) h = rw (all_none cs (omega arith)) (append-nil (write_condition c))

-- ---- a node's own bytes

pub record OwnFields (form : Form) (n : Node) (row : Kind) : Type 0 where
  pub version : kind_right form.version n.kind ≡ true
  pub selector : n.selector < row.selectors
  pub children : children_right n.children row.children ≡ true
  pub number : n_right form.slots n.n row.n ≡ true
  pub constant : constant_right n.constant row.constant ≡ true

pub own_fields : (form : Form) (n : Node) (row : Kind) → own_right form n row ≡ true → OwnFields form n row
unfolding own_right fields_right
own_fields form n row h =
    let h0 = and_parts _ (fields_right form.slots n row) h in
    let k0 = and_parts (not (eqb row.sort 0)) (kind_right form.version n.kind) h0.0 in
    let h4 = and_parts _ (constant_right n.constant row.constant) h0.1 in
    let h3 = and_parts _ (n_right form.slots n.n row.n) h4.0 in
    let h2 = and_parts (ltb n.selector row.selectors) (children_right n.children row.children) h3.0 in
    record { version = k0.1; selector = ltb-true _ _ h2.0; children = h2.1; number = h3.1; constant = h4.1 }

pub bytes_by_fields : (n : Node) (kind selector children number constant : ℕ) → n.kind ≡ kind → n.selector ≡ selector → n.children ≡ children → n.n ≡ number
    → n.constant ≡ constant
    → node_bytes n ≡ node kind selector children number constant
unfolding node_bytes
bytes_by_fields n kind selector children number constant a b c d e = cc

-- a node that uses its n beside its kind, and one that uses its kind alone
pub number-node : (n : Node) (kind : ℕ) → n.kind ≡ kind → n.selector < 1 → eqb n.children 0 ≡ true → eqb n.constant 0 ≡ true
    → node_bytes n ≡ node kind 0 0 n.n 0
number-node n kind k s c x = bytes_by_fields n kind 0 0 n.n 0 k (omega arith) (eqb-true _ _ c) refl (eqb-true _ _ x)

pub plain_node : (n : Node) (kind : ℕ) → n.kind ≡ kind → n.selector < 1 → eqb n.children 0 ≡ true → eqb n.n 0 ≡ true
    → eqb n.constant 0 ≡ true → node_bytes n ≡ node kind 0 0 0 0
plain_node n kind k s c m x = bytes_by_fields n kind 0 0 0 0 k (omega arith) (eqb-true _ _ c) (eqb-true _ _ m) (eqb-true _ _ x)

-- ---- fields that fit their bytes

-- "Node: kind (1), selector (1), children (2), n (4), constant bits (8)."
pub record NodeFits (node : Node) : Type 0 where
  pub kind : node.kind < 256
  pub selector : node.selector < 256
  pub children : node.children < 65536
  pub n : node.n < 4294967296
  pub constant : node.constant < 18446744073709551616

unfoldable pub FieldsFit : Forest → Type 0
FieldsFit Forest.none = Unit
FieldsFit (Forest.tree n below rest) = NodeFits n × FieldsFit below × FieldsFit rest
