-- Nodes, and rule 6. Definitions only.
use Rattle.std.specs.Prelude.{Bool, true, not, cond, ◌&&◌, List, ℕ, zero, suc, ◌+◌, ◌*◌, get_or, ltb, leb, eqb, None, Option, Some}
use Rattle.words.specs.{Limits.most_reach}
use Rattle.floats.specs.{Floats.finite, Floats.float_of}
use Rattle.table.specs.{declared.kinds.Kind.Kind, declared.nodes.Node.Node, declared.header.Form.Form}
use Rattle.table.specs.{Bytes.u16, Bytes.u32, Bytes.u64, Kinds.kind_of}
use Rattle.table.specs.{declared.kinds.Children.Children, declared.kinds.NumberUse.NumberUse, Kinds.is_series, Kinds.takes_series, Kinds.second_version}
use Rattle.table.specs.{Kinds.since_of, Header.form_of}

-- "Then 16 bytes a node." "Node: kind (1), selector (1), children (2), n (4), constant bits (8)." The number of the node is
-- kept beside its fields.
unfoldable pub node_at : List ℕ → ℕ → Node
node_at t i =
    record {
      number = i;
      kind = get_or t (16 + 16 * i) 0;
      selector = get_or t (17 + 16 * i) 0;
      children = u16 t (18 + 16 * i);
      n = u32 t (20 + 16 * i);
      constant = u64 t (24 + 16 * i);
    }

-- "Unused fields are zero; only All and Any use children." A field's own row of the kinds says what it is used for.
unfoldable pub children_right : ℕ → Children → Bool
children_right children Children.AsWritten = true
children_right children (Children.Exactly many) = eqb children 0

-- n: unused, so zero; a "slot, below K"; "n from 1 to 4,095"; or any number
unfoldable pub n_right : ℕ → ℕ → NumberUse → Bool
n_right k n NumberUse.Unused = eqb n 0
n_right k n NumberUse.Slot = ltb n k
n_right k n NumberUse.BarCount = leb 1 n && leb n most_reach
n_right k n NumberUse.AnyNumber = true

-- "Const (constant, finite)"; an unused constant is compared as bits
unfoldable pub constant_right : ℕ → Bool → Bool
constant_right bits used = cond used (finite (float_of bits)) (eqb bits 0)

-- each field as the kind uses it, in a table with k slots
unfoldable pub fields_right : ℕ → Node → Kind → Bool
fields_right k n w =
    ltb n.selector w.selectors
    && children_right n.children w.children
    && n_right k n.n w.n
    && constant_right n.constant w.constant

-- "Version 1 tables mean what they meant": a kind that came with version 2 is none in a table of version 1.
unfoldable pub kind_right : ℕ → ℕ → Bool
kind_right version kind = cond (eqb (since_of kind) second_version) (leb second_version version) true

-- a node's own bytes: a known kind, and each field as the kind uses it
unfoldable pub own_right : Form → Node → Kind → Bool
own_right form n w = not (eqb w.sort 0) && kind_right form.version n.kind && fields_right form.slots n w

unfoldable pub node_right : List ℕ → ℕ → Bool
node_right t i = own_right (form_of t) (node_at t i) (kind_of (node_at t i).kind)

-- "6 a node's own bytes wrong: lowest such node", of the m nodes from node i on
unfoldable pub wrong_node : List ℕ → ℕ → ℕ → Option ℕ
wrong_node t zero i = None
wrong_node t (suc m) i = cond (node_right t i) (wrong_node t m (i + 1)) (Some i)

-- What the table of kinds says of a node: its sort, how many children it takes, and of which sort.
unfoldable pub sort_at : List ℕ → ℕ → ℕ
sort_at t i = (kind_of (node_at t i).kind).sort

abbrev pub taken : ℕ → Children → ℕ
taken written Children.AsWritten = written
taken written (Children.Exactly many) = many

unfoldable pub child_count : Node → Kind → ℕ
child_count n w = taken n.children w.children

unfoldable pub child_count_at : List ℕ → ℕ → ℕ
child_count_at t i = child_count (node_at t i) (kind_of (node_at t i).kind)

unfoldable pub child_sort_at : List ℕ → ℕ → ℕ
child_sort_at t i = (kind_of (node_at t i).kind).below

-- "one child that must be a Price or a Ref": whether a node may be the child of another, its sort apart
unfoldable pub child_fits : Kind → Kind → Bool
child_fits parent child = cond (takes_series parent.series) (is_series child.series) true

-- of node i and its first child, which is the node after it
unfoldable pub child_fits_at : List ℕ → ℕ → Bool
child_fits_at t i = child_fits (kind_of (node_at t i).kind) (kind_of (node_at t (i + 1)).kind)
