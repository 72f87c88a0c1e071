-- "the first missing leaf in table order .. and how many bars back it looked". Definitions only.
use Rattle.std.specs.Prelude.{ℕ, zero, suc, ◌+◌, ◌-◌, ◌*◌, ◌≤◌, Float, None, Option, Some}
use Rattle.rows.specs.{History.History}
use Rattle.table.specs.{Series.as_operand, Trees.Operand, Trees.const, Trees.ref, Trees.price, Trees.prev, Trees.arith, Trees.extreme, Writing.nodes_in}
use Rattle.rules.specs.{Meaning.bars_back}
use Rattle.rules.specs.{Meaning.value}

-- How nodes are numbered: the number just past a subtree of so many nodes that begins at node j.
abbrev pub Numbering : Type 0
Numbering = ℕ → ℕ → ℕ

-- "each tree in prefix order", "Nodes are numbered from 0 over the whole table": a subtree's nodes stand one after the other.
abbrev pub in_table : Numbering
in_table j n = j + n

-- one of two, the first where it is there
unfoldable pub first_found : Option (ℕ × ℕ) → Option (ℕ × ℕ) → Option (ℕ × ℕ)
first_found (Some (node, back)) g = Some (node, back)
first_found None g = g

unfoldable pub gone_if : ℕ → ℕ → Option Float → Option (ℕ × ℕ)
gone_if i back None = Some (i, back)
gone_if i back (Some x) = None

-- A leaf, node i, looked at so many bars before `bar`: missing where there is no such bar, or it has no value there.
unfoldable pub leaf_gone : History → Operand → ℕ → ℕ → ℕ → Option (ℕ × ℕ)
leaf_gone h a i bar back = gone_if i back (bars_back (value h a) back bar)

-- "Request 4 names its child at the newest missing bar" (request 8): node i, a leaf, so many bars back and the m before that.
unfoldable pub newest_gone : History → Operand → ℕ → ℕ → ℕ → ℕ → Option (ℕ × ℕ)
newest_gone h a i bar back zero = leaf_gone h a i bar back
newest_gone h a i bar back (suc m) = first_found (leaf_gone h a i bar back) (newest_gone h a i bar (back + 1) m)

-- The first missing leaf of an operand whose node is number i. "how many bars back it looked": the Prevs above the leaf add up.
-- A Const is a leaf, missing where its row is.
unfoldable pub missing_in : Numbering → History → Operand → ℕ → ℕ → ℕ → Option (ℕ × ℕ)
missing_in after h (const bits) i bar back = leaf_gone h (const bits) i bar back
missing_in after h (ref slot) i bar back = leaf_gone h (ref slot) i bar back
missing_in after h (price selector) i bar back = leaf_gone h (price selector) i bar back
missing_in after h (prev a n) i bar back = missing_in after h a (i + 1) bar (back + n)
missing_in after h (arith kind a b) i bar back =
    first_found (missing_in after h a (i + 1) bar back) (missing_in after h b (after (i + 1) (nodes_in a)) bar back)
missing_in after h (extreme kind s n) i bar back = newest_gone h (as_operand s) (i + 1) bar back (n - 1)

-- of two operands in table order, the first at node i
unfoldable pub missing_in_two : Numbering → History → Operand → Operand → ℕ → ℕ → ℕ → Option (ℕ × ℕ)
missing_in_two after h a b i bar back = first_found (missing_in after h a i bar back) (missing_in after h b (after i (nodes_in a)) bar back)

-- of three
unfoldable pub missing_in_three : Numbering → History → Operand → Operand → Operand → ℕ → ℕ → ℕ → Option (ℕ × ℕ)
missing_in_three after h a b c i bar back =
    first_found (missing_in_two after h a b i bar back) (missing_in after h c (after (after i (nodes_in a)) (nodes_in b)) bar back)

-- A look-back that no sum wraps, with so many levels of nesting left: each Prev adds less than 2^32.
abbrev pub Near : ℕ → ℕ → Type 0
Near back left = back + left * 4294967296 ≤ 1099511627776
