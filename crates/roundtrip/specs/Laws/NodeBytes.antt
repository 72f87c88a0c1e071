-- The bytes of nodes: sixteen each, and a forest's in prefix order.
-- Assumes nothing.
use Rattle.std.specs.Prelude.{◌≡◌, refl, List, [], ◌∷◌, ◌++◌, ℕ, ◌*◌, length}
use Rattle.words.specs.Prelude.{sym, ap, append_assoc, arith, length-append}
use Rattle.table.specs.{declared.nodes.Node.Node, Forest.Forest, Forest.size, Forest.flat, Writing.le16, Writing.le32, Writing.le64, Writing.node}
use Rattle.table.specs.{Writing.node_bytes, Writing.nodes_bytes}

pub node_long : (a b c d e : ℕ) → length (node a b c d e) ≡ 16
unfolding node le64 le32 le16
node_long a b c d e = refl

bytes_two : (a b : List Node) → nodes_bytes (a ++ b) ≡ nodes_bytes a ++ nodes_bytes b
unfolding nodes_bytes
bytes_two [] b = refl
bytes_two (n ∷ a) b = rw (bytes_two a b) (sym (append_assoc (node_bytes n) (nodes_bytes a) (nodes_bytes b)))

pub tree_bytes : (n : Node) (below rest : Forest)
    → nodes_bytes (flat (Forest.tree n below rest)) ≡ (node_bytes n ++ nodes_bytes (flat below)) ++ nodes_bytes (flat rest)
unfolding flat nodes_bytes
tree_bytes n below rest = rw (bytes_two (flat below) (flat rest)) (sym (append_assoc (node_bytes n) (nodes_bytes (flat below)) (nodes_bytes (flat rest))))

pub no_bytes : nodes_bytes (flat Forest.none) ≡ []
unfolding flat nodes_bytes
no_bytes = refl

pub forest_long : (f : Forest) → length (nodes_bytes (flat f)) ≡ 16 * size f
unfolding nodes_bytes flat size node_bytes
forest_long Forest.none = refl
forest_long (Forest.tree n below rest) =
    omega (
      arith,
      ap length (tree_bytes n below rest),
      length-append (node_bytes n ++ nodes_bytes (flat below)) (nodes_bytes (flat rest)),
      length-append (node_bytes n) (nodes_bytes (flat below)),
      node_long n.kind n.selector n.children n.n n.constant,
      forest_long below,
      forest_long rest,
    )
