-- "at most four steps a node": a tree takes at most two, whatever its size.
use Rattle.std.specs.Prelude.{ℕ, ◌+◌, ◌*◌, ◌≤◌, Bool, true, false, length}
use Rattle.words.specs.Prelude.{arith, length-append}
use Rattle.table.specs.{Trees.Operand, Trees.const, Trees.ref, Trees.price, Trees.prev, Trees.arith as sums, Trees.extreme, Trees.Condition, Trees.Conditions}
use Rattle.table.specs.{Trees.compare, Trees.cross, Trees.between, Trees.trend, Trees.every, Trees.any, Trees.negated, Trees.in_position, Trees.bars_since}
use Rattle.table.specs.{Trees.none, Trees.more, Writing.nodes_in, Writing.nodes_of, Writing.nodes_of_all}
use Rattle.steps.specs.{Translation.code, Translation.code_of, Translation.code_each}

operand_room : (a : Operand) (n : ℕ) → length (code a n) ≤ nodes_in a
unfolding code nodes_in
operand_room (const b) n = omega arith
operand_room (ref k) n = omega arith
operand_room (price s) n = omega arith
operand_room (prev a m) n = omega (arith, operand_room a (n + m))
operand_room (extreme k over m) n = omega arith
operand_room (sums k a b) n = simp length-append (omega (arith, operand_room a n, operand_room b n))

mutual
  unfolding code_of nodes_of

  condition_room : (c : Condition) → length (code_of c) + 1 ≤ 2 * nodes_of c
  condition_room (compare k a b) = simp length-append (omega (arith, operand_room a 0, operand_room b 0))
  condition_room (cross k a b) = simp length-append (omega (arith, operand_room a 0, operand_room b 0, operand_room a 1, operand_room b 1))
  condition_room (between x l u) = simp length-append (omega (arith, operand_room x 0, operand_room l 0, operand_room u 0))
  condition_room (trend k a n) = simp length-append (omega (arith, operand_room a 0, operand_room a n))
  condition_room (every cs) = omega (arith, each_room false cs)
  condition_room (any cs) = omega (arith, each_room true cs)
  condition_room (negated c) = simp length-append (omega (arith, condition_room c))
  condition_room (in_position w) = omega arith
  condition_room (bars_since p k) = omega arith

  each_room : (w : Bool) (cs : Conditions) → length (code_each w cs) ≤ 2 * nodes_of_all cs
  each_room w none = omega arith
  each_room w (more c cs) = simp length-append (omega (arith, condition_room c, each_room w cs))

-- at most two steps a node, so four are never reached
pub two_a_node : (c : Condition) → length (code_of c) ≤ 2 * nodes_of c
two_a_node c = omega (arith, condition_room c)
