-- By the node's shape; what is left of the nesting falls, and the conditions of All or Any come just above each of them. Their loops write
-- links in place of the jumps, and then the jumps (Links.antt).
use Rattle.words.specs.Prelude.{◌+◌, ◌-◌, ◌*◌, not}
use Rattle.rules.specs.{Flat.flat_condition_at}
use Rattle.translation.proofs.{Links.Writing, Links.Closing}
use Rattle.translation.proofs.+emit_condition_emit_each.Given as goal

abbrev pub decreases-emit_condition : goal.decreases-emit_condition
decreases-emit_condition l = 2 * l.left

abbrev pub invariant-emit_each-loop-k : goal.invariant-emit_each-loop-k
invariant-emit_each-loop-k l = Writing (not l.all) (flat_condition_at l.left l.t l.ends) l.ends l.n l.j l.initial.room l.at (l.n - l.k) l.last l.i l.end l.room

abbrev pub invariant-emit_each-loop-m : goal.invariant-emit_each-loop-m
invariant-emit_each-loop-m l = Closing (not l.all) (flat_condition_at l.left l.t l.ends) l.ends l.n l.j l.fn.room l.at l.m l.last l.end l.room

abbrev pub decreases-emit_each : goal.decreases-emit_each
decreases-emit_each l = 2 * l.left + 1
