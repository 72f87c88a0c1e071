-- The loop's invariant: what is still to be put, put after what was, gives what is to be there at the end.
use Rattle.words.specs.Prelude.{◌+◌}
use Rattle.table.specs.{Header.root}
use Rattle.table.proofs.{Listing.Listing}
use Rattle.table.proofs.silent.list_tree.Given as goal

abbrev pub invariant-loop-i : goal.invariant-loop-i
invariant-loop-i l = Listing l.t l.d (root l.t l.x) (root l.t (l.x + 1)) l.at l.initial.list l.list l.next l.i
