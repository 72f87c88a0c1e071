-- The mask is halved, so that its lowest bit is bit k; all bits below k are fine. Assumes nothing.
use Rattle.words.specs.Prelude.{◌/◌, ◌^◌, ◌≡◌, true, get_or}
use Rattle.refusals.specs.{Bar.every, Bar.slot_fine}
use Rattle.refusals.proofs.bar.slots_fine.Given as goal

abbrev pub invariant-loop-k : goal.invariant-loop-k
invariant-loop-k l = (l.left ≡ get_or l.bar 6 0 / 2 ^ l.k) × (every l.k (slot_fine l.slots l.bar) ≡ true)
