-- `tally_of`: at each row, what the pass has and what is left of it come to the whole. `before` is the row's close.
use Rattle.words.specs.Prelude.{◌≡◌, ◌≤◌}
use Rattle.rows.specs.{Ring.ring_of}
use Rattle.execution.specs.{Volatility.close_at, Tally.tally_from}
use Rattle.execution.proofs.{Passes.rest}
use Rattle.floats.specs.Floats as Floats
use Rattle.execution.proofs.volatility.tally_of.Given as goal

abbrev pub invariant-loop-i : goal.invariant-loop-i
invariant-loop-i l = (l.before ≡ close_at (ring_of l.slots l.start l.rows) l.i)
    × (tally_from l.term l.count l.total (rest (ring_of l.slots l.start l.rows) l.i l.last) ≡ tally_from l.term 0 Floats.zero (rest (ring_of l.slots l.start l.rows) l.first l.last))
    × (l.count ≤ l.i)
