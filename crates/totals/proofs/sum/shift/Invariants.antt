-- `totals::sum::shift`: what was moved and what is still to be moved, at the place of word i, make up the whole. Assumes nothing.
use Rattle.words.specs.Prelude.{◌≡◌, ◌+◌, ◌*◌, ◌^◌, ◌<◌, length}
use Rattle.totals.specs.{Number.Moves, Number.AreWords, Number.number_of, Number.place}
use Rattle.totals.proofs.sum.shift.Given as goal

abbrev pub invariant-loop-i : goal.invariant-loop-i
invariant-loop-i l = (length l.sum ≡ length l.initial.sum) × (AreWords l.sum) × (l.hi < 2 ^ 63)
    × Moves l.down (number_of l.sum) ((l.lo + 2 ^ 64 * l.hi) * place l.i) (number_of l.initial.sum) ((l.low + 2 ^ 64 * l.high) * place l.at)
