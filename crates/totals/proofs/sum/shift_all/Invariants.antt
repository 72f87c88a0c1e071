-- `totals::sum::shift_all`: after i words the number of the first i has been moved. Assumes nothing.
use Rattle.words.specs.Prelude.{◌≡◌, ◌≤◌}
use Rattle.words.specs.Prelude.{length, take}
use Rattle.totals.specs.{Number.place, Number.number_of, Number.words_of, Number.shifted}
use Rattle.totals.proofs.sum.shift_all.Given as goal

abbrev pub invariant-loop-i : goal.invariant-loop-i
invariant-loop-i l = (l.i ≤ length l.words) × (l.sum ≡ words_of (length l.initial.sum) (shifted l.down (place (length l.initial.sum)) (number_of l.initial.sum) (number_of (take l.i l.words))))
