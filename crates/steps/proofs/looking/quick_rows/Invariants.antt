-- The loop's invariant: the best so far is that of the rows before `at`, and its word is below the infinity's.
use Rattle.std.specs.Prelude.{Some}
use Rattle.words.specs.Prelude.{◌+◌, ◌-◌, ◌*◌, ◌<◌, ◌≤◌, ◌≡◌}
use Rattle.floats.specs.{Floats.float_of}
use Rattle.steps.specs.{Looks.over_of, Looks.best_after}
use Rattle.steps.proofs.looking.quick_rows.Given as goal

abbrev pub invariant-loop-left : goal.invariant-loop-left
invariant-loop-left l = (l.left ≤ l.count) × (l.at ≡ l.base + (l.count - l.left) * (7 + l.slots)) × (l.best < 0x7ff0_0000_0000_0000)
    × (Some (float_of l.best) ≡ best_after l.kind (over_of l.slot l.which) l.rows l.slots l.base (Some (float_of l.start)) (l.count - l.left))

abbrev pub decreases-loop-left : goal.decreases-loop-left
decreases-loop-left l = l.left
