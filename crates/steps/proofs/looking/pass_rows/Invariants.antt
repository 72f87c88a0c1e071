-- The loop's invariant: so many rows are passed over, and the one after them begins at `at`.
use Rattle.words.specs.Prelude.{◌+◌, ◌*◌, ◌≡◌}
use Rattle.steps.specs.{Looks.over_of, Looks.PassedOver}
use Rattle.steps.proofs.looking.pass_rows.Given as goal

abbrev pub invariant-loop-k : goal.invariant-loop-k
invariant-loop-k l = (l.at ≡ l.base + l.k * (7 + l.slots)) × PassedOver l.kind (over_of l.slot l.which) l.rows l.slots l.base l.best l.k
