-- The loop's invariant: the best so far is that of the bars up to the one reached. Assumes nothing.
use Rattle.std.specs.Prelude.{Some}
use Rattle.words.specs.Prelude.{◌-◌, ◌≤◌, ◌≡◌}
use Rattle.rows.specs.{History.history_of}
use Rattle.table.specs.{declared.series.Series.TheVariants.Price}
use Rattle.rules.specs.{Meaning.extreme_over}
use Rattle.rules.proofs.operands.field_over.Given as goal

abbrev pub invariant-loop-at : goal.invariant-loop-at
invariant-loop-at l = (l.oldest ≤ l.at) × (Some l.best ≡ extreme_over (history_of l.slots l.rows) l.kind (Price l.selector) l.oldest (l.at - l.oldest))
