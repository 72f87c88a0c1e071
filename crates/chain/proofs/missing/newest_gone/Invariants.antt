-- The loop's invariant: the newest of all is the newest of what is left. Assumes nothing.
use Rattle.words.specs.Prelude.{◌+◌, ◌-◌, ◌≡◌}
use Rattle.rows.specs.{History.history_of}
use Rattle.table.specs.{Series.as_operand}
use Rattle.chain.specs.{Missing.newest_gone}
use Rattle.chain.proofs.missing.newest_gone.Given as goal

abbrev pub invariant-loop-at : goal.invariant-loop-at
invariant-loop-at l = newest_gone (history_of l.slots l.rows) (as_operand l.over) l.i l.bar l.back l.more
    ≡ newest_gone (history_of l.slots l.rows) (as_operand l.over) l.i l.bar l.at (l.back + l.more - l.at)
