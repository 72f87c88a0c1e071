-- Each turn steps over a bar, and what is left of the bars is stepped over from there.
use Rattle.words.specs.Prelude.{[]}
use Rattle.words.specs.{Limits.bar_words}
use Rattle.records.specs.{Lent.lists}
use Rattle.accounts.specs.{Own.own_bar}
use Rattle.streamed.proofs.{Riding.Turn, Riding.step_lent}
use Rattle.streamed.proofs.four.ride.Given as goal

abbrev pub invariant-loop-done : goal.invariant-loop-done
invariant-loop-done l = Turn l.settings (lists l.entry l.exit [] []) (own_bar l.stream l.slots) l.bars l.count (bar_words l.stream) (step_lent l.initial.state l.initial.rows l.initial.equity l.initial.trades) l.own l.done
    (step_lent l.state l.rows l.equity l.trades)
