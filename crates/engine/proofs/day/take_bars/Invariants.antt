-- Each turn takes a bar, and what is left of the bars is run over from there, over the rows as they would stand. Assumes nothing.
use Rattle.records.specs.{Lent.rooms}
use Rattle.refusals.specs.{Lists.lists_of}
use Rattle.engine.proofs.{Days.Turn}
use Rattle.engine.proofs.day.take_bars.Given as goal

abbrev pub invariant-loop-done : goal.invariant-loop-done
invariant-loop-done l = Turn l.span l.s (lists_of l.trees) l.initial.state (rooms l.initial.rows l.initial.equity l.initial.trades) l.bars l.done l.start l.state l.rows l.equity l.trades
