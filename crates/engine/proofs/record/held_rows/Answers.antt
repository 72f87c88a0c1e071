-- A row is 7 + K words. Assumes nothing.
use Rattle.engine.specs.{Record.held_rows}
use Rattle.engine.proofs.record.held_rows.Goals as goal

pub returns : goal.returns
unfolding held_rows
returns c = cc
