-- The rows move up where they must, and the row is written at its place: all else of the room stands. Assumes nothing.
use Rattle.words.specs.Prelude.{arith}
use Rattle.engine.specs.{Laws.Lengths.row_long, Record.row_of}
use Rattle.engine.proofs.{Placing.written}
use Rattle.engine.proofs.record.record_bar.Goals as goal

pub returns : goal.returns
returns c =
    let a = c.args in
    written a.rows.now _ a.place (row_of a.slots a.bar.now) (row_long a.slots a.bar.now) c.shift.ensures
    (omega (arith, c.requires.2, c.shift.auto.room)) c.fill_row.ensures
