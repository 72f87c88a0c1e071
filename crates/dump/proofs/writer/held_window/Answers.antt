-- The rows held lie within the room.
use Rattle.words.specs.Prelude.{◌+◌, ◌*◌, sym, arith, length-take-le}
use Rattle.words.specs.{Laws.Records.records_fit}
use Rattle.engine.specs.{Record.held_rows}
use Rattle.dump.proofs.writer.held_window.Goals as goal

pub overflow_mul-end : goal.overflow_mul-end
overflow_mul-end c =
    omega (arith, records_fit _ (7 + c.args.slots) (omega arith) c.args.held c.requires.1)

pub slice_bounds-window-end : goal.slice_bounds-window-end
slice_bounds-window-end c =
    sym (length-take-le (c.args.held * (7 + c.args.slots)) c.args.rows.now
    (records_fit _ (7 + c.args.slots) (omega arith) c.args.held c.requires.1))

pub returns : goal.returns
unfolding held_rows
returns c = c.window.ensures
