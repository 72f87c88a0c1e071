-- `close_at`: the row stands within the list, so nothing wraps; then its word, as a float.
use Rattle.words.specs.Prelude.{arith, ◌*◌, ◌+◌, ◌≤◌, length}
use Rattle.rows.specs.{History.history_of, History.field, History.width, Laws.RowEnds.row_ends, Laws.Ring.place_within, Laws.Ring.ring_row}
use Rattle.execution.proofs.volatility.close_at.Goals as goal

pub overflow_add-base : goal.overflow_add-base
overflow_add-base c =
    let ends : c.place.result * width c.args.slots + width c.args.slots ≤ length c.args.rows.now = row_ends c.args.slots c.args.rows.now c.place.result
    (rw (← c.requires.0, c.place.ensures) (place_within c.args.held c.args.start c.args.i c.requires.1 c.requires.2)) in
    omega (arith, ends)

pub overflow_mul-base : goal.overflow_mul-base
overflow_mul-base c =
    let ends : c.place.result * width c.args.slots + width c.args.slots ≤ length c.args.rows.now = row_ends c.args.slots c.args.rows.now c.place.result
    (rw (← c.requires.0, c.place.ensures) (place_within c.args.held c.args.start c.args.i c.requires.1 c.requires.2)) in
    omega (arith, ends)

pub returns : goal.returns
unfolding field
returns c =
    let row = ring_row c.args.slots c.args.start c.args.rows.now c.args.i (rw c.requires.0 at c.requires.1) (rw c.requires.0 at c.requires.2) in
    rw (c.float_of.ensures, c.word_from.ensures, c.place.ensures, row) (unfold history_of in rw (← c.requires.0))
