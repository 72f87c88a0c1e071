-- The row lies within the words, so nothing wraps; then a slot or a price.
use Rattle.words.specs.Prelude.{arith, sym, true, false, ◌+◌, ◌*◌, ◌≤◌, length}
use Rattle.steps.specs.{Looks.over_of}
use Rattle.steps.proofs.{Rows.place_ends, Looks.series_there}
use Rattle.steps.proofs.looking.series_at.Goals as goal

pub overflow_add-base : goal.overflow_add-base
overflow_add-base c =
    let ends : let a = c.args in c.place.result * (7 + a.slots) + (7 + a.slots) ≤ length a.rows.now = rw c.place.ensures (place_ends c.args.slots c.args.first c.args.rows.now c.args.held 0
    c.requires.0 c.requires.1 c.args.i c.requires.2) in
    omega (arith, ends)

pub overflow_mul-base : goal.overflow_mul-base
overflow_mul-base c =
    let ends : let a = c.args in c.place.result * (7 + a.slots) + (7 + a.slots) ≤ length a.rows.now = rw c.place.ensures (place_ends c.args.slots c.args.first c.args.rows.now c.args.held 0
    c.requires.0 c.requires.1 c.args.i c.requires.2) in
    omega (arith, ends)

pub returns-then-slot : goal.returns-then-slot
returns-then-slot c =
    let a = c.args in
    rw (c.if-slot.true, c.slot_at.ensures, c.place.ensures)
    (sym (series_there a.slots a.first a.rows.now a.held c.requires.0 c.requires.1 (over_of true a.which) a.i c.requires.2))

pub returns : goal.returns
returns c =
    let a = c.args in
    rw (c.if-slot.false, c.price_at.ensures, c.place.ensures)
    (sym (series_there a.slots a.first a.rows.now a.held c.requires.0 c.requires.1 (over_of false a.which) a.i c.requires.2))
