-- A slot or a price.
use Rattle.words.specs.Prelude.{arith}
use Rattle.steps.proofs.looking.series_in.Goals as goal

pub slot_in-requires : goal.slot_in-requires
slot_in-requires c =
    let has = c.requires.which_lt_slots c.if-slot.true in
    (omega (arith, c.requires.slots_in_bounds, has.0), has.1)

pub returns-then-slot : goal.returns-then-slot
returns-then-slot c = rw c.if-slot.true c.slot_in.ensures

pub price_in-requires : goal.price_in-requires
price_in-requires c = omega (arith, c.requires.slots_in_bounds)

pub returns : goal.returns
returns c = rw (c.if-slot.false, c.price_in.ensures)
