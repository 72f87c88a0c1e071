-- A price or a slot of a row that is there. Assumes nothing.
use Rattle.rows.specs.{History.history_of}
use Rattle.rules.specs.{Laws.Meaning.price_series, Laws.Meaning.slot_series}
use Rattle.rules.proofs.operands.series_of_bar.Goals as goal

pub returns-in-Price : goal.returns-in-Price
returns-in-Price c =
    let a = c.args in
    let h = history_of a.slots a.rows.now in
    rw (c.in-Price.is, price_series h a.bar c.requires c.in-Price.selector, ← c.price_of_bar.ensures)

pub returns-in-Slot : goal.returns-in-Slot
returns-in-Slot c =
    let a = c.args in
    let h = history_of a.slots a.rows.now in
    rw (c.in-Slot.is, slot_series h a.bar c.requires c.in-Slot.slot) c.slot_of_bar.ensures
