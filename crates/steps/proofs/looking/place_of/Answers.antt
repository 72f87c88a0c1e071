-- A slot or a price.
use Rattle.steps.proofs.looking.place_of.Goals as goal

pub returns-then-slot : goal.returns-then-slot
returns-then-slot c = rw c.if-slot.true

pub returns : goal.returns
returns c = rw c.if-slot.false
