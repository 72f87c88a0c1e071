-- What is wanted picks the answer. Assumes nothing.
use Rattle.rules.proofs.conditions.in_position.Goals as goal

pub returns-then-wanted : goal.returns-then-wanted
returns-then-wanted c = rw c.if-wanted.true c.in_position-held.ensures

pub returns-else-wanted : goal.returns-else-wanted
returns-else-wanted c = rw (c.if-wanted.false, ← c.in_position-held.ensures)
