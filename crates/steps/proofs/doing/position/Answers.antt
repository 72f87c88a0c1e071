-- The test is that of the definition.
use Rattle.steps.proofs.doing.position.Goals as goal

pub returns-then-wanted : goal.returns-then-wanted
returns-then-wanted c = rw c.if-wanted.true c.in_position.ensures

pub returns : goal.returns
returns c = rw (c.if-wanted.false, ← c.in_position-2.ensures)
