-- One return for each way to say no, and one for the count. Assumes nothing.
use Rattle.rules.specs.{Values.counted_since}
use Rattle.rules.proofs.values.since_entry.Goals as goal

pub returns-in-None : goal.returns-in-None
unfolding counted_since
returns-in-None c = rw (← c.in_position.ensures, c.if-in_position.true, c.in-None.is)

pub returns-in-Some : goal.returns-in-Some
unfolding counted_since
returns-in-Some c =
    rw
    (← c.in_position.ensures, c.if-in_position.true, c.in-Some.is, ← c.bars_since.ensures) c.bars_tested.ensures

pub returns-else-in_position : goal.returns-else-in_position
unfolding counted_since
returns-else-in_position c = rw (← c.in_position.ensures, c.if-in_position.false)
