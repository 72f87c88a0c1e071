-- One bar is never none. Assumes nothing.
use Rattle.engine.specs.{Day.no_bars}
use Rattle.engine.proofs.day.no_bars.Goals as goal

pub returns-in-One : goal.returns-in-One
unfolding no_bars
returns-in-One c = rw c.in-One.is

pub returns-in-Many : goal.returns-in-Many
unfolding no_bars
returns-in-Many c = rw c.in-Many.is c.is_empty.ensures
