-- One bar, or whole bars. Assumes nothing.
use Rattle.refusals.specs.{Day.whole_bars, Day.whole_for}
use Rattle.refusals.proofs.day.are_for.Goals as goal

pub returns-in-One : goal.returns-in-One
unfolding whole_for
returns-in-One c = rw c.in-One.is c.is_whole.ensures

pub returns-in-Many : goal.returns-in-Many
unfolding whole_for whole_bars
returns-in-Many c = rw c.in-Many.is
