-- By the cases of the entry bar.
use Rattle.refusals.proofs.rooms.entry_below.Goals as goal

pub returns-in-Some : goal.returns-in-Some
returns-in-Some c = simp c.in-Some.is
