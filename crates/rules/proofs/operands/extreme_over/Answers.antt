-- A number that a row itself holds, or anything else. Assumes nothing.
use Rattle.rules.proofs.operands.extreme_over.Goals as goal

pub returns-in-Price : goal.returns-in-Price
returns-in-Price c = rw c.in-Price.is c.field_over.ensures
