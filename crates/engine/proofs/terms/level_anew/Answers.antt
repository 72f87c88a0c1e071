-- A case each.
use Rattle.engine.proofs.terms.level_anew.Goals as goal

pub returns-in-Absent : goal.returns-in-Absent
returns-in-Absent c = simp c.in-Absent.is

pub returns-in-Of : goal.returns-in-Of
returns-in-Of c = simp c.in-Of.is
