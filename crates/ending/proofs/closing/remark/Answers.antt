-- By the cases of the exit; where there is no point, or none in the room, nothing is done.
use Rattle.words.specs.Prelude.{◌∙◌}
use Rattle.engine.specs.{Finish.remarked}
use Rattle.ending.proofs.{Endings.no_point, Endings.late_point, Endings.last_point}
use Rattle.ending.proofs.closing.remark.Goals as goal

pub returns-then-n-eq0 : goal.returns-then-n-eq0
returns-then-n-eq0 c = no_point _ _ _ _ c.if-n-eq0.true

pub returns-then-equity-n : goal.returns-then-equity-n
returns-then-equity-n c = late_point _ _ _ _ c.if-equity-n.true

pub returns-in-None : goal.returns-in-None
unfolding remarked
returns-in-None c = simp c.in-None.is

pub returns-else-equity-n : goal.returns-else-equity-n
returns-else-equity-n c =
    last_point _ _ _ _ _ _ c.in-Some.is c.if-n-eq0.false (c.word_of.ensures ∙ rw c.equity.ensures)
