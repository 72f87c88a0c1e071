-- The test decides the case. Assumes nothing.
use Rattle.words.specs.Prelude.{sym, ◌∙◌}
use Rattle.engine.specs.{Finish.last_exit}
use Rattle.ending.proofs.closing.last_exit.Goals as goal

pub returns-then-to_close : goal.returns-then-to_close
unfolding last_exit
returns-then-to_close c =
    simp (sym c.to_close.ensures ∙ c.if-to_close.true, c.close.ensures)

pub returns : goal.returns
unfolding last_exit
returns c = simp (sym c.to_close.ensures ∙ c.if-to_close.false)
