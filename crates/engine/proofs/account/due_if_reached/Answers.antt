-- A case each.
use Rattle.words.specs.Prelude.{sym, ◌∙◌}
use Rattle.engine.specs.{Account.due_if_reached}
use Rattle.engine.proofs.account.due_if_reached.Goals as goal

pub returns-in-None : goal.returns-in-None
unfolding due_if_reached
returns-in-None c = simp (sym c.level_fill-price.ensures ∙ c.in-None.is)

pub returns-in-Some : goal.returns-in-Some
unfolding due_if_reached
returns-in-Some c = simp (sym c.level_fill-price.ensures ∙ c.in-Some.is)
