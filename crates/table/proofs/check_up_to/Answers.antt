-- `check_up_to` meets its contract: a rule of the header is broken, or what is left decides.
-- Assumes nothing.
use Rattle.words.specs.Prelude.{sym, ◌∙◌}
use Rattle.table.proofs.{Final.one_at}
use Rattle.table.proofs.check_up_to.Goals as goal

pub returns-in-Some : goal.returns-in-Some
returns-in-Some c =
    one_at _ _ _ _ _ _ (sym c.header_refusal.ensures ∙ c.in-Some.is) c.refused.ensures.0 c.refused.ensures.1
