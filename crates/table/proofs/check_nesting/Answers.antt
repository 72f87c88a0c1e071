-- `check_nesting` meets its contract: rule 8 is broken, or what is left decides.
-- Assumes nothing.
use Rattle.words.specs.declared.refusal.Refusal.TheVariants as Refusal
use Rattle.words.specs.Prelude.{sym, ◌∙◌}
use Rattle.table.proofs.{Final.stage_at, Final.stage_none}
use Rattle.table.specs.{Checked.from8}
use Rattle.table.proofs.check_nesting.Goals as goal

pub returns-in-Some : goal.returns-in-Some
unfolding from8
returns-in-Some c = stage_at Refusal.Nesting _ _ _ _ _ _ (sym c.too_deep-deep.ensures ∙ c.in-Some.is) c.refused.ensures.0 c.refused.ensures.1

pub returns-in-None : goal.returns-in-None
unfolding from8
returns-in-None c =
    let told = c.check_reach.ensures in
    stage_none Refusal.Nesting _ _ _ _ _ (sym c.too_deep-deep.ensures ∙ c.in-None.is) told.0 told.1
