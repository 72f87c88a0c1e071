-- Each kind's number picks its case; any other number none of them.
use Rattle.words.specs.Prelude.{ne_eqb}
use Rattle.records.specs.{Settings.slippage_of}
use Rattle.records.proofs.settings.slippage_of.Goals as goal

pub returns-in-0 : goal.returns-in-0
unfolding slippage_of
returns-in-0 c = simp (c.in-0.is, c.float_of-x.ensures)

pub returns-in-1 : goal.returns-in-1
unfolding slippage_of
returns-in-1 c = simp (c.in-1.is, c.float_of-x.ensures)

pub returns-in_default : goal.returns-in_default
unfolding slippage_of
returns-in_default c = simp (ne_eqb _ _ c.in_default.in_default-own.rest.1, ne_eqb _ _ c.in_default.in_default-own.rest.0.1)
