-- Each kind's number picks its case; any other number none of them.
use Rattle.words.specs.Prelude.{ne_eqb}
use Rattle.records.specs.{Settings.order_type_of}
use Rattle.records.proofs.settings.order_type_of.Goals as goal

pub returns-in-0 : goal.returns-in-0
unfolding order_type_of
returns-in-0 c = simp c.in-0.is

pub returns-in-1 : goal.returns-in-1
unfolding order_type_of
returns-in-1 c = simp c.in-1.is

pub returns-in-2 : goal.returns-in-2
unfolding order_type_of
returns-in-2 c = simp c.in-2.is

pub returns-in-3 : goal.returns-in-3
unfolding order_type_of
returns-in-3 c = simp c.in-3.is

pub returns-in_default : goal.returns-in_default
unfolding order_type_of
returns-in_default c =
    simp (
      ne_eqb _ _ c.in_default.in_default-own.rest.1,
      ne_eqb _ _ c.in_default.in_default-own.rest.0.1,
      ne_eqb _ _ c.in_default.in_default-own.rest.0.0.1,
      ne_eqb _ _ c.in_default.in_default-own.rest.0.0.0.1,
    )
