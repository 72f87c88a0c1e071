-- Each kind's number picks its case; any other number none of them.
use Rattle.words.specs.Prelude.{ne_eqb}
use Rattle.records.specs.{Settings.sizing_of}
use Rattle.records.proofs.settings.sizing_of.Goals as goal

pub returns-in-0 : goal.returns-in-0
unfolding sizing_of
returns-in-0 c = simp (c.in-0.is, c.float_of-x.ensures)

pub returns-in-1 : goal.returns-in-1
unfolding sizing_of
returns-in-1 c = simp (c.in-1.is, c.float_of-x.ensures)

pub returns-in-2 : goal.returns-in-2
unfolding sizing_of
returns-in-2 c = simp (c.in-2.is, c.float_of-x.ensures)

pub returns-in-3 : goal.returns-in-3
unfolding sizing_of
returns-in-3 c = simp (c.in-3.is, c.float_of-x.ensures)

pub returns-in-4 : goal.returns-in-4
unfolding sizing_of
returns-in-4 c = simp (c.in-4.is, c.float_of-x.ensures)

pub returns-in_default : goal.returns-in_default
unfolding sizing_of
returns-in_default c =
    let not3 = c.in_default.in_default-own.rest.0 in
    let not1 = not3.0.0 in
    simp (ne_eqb _ _ c.in_default.in_default-own.rest.1, ne_eqb _ _ not3.1, ne_eqb _ _ not3.0.1, ne_eqb _ _ not1.1, ne_eqb _ _ not1.0.1)
