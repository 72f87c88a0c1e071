-- `far_or_accepted` meets its contract: a reach capped at 4,096 tells as much as the reach.
-- Assumes nothing.
use Rattle.words.specs.Prelude.{sym, ◌∙◌}
use Rattle.table.proofs.{Four.fars_are, Four.rows_are, Four.nine_refused, Four.nine_accepted}
use Rattle.table.proofs.reach.far_or_accepted.Goals as goal

pub returns-in-Some : goal.returns-in-Some
returns-in-Some c =
    let roots = c.requires.roots in
    nine_refused _ _
    (sym
    (fars_are _ _ roots _ _ _ _ _
    c.reach_of-w.ensures
    c.reach_of-x.ensures
    c.reach_of-y.ensures
    c.reach_of-z.ensures
    c.too_far-far.ensures)
    ∙ c.in-Some.is)

pub returns-in-None : goal.returns-in-None
returns-in-None c =
    let roots = c.requires.roots in
    let w = c.reach_of-w.ensures in
    let x = c.reach_of-x.ensures in
    let y = c.reach_of-y.ensures in
    let z = c.reach_of-z.ensures in
    let near = sym (fars_are _ _ roots _ _ _ _ _ w x y z c.too_far-far.ensures) ∙ c.in-None.is in
    nine_accepted _ _ _ near roots.all (rows_are _ _ roots _ _ _ _ _ w x y z near c.rows_needed-rows.ensures)
