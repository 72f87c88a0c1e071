-- `misfits_of` meets its contract: the first place that one of the four trees gives.
-- Assumes nothing.
use Rattle.words.specs.Prelude.{◌∙◌}
use Rattle.table.proofs.{Four.four_misfits}
use Rattle.table.proofs.order.misfits_of.Goals as goal

pub returns : goal.returns
returns c =
    c.first_place.ensures ∙ four_misfits _ _ c.requires.roots _ _ _ _
    c.misfit_of-p.ensures c.misfit_of-q.ensures c.misfit_of-r.ensures c.misfit_of-s.ensures
