-- `too_deep` meets its contract: the first place that one of the four trees gives.
-- Assumes nothing.
use Rattle.words.specs.Prelude.{◌∙◌}
use Rattle.table.proofs.{Four.four_deep}
use Rattle.table.proofs.nesting.too_deep.Goals as goal

pub returns : goal.returns
returns c =
    c.first_place.ensures ∙ four_deep _ _ c.requires.roots _ _ _ _
    c.deep_of-p.ensures c.deep_of-q.ensures c.deep_of-r.ensures c.deep_of-s.ensures
