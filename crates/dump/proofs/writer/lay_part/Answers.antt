-- The bytes between the two places.
use Rattle.dump.proofs.{Storing.part_laid_lem}
use Rattle.dump.proofs.writer.lay_part.Goals as goal

pub returns : goal.returns
returns c =
    let a = c.args in
    part_laid_lem a.area.now a.base a.list.now a.skip a.start a.most a.from a.upto _ _ c.clip.ensures c.clip-2.ensures
    c.lay.ensures
