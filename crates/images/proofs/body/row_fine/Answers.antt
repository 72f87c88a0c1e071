-- Prices and volume, the mask, and the slots: what the row is judged by.
use Rattle.images.specs.{Laws.RowWords.row_read}
use Rattle.images.proofs.body.row_fine.Goals as goal

pub returns : goal.returns
returns c =
    let a = c.args in
    let m = c.word_at-mask.ensures.0 in
    row_read a.image.now a.at a.slots c.requires.0 (rw m at c.word_at-mask.ensures.1) c.candle_fine.ensures
    (rw m at c.mask_fits.ensures) (rw m at c.slots_plain.ensures)
