-- As many words as the rows have.
use Rattle.words.specs.Prelude.{◌+◌, ◌*◌, ◌≡◌, le_refl, arith}
use Rattle.words.specs.{Limits.row_words}
use Rattle.rows.specs.{Laws.RowEnds.rows_most}
use Rattle.images.specs.{Reading.slots_in, Reading.rows_in}
use Rattle.images.proofs.{Reading.window_over}
use Rattle.images.proofs.reader.read_window.Goals as goal

pub overflow_mul-n : goal.overflow_mul-n
overflow_mul-n c =
    omega (arith, rows_most c.byte.result c.read32.result _ (omega (arith, c.byte.ensures, c.requires.0)) (le_refl _), c.read32.ensures.1)

pub read_words-requires : goal.read_words-requires
read_words-requires c =
    let x = c.args.image.now in
    let n : c.read32.result * (7 + c.byte.result) ≡ rows_in x * row_words (slots_in x) = rw (c.read32.ensures.0, c.byte.ensures) in
    (omega (arith, n, c.requires.1), omega (arith, n, c.requires.2))

pub returns : goal.returns
returns c =
    window_over c.args.image.now c.args.rows.now _ _ c.read32.ensures.0 c.byte.ensures c.requires.1 c.read_words.ensures
