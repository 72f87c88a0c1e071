-- The rows, and what is behind them.
use Rattle.words.specs.Prelude.{ℕ, ◌≤◌, ◌≡◌, ap, ◌∙◌, not-true, not-false, arith, length, rules}
use Rattle.images.specs.{Reading.slots_in, Reading.rows_in, Reading.row_place}
use Rattle.images.proofs.{Testing.each_as, Testing.rows_rest, Testing.rows_bad}
use Rattle.images.proofs.judge.rows_fine.Goals as goal

pub each_fine-requires : goal.each_fine-requires
each_fine-requires c =
    let x = c.args.image.now in
    let end : row_place c.byte-slots.result c.read32-held.result ≡ row_place (slots_in x) (rows_in x) = rw (c.byte-slots.ensures, c.read32-held.ensures.0) in
    (omega (arith, c.byte-slots.ensures, c.requires.0), omega (arith, c.read32-held.ensures.0, c.requires.1), omega (arith, end, c.requires.2))

pub returns-then-not-each_fine : goal.returns-then-not-each_fine
returns-then-not-each_fine c =
    let x = c.args.image.now in
    rows_bad x (each_as x c.each_fine.ensures c.byte-slots.ensures c.read32-held.ensures.0) (not-true _ c.if-not-each_fine.true-raw)

pub row_place-end-requires : goal.row_place-end-requires
row_place-end-requires c =
    (omega (arith, c.byte-slots.ensures, c.requires.0), omega (arith, c.read32-held.ensures.0, c.requires.1))

pub overflow_sub-image : goal.overflow_sub-image
overflow_sub-image c =
    let within : c.row_place-end.result ≤ length c.args.image.now = let x = c.args.image.now in
    let end : row_place c.byte-slots.result c.read32-held.result ≡ row_place (slots_in x) (rows_in x) =
    rw (c.byte-slots.ensures, c.read32-held.ensures.0) in
    omega (arith, end, c.row_place-end.ensures.0, c.requires.2) in
    omega (arith, within)

pub zero_at-requires : goal.zero_at-requires
zero_at-requires c =
    let within : c.row_place-end.result ≤ length c.args.image.now = let x = c.args.image.now in
    let end : row_place c.byte-slots.result c.read32-held.result ≡ row_place (slots_in x) (rows_in x) =
    rw (c.byte-slots.ensures, c.read32-held.ensures.0) in
    omega (arith, end, c.row_place-end.ensures.0, c.requires.2) in
    let w = within in search rules

pub returns : goal.returns
returns c =
    let x = c.args.image.now in
    let at = c.row_place-end.ensures.0 ∙ ap (λ (k : ℕ). row_place k c.read32-held.result) c.byte-slots.ensures
    ∙ ap (row_place (slots_in x)) c.read32-held.ensures.0 in
    rows_rest x (each_as x c.each_fine.ensures c.byte-slots.ensures c.read32-held.ensures.0) at (not-false _ c.if-not-each_fine.false-raw)
    c.zero_at.ensures
