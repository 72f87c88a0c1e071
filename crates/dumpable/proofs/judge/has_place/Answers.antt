-- Tests on the bytes that are left for rows.
use Rattle.words.specs.Prelude.{sym}
use Rattle.dumpable.proofs.{Places.too_short, Places.no_rows, Places.too_wide, Places.rows_place}
use Rattle.dumpable.proofs.judge.has_place.Goals as goal

pub returns-then-bytes-lt-HEAD_BYTES : goal.returns-then-bytes-lt-HEAD_BYTES
returns-then-bytes-lt-HEAD_BYTES c = let a = c.args in sym (too_short a.slots a.depth a.bytes c.if-bytes-lt-HEAD_BYTES.true)

pub returns-then-depth-eq0 : goal.returns-then-depth-eq0
returns-then-depth-eq0 c = let a = c.args in sym (no_rows a.slots a.depth a.bytes c.if-bytes-lt-HEAD_BYTES.false c.if-depth-eq0.true)

pub returns-then-left-slots : goal.returns-then-left-slots
returns-then-left-slots c =
    let a = c.args in
    sym (too_wide a.slots a.depth a.bytes c.if-bytes-lt-HEAD_BYTES.false c.if-depth-eq0.false c.if-left-slots.true)

pub returns : goal.returns
returns c = let a = c.args in rows_place a.slots a.depth a.bytes c.if-bytes-lt-HEAD_BYTES.false
