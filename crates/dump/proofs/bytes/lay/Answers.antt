-- Bytes up to a whole word, whole words, and the bytes that are over.
use Rattle.words.specs.Prelude.{◌+◌, ◌-◌, ◌*◌, ◌/◌, ◌%◌, ◌<◌, ◌≤◌, arith}
use Rattle.images.specs.{Layout.words_bytes}
use Rattle.dump.proofs.{Storing.laid_two}
use Rattle.dump.proofs.bytes.lay.Goals as goal

pub returns : goal.returns
returns c =
    let a = c.args in
    let i = a.p / 8 + (a.p % 8 + 7) / 8 in
    let j = a.q / 8 in
    let more : i < j = c.if-j-i.false in
    let up : a.p ≤ 8 * i = omega arith in
    let down : 8 * j ≤ a.q = omega arith in
    laid_two a.area.now a.base (words_bytes a.list.now) a.p (8 * j - a.p) (8 * j) (a.q - 8 * j) (a.q - a.p)
    (laid_two a.area.now a.base (words_bytes a.list.now) a.p (8 * i - a.p) (8 * i) (8 * j - 8 * i) (8 * j - a.p)
    c.lay_bytes-2.ensures c.lay_words.ensures (omega arith) (omega arith))
    c.lay_bytes-3.ensures (omega arith) (omega arith)
