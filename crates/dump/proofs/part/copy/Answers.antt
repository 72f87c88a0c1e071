-- Bytes up to a whole word, and what follows it.
use Rattle.words.specs.Prelude.{◌+◌, ◌-◌, ◌*◌, ◌/◌, ◌%◌, ◌<◌, arith}
use Rattle.dump.specs.{Laws.Placed.laid_from}
use Rattle.dump.proofs.part.copy.Goals as goal

pub returns : goal.returns
returns c =
    let a = c.args in
    let i = a.p / 8 + (a.p % 8 + 7) / 8 in
    let over = 8 * i - a.p in
    let more : over < a.n = c.if-n-over.false in
    laid_from a.part.now a.to a.list.now a.p i over a.n (omega arith) (omega arith) c.copy_bytes-2.ensures
    c.words_from.ensures c.lay.ensures
