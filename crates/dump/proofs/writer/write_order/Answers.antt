-- All of it, or in parts.
use Rattle.words.specs.Prelude.{◌*◌, ◌∙◌}
use Rattle.dump.specs.{Laws.InOrder.in_order_whole}
use Rattle.dump.proofs.writer.write_order.Goals as goal

pub returns-then-words-upto : goal.returns-then-words-upto
returns-then-words-upto c =
    let a = c.args in
    c.write_whole.ensures
    ∙ in_order_whole a.area.now a.head.now a.rows.now (8 * a.words) a.from a.upto c.if-from-eq0.true c.if-words-upto.true

pub returns : goal.returns
returns c = c.write_parts.ensures
