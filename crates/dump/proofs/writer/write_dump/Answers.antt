-- The window, its header, and both in the order of writing.
use Rattle.words.specs.Prelude.{arith}
use Rattle.images.specs.{Layout.dump_bytes, Layout.window_of}
use Rattle.dump.proofs.{Whole.dumped}
use Rattle.dump.proofs.writer.write_dump.Goals as goal

pub write_order-requires : goal.write_order-requires
unfolding dump_bytes
write_order-requires c =
    omega (arith, c.body_words.ensures, c.requires.place)

pub returns : goal.returns
unfolding window_of
returns c =
    let a = c.args in
    dumped a.s a.t a.rows.now a.area.now a.from a.upto _ _ c.requires.held c.held_window-kept.ensures c.row_count.ensures
    c.head_words-head.ensures c.body_words.ensures c.write_order.ensures
