-- How many bytes there are; where there are some, the window, its header, and the share of both.
use Rattle.words.specs.Prelude.{arith}
use Rattle.images.specs.{Layout.window_of}
use Rattle.dump.proofs.{Whole.parted_none, Whole.parted}
use Rattle.dump.proofs.part.write_part.Goals as goal

pub used_of-used-requires : goal.used_of-used-requires
used_of-used-requires c = (c.requires.slots, c.requires.depth)

pub returns-then-used-eq0 : goal.returns-then-used-eq0
returns-then-used-eq0 c =
    let a = c.args in
    parted_none a.s a.t a.rows.now a.at a.part.now c.requires.held c.used_of-used.ensures.0 c.if-used-eq0.true

pub held_window-kept-requires : goal.held_window-kept-requires
held_window-kept-requires c = (c.requires.slots, c.requires.held)

pub lay_head-requires : goal.lay_head-requires
lay_head-requires c =
    (omega (arith, c.used_of-used.ensures.0), c.used_of-used.ensures.1 (omega (arith, c.if-used-eq0.false)))

pub lay_rows-requires : goal.lay_rows-requires
lay_rows-requires c =
    (omega (arith, c.used_of-used.ensures.0), c.used_of-used.ensures.1 (omega (arith, c.if-used-eq0.false)))

pub returns : goal.returns
unfolding window_of
returns c =
    let a = c.args in
    parted a.s a.t a.rows.now a.at a.part.now c.requires.held c.used_of-used.ensures.0 _ c.held_window-kept.ensures
    c.row_count.ensures c.head_words-head.ensures c.lay_head.ensures c.lay_rows.ensures
