-- The window, its header, and both in the order of writing.
use Rattle.words.specs.Prelude.{sym, ap, ◌∙◌, arith}
use Rattle.records.specs.{Settings.settings_of, StateWords.counts_of, StateWords.state_of}
use Rattle.images.specs.{Layout.dump_bytes, Layout.window_of}
use Rattle.dumpable.specs.{Laws.Fine.dump_fine}
use Rattle.heads.specs.{Laws.Packed.head_words, Laws.Plain.plain_words_lem}
use Rattle.dump.proofs.{Whole.dumped}
use Rattle.dump.proofs.direct.write_words.Goals as goal

pub bounds-settings-0 : goal.bounds-settings-0
bounds-settings-0 c = omega (arith, c.requires.long)

pub bounds-settings-1 : goal.bounds-settings-1
bounds-settings-1 c = omega (arith, c.requires.long)

pub bounds-state-1 : goal.bounds-state-1
bounds-state-1 c = omega (arith, c.requires.full)

pub held_window-kept-requires : goal.held_window-kept-requires
unfolding settings_of state_of counts_of
held_window-kept-requires c =
    let fine = dump_fine _ _ _ _ c.requires.fine in
    (fine.slots, fine.held)

pub body_words-requires : goal.body_words-requires
unfolding settings_of
body_words-requires c =
    let fine = dump_fine _ _ _ _ c.requires.fine in
    (fine.slots, fine.depth)

pub write_order-requires : goal.write_order-requires
unfolding settings_of dump_bytes
write_order-requires c =
    let fine = dump_fine _ _ _ _ c.requires.fine in
    omega (arith, c.body_words.ensures, fine.place)

pub returns : goal.returns
unfolding window_of settings_of state_of counts_of
returns c =
    let a = c.args in
    let fine = dump_fine _ _ _ _ c.requires.fine in
    dumped (settings_of a.settings.now) (state_of a.state.now) a.rows.now a.area.now a.from a.upto _ _ fine.held
    c.held_window-kept.ensures c.row_count-count.ensures
    (c.direct_head-head.ensures c.requires.full ∙ ap (head_words _ _ _) (sym (plain_words_lem a.state.now)))
    c.body_words.ensures c.write_order.ensures
