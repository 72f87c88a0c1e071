-- How many bytes there are; where there are some, the window, and the share of its header and of its rows.
use Rattle.words.specs.Prelude.{sym, ap, arith}
use Rattle.records.specs.{Settings.settings_of, StateWords.counts_of, StateWords.state_of}
use Rattle.images.specs.{Layout.window_of}
use Rattle.heads.specs.{Laws.Packed.head_words, Laws.Plain.plain_words_lem}
use Rattle.dumpable.specs.{Laws.Fine.part_fine}
use Rattle.dump.proofs.{Whole.parted_none, Whole.parted}
use Rattle.dump.proofs.part.write_words_part.Goals as goal

pub bounds-settings-0 : goal.bounds-settings-0
bounds-settings-0 c = omega (arith, c.requires.long)

pub bounds-settings-1 : goal.bounds-settings-1
bounds-settings-1 c = omega (arith, c.requires.long)

pub bounds-state-1 : goal.bounds-state-1
bounds-state-1 c = omega (arith, c.requires.full)

pub used_of-used-requires : goal.used_of-used-requires
unfolding settings_of
used_of-used-requires c =
    let fine = part_fine _ _ _ c.requires.fine in
    (fine.slots, fine.depth)

pub returns-then-used-eq0 : goal.returns-then-used-eq0
unfolding settings_of state_of counts_of
returns-then-used-eq0 c =
    let a = c.args in
    let fine = part_fine _ _ _ c.requires.fine in
    parted_none (settings_of a.settings.now) (state_of a.state.now) a.rows.now a.at a.part.now fine.held c.used_of-used.ensures.0
    c.if-used-eq0.true

pub held_window-kept-requires : goal.held_window-kept-requires
unfolding settings_of state_of counts_of
held_window-kept-requires c =
    let fine = part_fine _ _ _ c.requires.fine in
    (fine.slots, fine.held)

pub lay_direct_head-requires : goal.lay_direct_head-requires
lay_direct_head-requires c =
    (c.requires.full, omega (arith, c.used_of-used.ensures.0), c.used_of-used.ensures.1 (omega (arith, c.if-used-eq0.false)))

pub lay_rows-requires : goal.lay_rows-requires
lay_rows-requires c =
    (omega (arith, c.used_of-used.ensures.0), c.used_of-used.ensures.1 (omega (arith, c.if-used-eq0.false)))

pub returns : goal.returns
unfolding window_of settings_of state_of counts_of
returns c =
    let a = c.args in
    let fine = part_fine _ _ _ c.requires.fine in
    parted (settings_of a.settings.now) (state_of a.state.now) a.rows.now a.at a.part.now fine.held c.used_of-used.ensures.0 _
    c.held_window-kept.ensures c.row_count-count.ensures (ap (head_words _ _ _) (sym (plain_words_lem a.state.now))) c.lay_direct_head.ensures
    c.lay_rows.ensures
