-- The words are moved where the room has them; else nothing is done. Assumes nothing.
use Rattle.words.specs.Prelude.{arith, sym, ◌∙◌, le-leb, lt-leb}
use Rattle.words.specs.{Words.shifted, Laws.Overwrite.shifted_fits}
use Rattle.words.proofs.moving.shift.Goals as goal

pub returns-then-end-width : goal.returns-then-end-width
unfolding shifted
returns-then-end-width c = simp (lt-leb _ _ c.if-end-width.true)

pub returns-then-room-end : goal.returns-then-room-end
unfolding shifted
returns-then-room-end c = simp (le-leb _ _ c.if-end-width.false, lt-leb _ _ c.if-room-end.true)

pub returns : goal.returns
returns c =
    let a = c.args in
    c.shift_all.ensures ∙ sym (shifted_fits a.room.now a.width a.end (omega arith) (omega arith))
