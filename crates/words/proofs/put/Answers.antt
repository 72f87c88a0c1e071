-- The words are copied where they fit; else nothing is done. Assumes nothing.
use Rattle.words.specs.Prelude.{arith, sym, ◌∙◌}
use Rattle.words.specs.{Laws.Overwrite.overwrite_fits, Laws.Overwrite.overwrite_late}
use Rattle.words.proofs.put.Goals as goal

pub returns-then-room-words : goal.returns-then-room-words
returns-then-room-words c = let a = c.args in sym (overwrite_late a.room.now a.at a.words.now (omega arith))

pub returns-then-room-words-2 : goal.returns-then-room-words-2
returns-then-room-words-2 c = let a = c.args in sym (overwrite_late a.room.now a.at a.words.now (omega arith))

pub returns : goal.returns
returns c =
    let a = c.args in
    c.copy.ensures ∙ sym (overwrite_fits a.room.now a.at a.words.now (omega arith))
