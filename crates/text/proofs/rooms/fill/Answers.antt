use Rattle.words.specs.Prelude.{sym, ◌∙◌, arith}
use Rattle.text.specs.{Rooms.lent, Rooms.word_in, Rooms.filled, Laws.Laid.laid_none, Laws.Laid.laid_next, Laws.Laid.laid_full}
use Rattle.text.proofs.rooms.fill.Goals as goal

pub loop-i-init : goal.loop-i-init
loop-i-init c = let a = c.args in sym (laid_none (word_in a.line.now) 0 0 a.room.now (omega arith))

pub loop-i-preserved : goal.loop-i-preserved
loop-i-preserved c =
    let a = c.args in
    let l = c.loop-i in
    rw (c.word_from.ensures, l.invariant) (laid_next (word_in a.line.now) l.i a.room.now (omega arith))

pub returns : goal.returns
unfolding filled
returns c =
    let a = c.args in
    let l = c.loop-i in
    l.invariant ∙ laid_full (word_in a.line.now) l.i (lent a.line.now) a.room.now (omega arith)
