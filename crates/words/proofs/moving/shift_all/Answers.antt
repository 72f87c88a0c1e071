-- Each of the three moves begins where the one before it ends, so in turn they move all the words. Assumes nothing.
use Rattle.words.specs.Prelude.{arith, ◌-◌, ◌*◌, ◌/◌, ◌%◌}
use Rattle.words.proofs.{Copying.moved_all, Copying.moved_in_turn}
use Rattle.words.proofs.moving.shift_all.Goals as goal

pub returns-then-n-eq0 : goal.returns-then-n-eq0
returns-then-n-eq0 c =
    let a = c.args in
    moved_all a.room.now a.width a.end 0 (omega arith) (omega arith) (omega arith)

pub returns : goal.returns
returns c =
    let a = c.args in
    let odd = a.width % 2 in
    let blocks = (a.end - a.width - odd) / 16 in
    moved_in_turn a.room.now c.shift_words.new.room c.shift_blocks.new.room c.shift_words-2.new.room a.width a.end odd (16 * blocks)
    (omega arith) (omega arith) (omega arith) c.shift_words.ensures c.shift_blocks.ensures c.shift_words-2.ensures
