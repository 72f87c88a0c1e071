-- The block is read whole before it is copied, so what is written is what the room held before. Assumes nothing.
use Rattle.words.specs.Prelude.{arith, ◌+◌}
use Rattle.words.proofs.{Copying.block}
use Rattle.words.proofs.moving.shift_block.Goals as goal

pub returns : goal.returns
returns c =
    let a = c.args in
    block a.room.now c.sixteen-block.result c.copy.new.room a.at (a.at + a.width) 16 (omega arith) c.sixteen-block.ensures c.copy.ensures
