-- The close and the block's four words are stored.
use Rattle.words.specs.Prelude.{refl, ap, ◌/◌, arith, length-set}
use Rattle.blocks.specs.{Blocks.put}
use Rattle.blocks.proofs.append.put_bar.Goals as goal

pub bounds-blocks-at-2 : goal.bounds-blocks-at-2
bounds-blocks-at-2 c = simp length-set (omega arith)

pub bounds-blocks-at-3 : goal.bounds-blocks-at-3
bounds-blocks-at-3 c = simp length-set (omega arith)

pub bounds-blocks-at-4 : goal.bounds-blocks-at-4
bounds-blocks-at-4 c = simp length-set (omega arith)

pub returns : goal.returns
returns c =
    let start = c.args in
    (refl, ap (put start.blocks.now (start.held / 64)) c.grown-best.ensures)
