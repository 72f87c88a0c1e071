-- Sixteen reads within the words, and `each_take` of what they give. Assumes nothing.
use Rattle.words.specs.Prelude.{rules}
use Rattle.words.proofs.{Copying.each_take}
use Rattle.words.proofs.moving.sixteen.Goals as goal

pub returns : goal.returns
returns c =
    let a = c.args in
    each_take 16 a.words.now 0 (search rules)
