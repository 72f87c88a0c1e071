-- Word by word.
use Rattle.words.specs.Prelude.{refl}
use Rattle.images.specs.{Layout.amounts}
use Rattle.heads.specs.{Laws.Packed.head_words}
use Rattle.heads.proofs.packed.pack.Goals as goal

pub returns : goal.returns
unfolding head_words amounts
returns c = refl
