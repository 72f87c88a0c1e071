-- Word by word.
use Rattle.heads.specs.{Laws.Plain.plain_words}
use Rattle.heads.proofs.plain.plain_words.Goals as goal

pub returns : goal.returns
unfolding plain_words
returns c = cc
