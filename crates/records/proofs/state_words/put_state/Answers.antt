-- The words are the state's, one by one, and `put` writes them.
use Rattle.records.specs.{StateWords.words_of}
use Rattle.words.specs.{Words.overwrite}
use Rattle.records.proofs.state_words.put_state.Goals as goal

pub returns : goal.returns
unfolding words_of overwrite
returns c = cc
