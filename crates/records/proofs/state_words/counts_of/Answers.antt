-- Each field is read from its own word.
use Rattle.records.specs.{StateWords.counts_of}
use Rattle.records.proofs.state_words.counts_of.Goals as goal

pub returns : goal.returns
unfolding counts_of
returns c = cc
