-- Part by part, what each call gives.
use Rattle.records.specs.{StateWords.state_of}
use Rattle.records.proofs.state_words.whole_state.Goals as goal

pub returns : goal.returns
unfolding state_of
returns c = cc
