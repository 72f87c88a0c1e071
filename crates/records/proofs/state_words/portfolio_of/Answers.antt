-- Field by field, what each call gives.
use Rattle.records.specs.{StateWords.portfolio_of}
use Rattle.records.proofs.state_words.portfolio_of.Goals as goal

pub returns : goal.returns
unfolding portfolio_of
returns c = cc
