-- Each field is read from its own word.
use Rattle.records.specs.{Settings.risk_of}
use Rattle.records.proofs.settings.risk_of.Goals as goal

pub returns : goal.returns
unfolding risk_of
returns c = cc
