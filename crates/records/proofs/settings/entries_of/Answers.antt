-- Field by field, what each call gives.
use Rattle.records.specs.{Settings.entries_of}
use Rattle.records.proofs.settings.entries_of.Goals as goal

pub returns : goal.returns
unfolding entries_of
returns c = cc
