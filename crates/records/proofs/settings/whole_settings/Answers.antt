-- Field by field, what each call gives.
use Rattle.records.specs.{Settings.settings_of}
use Rattle.records.proofs.settings.whole_settings.Goals as goal

pub returns : goal.returns
unfolding settings_of
returns c = cc
