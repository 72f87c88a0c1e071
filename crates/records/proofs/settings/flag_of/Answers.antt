-- A flag is off where the word is 0.
use Rattle.words.specs.Prelude.{refl}
use Rattle.records.specs.{Settings.flag_of}
use Rattle.records.proofs.settings.flag_of.Goals as goal

pub returns : goal.returns
unfolding flag_of
returns c = refl
