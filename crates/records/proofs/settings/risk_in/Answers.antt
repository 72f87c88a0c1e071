-- The levels stand in their own words, in a short list as in a whole one. Assumes nothing.
use Rattle.words.specs.Prelude.{ap}
use Rattle.records.specs.{declared.settings.Settings.Settings, Settings.settings_of, Settings.terms_of}
use Rattle.records.proofs.settings.risk_in.Goals as goal

pub returns-then-words-lt-SETTING_WORDS : goal.returns-then-words-lt-SETTING_WORDS
unfolding settings_of terms_of
returns-then-words-lt-SETTING_WORDS c = ap (λ (s : Settings). s.terms.risk) c.settings_of-all.ensures
