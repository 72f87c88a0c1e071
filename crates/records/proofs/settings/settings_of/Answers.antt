-- Settings are made of their first words, and of zeros where the list is short.
use Rattle.words.specs.Prelude.{◌∙◌, arith}
use Rattle.words.specs.{Limits.setting_words}
use Rattle.records.specs.{Laws.FirstWords.padded_agree, Laws.FirstWords.settings_agree}
use Rattle.records.proofs.settings.settings_of.Goals as goal

pub returns-then-words-lt-SETTING_WORDS : goal.returns-then-words-lt-SETTING_WORDS
returns-then-words-lt-SETTING_WORDS c =
    let ws = c.args.words.now in
    c.whole_settings.ensures ∙ rw c.padded.ensures (settings_agree _ ws (padded_agree setting_words ws (omega (arith, c.if-words-lt-SETTING_WORDS.true))))
