-- The two lengths, and the rest.
use Rattle.words.specs.Prelude.{le-leb, lt-leb}
use Rattle.dumpable.specs.{Laws.Passing.words_pass}
use Rattle.dumpable.proofs.passing.words_pass.Goals as goal

pub returns-then-settings-lt-SETTING_WORDS : goal.returns-then-settings-lt-SETTING_WORDS
unfolding words_pass
returns-then-settings-lt-SETTING_WORDS c = simp (lt-leb _ _ c.if-settings-lt-SETTING_WORDS.true)

pub returns-then-state-lt-STATE_WORDS : goal.returns-then-state-lt-STATE_WORDS
unfolding words_pass
returns-then-state-lt-STATE_WORDS c = simp (le-leb _ _ c.if-settings-lt-SETTING_WORDS.false, lt-leb _ _ c.if-state-lt-STATE_WORDS.true)

pub returns : goal.returns
unfolding words_pass
returns c = c.whole_pass.ensures
