-- The definition goes by the same cases.
use Rattle.records.specs.{StateWords.entry_bar}
use Rattle.records.proofs.state_words.entry_bar.Goals as goal

pub returns-in-None : goal.returns-in-None
unfolding entry_bar
returns-in-None c = cc

pub returns-in-Some : goal.returns-in-Some
unfolding entry_bar
returns-in-Some c = simp c.in-Some.is
