-- The definition goes by the same cases.
use Rattle.records.specs.{StateWords.level_word}
use Rattle.records.proofs.state_words.level_word.Goals as goal

pub returns-in-Market : goal.returns-in-Market
unfolding level_word
returns-in-Market c = simp c.in-Market.is

pub returns-in-Limit : goal.returns-in-Limit
unfolding level_word
returns-in-Limit c = simp (c.word_of.ensures, c.in-Limit.is)

pub returns-in-Stop : goal.returns-in-Stop
unfolding level_word
returns-in-Stop c = simp (c.word_of-in-Stop.ensures, c.in-Stop.is)

pub returns-in-StopLimit : goal.returns-in-StopLimit
unfolding level_word
returns-in-StopLimit c = simp (c.word_of-in-StopLimit.ensures, c.in-StopLimit.is)
