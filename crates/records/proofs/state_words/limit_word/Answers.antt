-- The definition goes by the same cases.
use Rattle.records.specs.{StateWords.limit_word}
use Rattle.records.proofs.state_words.limit_word.Goals as goal

pub returns-in-Market : goal.returns-in-Market
unfolding limit_word
returns-in-Market c = simp c.in-Market.is

pub returns-in-Limit : goal.returns-in-Limit
unfolding limit_word
returns-in-Limit c = simp c.in-Limit.is

pub returns-in-Stop : goal.returns-in-Stop
unfolding limit_word
returns-in-Stop c = simp c.in-Stop.is

pub returns-in-StopLimit : goal.returns-in-StopLimit
unfolding limit_word
returns-in-StopLimit c = simp (c.word_of.ensures, c.in-StopLimit.is)
