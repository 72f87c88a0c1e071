-- The definition goes by the same cases.
use Rattle.records.specs.{StateWords.entered_kind}
use Rattle.records.proofs.state_words.entered_kind.Goals as goal

pub returns-in-None : goal.returns-in-None
unfolding entered_kind
returns-in-None c = cc

pub returns-in-Some : goal.returns-in-Some
unfolding entered_kind
returns-in-Some c = simp c.in-Some.is
