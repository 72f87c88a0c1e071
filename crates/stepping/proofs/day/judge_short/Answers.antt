-- The words alone tell; only where they are short is the room asked for. Assumes nothing.
use Rattle.words.specs.Prelude.{sym, ◌∙◌}
use Rattle.stepping.specs.{Day.short_of}
use Rattle.stepping.proofs.day.judge_short.Goals as goal

pub returns-in-Ok : goal.returns-in-Ok
unfolding short_of
returns-in-Ok c = rw (sym c.judge_words-words.ensures ∙ c.in-Ok.is)

pub returns-in-Err : goal.returns-in-Err
unfolding short_of
returns-in-Err c = rw (sym c.judge_words-words.ensures ∙ c.in-Err.is) c.judge_lent.ensures
