-- 0, or the refusal's word. Assumes nothing.
use Rattle.stepping.specs.{WordRun.answer_of}
use Rattle.stepping.proofs.day.answer_of.Goals as goal

pub returns-in-Ok : goal.returns-in-Ok
unfolding answer_of
returns-in-Ok c = rw c.in-Ok.is

pub returns-in-Err : goal.returns-in-Err
unfolding answer_of
returns-in-Err c = rw c.in-Err.is c.answer_word.ensures
