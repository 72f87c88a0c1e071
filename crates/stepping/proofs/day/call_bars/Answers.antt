-- The rooms are judged, then the engine's call is made on what the words mean. Assumes nothing.
use Rattle.stepping.proofs.{Days.day_short, Days.day_ran}
use Rattle.stepping.proofs.day.call_bars.Goals as goal

pub returns-in-Err : goal.returns-in-Err
returns-in-Err c = day_short _ _ _ _ _ _ c.judge_short.ensures c.in-Err.is c.answer_word.ensures

pub returns : goal.returns
returns c =
    day_ran _ _ _ _ _ _ c.judge_short.ensures c.in_default.is
    c.state_of.ensures c.run_bars-day.ensures c.put_after.ensures c.answer_of.ensures
