-- The rooms are judged, then the run is ended on what the words mean: one law for each way out.
use Rattle.capi.proofs.{Finishing.finish_short, Finishing.finish_refused, Finishing.finish_done}
use Rattle.capi.proofs.bars.ysh_finish.Goals as goal

pub judge_ending-requires : goal.judge_ending-requires
judge_ending-requires c = c.settings_of-chosen.ensures

pub returns-in-Err : goal.returns-in-Err
returns-in-Err c = finish_short _ _ _ _ c.judge_ending.ensures c.in-Err.is c.answer_word.ensures

pub returns-in-Err-finished : goal.returns-in-Err-finished
returns-in-Err-finished c =
    finish_refused _ _ _ _ c.judge_ending.ensures
    c.in_default.is c.settings_of-chosen.ensures c.state_of.ensures c.finish-finished.ensures c.in-Err-finished.is
    c.answer_word-in-Err-finished.ensures

pub returns-in-Ok : goal.returns-in-Ok
returns-in-Ok c =
    finish_done _ _ _ _ c.judge_ending.ensures
    c.in_default.is c.settings_of-chosen.ensures c.state_of.ensures c.finish-finished.ensures c.in-Ok.is
    c.put_state.ensures c.put_metrics.ensures
