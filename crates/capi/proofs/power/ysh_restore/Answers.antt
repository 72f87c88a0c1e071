-- The rooms are judged, then the restore is made: one law for each way out.
use Rattle.words.specs.Prelude.{sym, ◌∙◌}
use Rattle.capi.proofs.{Powering.restore_short, Powering.restore_refused, Powering.restore_done}
use Rattle.capi.proofs.power.ysh_restore.Goals as goal

pub judge_rooms-requires : goal.judge_rooms-requires
judge_rooms-requires c = c.settings_of-chosen.ensures

pub returns-in-Err : goal.returns-in-Err
returns-in-Err c =
    restore_short _ _ _ _ (sym c.judge_rooms.ensures ∙ c.in-Err.is) c.answer_word.ensures

pub returns-in-Err-restored : goal.returns-in-Err-restored
returns-in-Err-restored c =
    restore_refused _ _ _ _ (sym c.judge_rooms.ensures ∙ c.in_default.is) c.settings_of-chosen.ensures
    c.restore-restored.ensures c.in-Err-restored.is c.answer_word-in-Err-restored.ensures

pub returns-in-Ok : goal.returns-in-Ok
returns-in-Ok c =
    restore_done _ _ _ _ (sym c.judge_rooms.ensures ∙ c.in_default.is) c.settings_of-chosen.ensures
    c.restore-restored.ensures c.in-Ok.is c.put_state.ensures
