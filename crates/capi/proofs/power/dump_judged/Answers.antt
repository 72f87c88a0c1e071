-- The rooms are judged, then the dump of what the words mean is made: one law for each way out.
use Rattle.words.specs.Prelude.{sym, ◌∙◌}
use Rattle.capi.proofs.{Powering.dump_short, Powering.dump_refused, Powering.dump_done}
use Rattle.capi.proofs.power.dump_judged.Goals as goal

pub judge_rooms-requires : goal.judge_rooms-requires
judge_rooms-requires c = c.settings_of-chosen.ensures

pub returns-in-Err : goal.returns-in-Err
returns-in-Err c =
    dump_short _ _ _ _ _ _ (sym c.judge_rooms.ensures ∙ c.in-Err.is) c.answer_word.ensures

pub returns-in-Err-dump : goal.returns-in-Err-dump
returns-in-Err-dump c =
    dump_refused _ _ _ _ _ _ (sym c.judge_rooms.ensures ∙ c.in_default.is) c.settings_of-chosen.ensures
    c.state_of-given.ensures c.dump.ensures c.in-Err-dump.is c.answer_word-in-Err-dump.ensures

pub returns : goal.returns
returns c =
    dump_done _ _ _ _ _ _ (sym c.judge_rooms.ensures ∙ c.in_default.is) c.settings_of-chosen.ensures
    c.state_of-given.ensures c.dump.ensures c.in_default-dump.is
