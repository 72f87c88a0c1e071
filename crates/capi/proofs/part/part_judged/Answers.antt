-- The rooms are judged, then the part of what the words mean is written: one law for each way out.
use Rattle.words.specs.Prelude.{sym, ◌∙◌}
use Rattle.capi.proofs.{Parting.part_short, Parting.part_refused, Parting.part_done}
use Rattle.capi.proofs.part.part_judged.Goals as goal

pub judge_rooms-requires : goal.judge_rooms-requires
judge_rooms-requires c = c.settings_of-chosen.ensures

pub returns-in-Err : goal.returns-in-Err
returns-in-Err c =
    part_short _ _ _ _ _ _ (sym c.judge_rooms.ensures ∙ c.in-Err.is) c.answer_word.ensures

pub returns-in-Err-parted : goal.returns-in-Err-parted
returns-in-Err-parted c =
    part_refused _ _ _ _ _ _ (sym c.judge_rooms.ensures ∙ c.in_default.is) c.settings_of-chosen.ensures
    c.state_of.ensures c.part-parted.ensures c.in-Err-parted.is c.answer_word-in-Err-parted.ensures

pub returns-in-Ok : goal.returns-in-Ok
returns-in-Ok c =
    part_done _ _ _ _ _ _ (sym c.judge_rooms.ensures ∙ c.in_default.is) c.settings_of-chosen.ensures
    c.state_of.ensures c.part-parted.ensures c.in-Ok.is
