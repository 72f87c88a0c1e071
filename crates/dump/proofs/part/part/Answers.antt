-- Refused, or written.
use Rattle.std.specs.Prelude.{◌≡◌, Err}
use Rattle.words.specs.Prelude.{rules, sym, ◌∙◌}
use Rattle.dumpable.specs.{Laws.Fine.part_fine}
use Rattle.dump.proofs.{Answers.part_refused, Answers.part_done}
use Rattle.dump.proofs.part.part.Goals as goal

pub returns-in_err-judge_held : goal.returns-in_err-judge_held
returns-in_err-judge_held c =
    let given : c.from_residual.result ≡ Err c.in_err-judge_held.field-0.0 = search rules in
    rw given (part_refused _ _ _ _ _ c.judge_held.ensures c.in_err-judge_held.was)

pub write_part-requires : goal.write_part-requires
write_part-requires c =
    part_fine _ _ _ (sym c.judge_held.ensures ∙ c.in_ok-judge_held.was)

pub returns : goal.returns
returns c =
    part_done _ _ _ _ _ c.judge_held.ensures c.in_ok-judge_held.was c.write_part.ensures
