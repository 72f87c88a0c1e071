-- Refused, or written.
use Rattle.std.specs.Prelude.{◌≡◌, Err}
use Rattle.words.specs.Prelude.{rules, sym, ◌∙◌}
use Rattle.dumpable.specs.{Laws.Fine.dump_fine}
use Rattle.dump.proofs.{Answers.dump_refused, Answers.dump_done}
use Rattle.dump.proofs.dump.Goals as goal

pub returns-in_err-judge_dump : goal.returns-in_err-judge_dump
returns-in_err-judge_dump c =
    let given : c.from_residual.result ≡ Err c.in_err-judge_dump.field-0.0 = search rules in
    rw given (dump_refused _ _ _ _ _ _ c.judge_dump.ensures c.in_err-judge_dump.was)

pub write_dump-requires : goal.write_dump-requires
write_dump-requires c =
    dump_fine _ _ _ _ (sym c.judge_dump.ensures ∙ c.in_ok-judge_dump.was)

pub returns : goal.returns
returns c =
    dump_done _ _ _ _ _ _ c.judge_dump.ensures c.in_ok-judge_dump.was c.write_dump.ensures
