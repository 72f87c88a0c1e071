-- Line by line: those passed hold, and the first that does not decides.
use Rattle.words.specs.Prelude.{refl}
use Rattle.refusals.specs.{Settings.risk_lines}
use Rattle.refusals.specs.Laws.Descent.{so, not_so, Below, top, past, stop, all_hold}
use Rattle.refusals.proofs.setting.judge_risk.Goals as goal

pub returns-then-not-stop_there : goal.returns-then-not-stop_there
unfolding risk_lines
returns-then-not-stop_there c = stop top refl (not_so c.stop_there.ensures c.if-not-stop_there.true-raw)

pub returns-then-not-level_fine : goal.returns-then-not-level_fine
unfolding risk_lines
returns-then-not-level_fine c =
    let past1 : (Below (risk_lines c.args.sizing c.args.risk)) = past top refl (so c.stop_there.ensures c.if-not-stop_there.false-raw) in
    stop past1 refl (not_so c.level_fine.ensures c.if-not-level_fine.true-raw)

pub returns-then-not-level_fine-2 : goal.returns-then-not-level_fine-2
unfolding risk_lines
returns-then-not-level_fine-2 c =
    let past2 : (Below (risk_lines c.args.sizing c.args.risk)) = let past1 : (Below (risk_lines c.args.sizing c.args.risk)) = past top refl (so c.stop_there.ensures c.if-not-stop_there.false-raw) in
    past past1 refl (so c.level_fine.ensures c.if-not-level_fine.false-raw) in
    stop past2 refl (not_so c.level_fine-2.ensures c.if-not-level_fine-2.true-raw)

pub returns-then-not-level_fine-3 : goal.returns-then-not-level_fine-3
unfolding risk_lines
returns-then-not-level_fine-3 c =
    let past3 : (Below (risk_lines c.args.sizing c.args.risk)) = let past2 : (Below (risk_lines c.args.sizing c.args.risk)) = let past1 : (Below (risk_lines c.args.sizing c.args.risk)) = past top refl (so c.stop_there.ensures c.if-not-stop_there.false-raw) in
    past past1 refl (so c.level_fine.ensures c.if-not-level_fine.false-raw) in
    past past2 refl (so c.level_fine-2.ensures c.if-not-level_fine-2.false-raw) in
    stop past3 refl (not_so c.level_fine-3.ensures c.if-not-level_fine-3.true-raw)

pub returns-then-not-level_fine-4 : goal.returns-then-not-level_fine-4
unfolding risk_lines
returns-then-not-level_fine-4 c =
    let past4 : (Below (risk_lines c.args.sizing c.args.risk)) = let past3 : (Below (risk_lines c.args.sizing c.args.risk)) = let past2 : (Below (risk_lines c.args.sizing c.args.risk)) = let past1 : (Below (risk_lines c.args.sizing c.args.risk)) = past top refl (so c.stop_there.ensures c.if-not-stop_there.false-raw) in
    past past1 refl (so c.level_fine.ensures c.if-not-level_fine.false-raw) in
    past past2 refl (so c.level_fine-2.ensures c.if-not-level_fine-2.false-raw) in
    past past3 refl (so c.level_fine-3.ensures c.if-not-level_fine-3.false-raw) in
    stop past4 refl (not_so c.level_fine-4.ensures c.if-not-level_fine-4.true-raw)

pub returns-then-not-level_fine-5 : goal.returns-then-not-level_fine-5
unfolding risk_lines
returns-then-not-level_fine-5 c =
    let past5 : (Below (risk_lines c.args.sizing c.args.risk)) = let past4 : (Below (risk_lines c.args.sizing c.args.risk)) = let past3 : (Below (risk_lines c.args.sizing c.args.risk)) = let past2 : (Below (risk_lines c.args.sizing c.args.risk)) = let past1 : (Below (risk_lines c.args.sizing c.args.risk)) = past top refl (so c.stop_there.ensures c.if-not-stop_there.false-raw) in
    past past1 refl (so c.level_fine.ensures c.if-not-level_fine.false-raw) in
    past past2 refl (so c.level_fine-2.ensures c.if-not-level_fine-2.false-raw) in
    past past3 refl (so c.level_fine-3.ensures c.if-not-level_fine-3.false-raw) in
    past past4 refl (so c.level_fine-4.ensures c.if-not-level_fine-4.false-raw) in
    stop past5 refl (not_so c.level_fine-5.ensures c.if-not-level_fine-5.true-raw)

pub returns : goal.returns
unfolding risk_lines
returns c =
    let past6 : (Below (risk_lines c.args.sizing c.args.risk)) = let past5 : (Below (risk_lines c.args.sizing c.args.risk)) = let past4 : (Below (risk_lines c.args.sizing c.args.risk)) = let past3 : (Below (risk_lines c.args.sizing c.args.risk)) = let past2 : (Below (risk_lines c.args.sizing c.args.risk)) = let past1 : (Below (risk_lines c.args.sizing c.args.risk)) = past top refl (so c.stop_there.ensures c.if-not-stop_there.false-raw) in
    past past1 refl (so c.level_fine.ensures c.if-not-level_fine.false-raw) in
    past past2 refl (so c.level_fine-2.ensures c.if-not-level_fine-2.false-raw) in
    past past3 refl (so c.level_fine-3.ensures c.if-not-level_fine-3.false-raw) in
    past past4 refl (so c.level_fine-4.ensures c.if-not-level_fine-4.false-raw) in
    past past5 refl (so c.level_fine-5.ensures c.if-not-level_fine-5.false-raw) in
    all_hold past6 refl
