-- Settings 5 to 7, 9 and 10, and 12 to 16 are blocks, each judged by itself; the others are lines.
use Rattle.std.specs.Prelude.{◌≡◌, Err}
use Rattle.words.specs.Prelude.{refl, rules, ◌∙◌}
use Rattle.refusals.specs.{Settings.term_lines}
use Rattle.refusals.specs.Laws.Descent.{so, not_so, Below, top, past, stop, all_hold, past_block, stop_block}
use Rattle.refusals.proofs.setting.judge_terms.Goals as goal

pub returns-in_err-judge_sizing : goal.returns-in_err-judge_sizing
unfolding term_lines
returns-in_err-judge_sizing c =
    let given : c.from_residual.result ≡ Err c.in_err-judge_sizing.field-0.0 = search rules in
    given ∙ stop_block top _ _ c.judge_sizing.ensures refl c.in_err-judge_sizing.was

pub returns-then-not-is_finite : goal.returns-then-not-is_finite
unfolding term_lines
returns-then-not-is_finite c =
    let past1 : (Below (term_lines c.args.t)) = past_block top _ _ c.judge_sizing.ensures refl c.in_ok-judge_sizing.was in
    stop past1 refl (not_so c.is_finite.ensures c.if-not-is_finite.true-raw)

pub returns-in_err-judge_slippage : goal.returns-in_err-judge_slippage
unfolding term_lines
returns-in_err-judge_slippage c =
    let past2 : (Below (term_lines c.args.t)) = let past1 : (Below (term_lines c.args.t)) = past_block top _ _ c.judge_sizing.ensures refl c.in_ok-judge_sizing.was in
    past past1 refl (so c.is_finite.ensures c.if-not-is_finite.false-raw) in
    let given : c.from_residual-in_err-judge_slippage.result ≡ Err c.in_err-judge_slippage.field-0.0 = search rules in
    given ∙ stop_block past2 _ _ c.judge_slippage.ensures refl c.in_err-judge_slippage.was

pub returns-in_err-judge_risk : goal.returns-in_err-judge_risk
unfolding term_lines
returns-in_err-judge_risk c =
    let past3 : (Below (term_lines c.args.t)) = let past2 : (Below (term_lines c.args.t)) = let past1 : (Below (term_lines c.args.t)) = past_block top _ _ c.judge_sizing.ensures refl c.in_ok-judge_sizing.was in
    past past1 refl (so c.is_finite.ensures c.if-not-is_finite.false-raw) in
    past_block past2 _ _ c.judge_slippage.ensures refl c.in_ok-judge_slippage.was in
    let given : c.from_residual-in_err-judge_risk.result ≡ Err c.in_err-judge_risk.field-0.0 = search rules in
    given ∙ stop_block past3 _ _ c.judge_risk.ensures refl c.in_err-judge_risk.was

pub returns-then-not-is_finite-2 : goal.returns-then-not-is_finite-2
unfolding term_lines
returns-then-not-is_finite-2 c =
    let past4 : (Below (term_lines c.args.t)) = let past3 : (Below (term_lines c.args.t)) = let past2 : (Below (term_lines c.args.t)) = let past1 : (Below (term_lines c.args.t)) = past_block top _ _ c.judge_sizing.ensures refl c.in_ok-judge_sizing.was in
    past past1 refl (so c.is_finite.ensures c.if-not-is_finite.false-raw) in
    past_block past2 _ _ c.judge_slippage.ensures refl c.in_ok-judge_slippage.was in
    past_block past3 _ _ c.judge_risk.ensures refl c.in_ok-judge_risk.was in
    stop past4 refl (not_so c.is_finite-2.ensures c.if-not-is_finite-2.true-raw)

pub returns : goal.returns
unfolding term_lines
returns c =
    let past5 : (Below (term_lines c.args.t)) = let past4 : (Below (term_lines c.args.t)) = let past3 : (Below (term_lines c.args.t)) = let past2 : (Below (term_lines c.args.t)) = let past1 : (Below (term_lines c.args.t)) = past_block top _ _ c.judge_sizing.ensures refl c.in_ok-judge_sizing.was in
    past past1 refl (so c.is_finite.ensures c.if-not-is_finite.false-raw) in
    past_block past2 _ _ c.judge_slippage.ensures refl c.in_ok-judge_slippage.was in
    past_block past3 _ _ c.judge_risk.ensures refl c.in_ok-judge_risk.was in
    past past4 refl (so c.is_finite-2.ensures c.if-not-is_finite-2.false-raw) in
    all_hold past5 refl
