-- Line by line: those passed hold, and the first that does not decides.
use Rattle.words.specs.Prelude.{refl, ap, ◌∙◌}
use Rattle.floats.specs.{Floats.finite}
use Rattle.refusals.specs.{Settings.slippage_lines}
use Rattle.refusals.specs.Laws.Descent.{so, not_so, Below, top, past, stop, all_hold}
use Rattle.refusals.proofs.setting.judge_slippage.Goals as goal

pub returns-then-not-slippage_known : goal.returns-then-not-slippage_known
unfolding slippage_lines
returns-then-not-slippage_known c = stop top refl (not_so c.slippage_known.ensures c.if-not-slippage_known.true-raw)

pub returns-then-not-is_finite : goal.returns-then-not-is_finite
unfolding slippage_lines
returns-then-not-is_finite c =
    let past1 : (Below (slippage_lines c.args.slippage)) = past top refl (so c.slippage_known.ensures c.if-not-slippage_known.false-raw) in
    stop past1 refl
    (not_so (c.is_finite.ensures ∙ ap finite c.slippage_value.ensures) c.if-not-is_finite.true-raw)

pub returns : goal.returns
unfolding slippage_lines
returns c =
    let past2 : (Below (slippage_lines c.args.slippage)) = let past1 : (Below (slippage_lines c.args.slippage)) = past top refl (so c.slippage_known.ensures c.if-not-slippage_known.false-raw) in
    past past1 refl (so (c.is_finite.ensures ∙ ap finite c.slippage_value.ensures) c.if-not-is_finite.false-raw) in
    all_hold past2 refl
