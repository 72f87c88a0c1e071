-- Line by line: those passed hold, and the first that does not decides.
use Rattle.words.specs.Prelude.{refl, ap, ◌∙◌, lt-leb, le-leb}
use Rattle.floats.specs.{Floats.finite}
use Rattle.refusals.specs.{Settings.sizing_lines}
use Rattle.refusals.specs.Laws.Descent.{so, not_so, Below, top, past, stop, all_hold}
use Rattle.refusals.proofs.setting.judge_sizing.Goals as goal

pub returns-then-not-sizing_known : goal.returns-then-not-sizing_known
unfolding sizing_lines
returns-then-not-sizing_known c = stop top refl (not_so c.sizing_known.ensures c.if-not-sizing_known.true-raw)

pub returns-then-not-is_finite : goal.returns-then-not-is_finite
unfolding sizing_lines
returns-then-not-is_finite c =
    let past1 : (Below (sizing_lines c.args.sizing)) = past top refl (so c.sizing_known.ensures c.if-not-sizing_known.false-raw) in
    stop past1 refl
    (not_so (c.is_finite.ensures ∙ ap finite c.sizing_value.ensures) c.if-not-is_finite.true-raw)

pub returns-then-lookback_of-gt-MOST_REACH : goal.returns-then-lookback_of-gt-MOST_REACH
unfolding sizing_lines
returns-then-lookback_of-gt-MOST_REACH c =
    let past2 : (Below (sizing_lines c.args.sizing)) = let past1 : (Below (sizing_lines c.args.sizing)) = past top refl (so c.sizing_known.ensures c.if-not-sizing_known.false-raw) in
    past past1 refl (so (c.is_finite.ensures ∙ ap finite c.sizing_value.ensures) c.if-not-is_finite.false-raw) in
    stop past2 refl (rw c.lookback_of.ensures at (lt-leb _ _ c.if-lookback_of-gt-MOST_REACH.true))

pub returns : goal.returns
unfolding sizing_lines
returns c =
    let past3 : (Below (sizing_lines c.args.sizing)) = let past2 : (Below (sizing_lines c.args.sizing)) = let past1 : (Below (sizing_lines c.args.sizing)) = past top refl (so c.sizing_known.ensures c.if-not-sizing_known.false-raw) in
    past past1 refl (so (c.is_finite.ensures ∙ ap finite c.sizing_value.ensures) c.if-not-is_finite.false-raw) in
    past past2 refl (rw c.lookback_of.ensures at (le-leb _ _ c.if-lookback_of-gt-MOST_REACH.false)) in
    all_hold past3 refl
