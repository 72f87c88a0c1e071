-- Line by line: those of setting 1 are one test, then two blocks, those of terms and those of entries.
use Rattle.std.specs.Prelude.{◌≡◌, Err}
use Rattle.words.specs.Prelude.{refl, lt-leb, le-leb, rules, ◌∙◌}
use Rattle.refusals.specs.{Settings.setting_lines}
use Rattle.refusals.specs.Laws.Descent.{so, not_so, Below, top, past, stop, past_block, stop_block, last_block}
use Rattle.refusals.proofs.setting.judge_settings.Goals as goal

pub returns-then-s-gt-MOST_SLOTS : goal.returns-then-s-gt-MOST_SLOTS
unfolding setting_lines
returns-then-s-gt-MOST_SLOTS c = stop top refl (lt-leb _ _ c.if-s-gt-MOST_SLOTS.true)

pub returns-then-not-depth_fine : goal.returns-then-not-depth_fine
unfolding setting_lines
returns-then-not-depth_fine c =
    let past1 : (Below (setting_lines c.args.s)) = past top refl (le-leb _ _ c.if-s-gt-MOST_SLOTS.false) in
    stop past1 refl (not_so c.depth_fine.ensures c.if-not-depth_fine.true-raw)

pub returns-then-not-is_finite : goal.returns-then-not-is_finite
unfolding setting_lines
returns-then-not-is_finite c =
    let past2 : (Below (setting_lines c.args.s)) = let past1 : (Below (setting_lines c.args.s)) = past top refl (le-leb _ _ c.if-s-gt-MOST_SLOTS.false) in
    past past1 refl (so c.depth_fine.ensures c.if-not-depth_fine.false-raw) in
    stop past2 refl (not_so c.is_finite.ensures c.if-not-is_finite.true-raw)

pub returns-in_err-judge_terms : goal.returns-in_err-judge_terms
unfolding setting_lines
returns-in_err-judge_terms c =
    let past3 : (Below (setting_lines c.args.s)) = let past2 : (Below (setting_lines c.args.s)) = let past1 : (Below (setting_lines c.args.s)) = past top refl (le-leb _ _ c.if-s-gt-MOST_SLOTS.false) in
    past past1 refl (so c.depth_fine.ensures c.if-not-depth_fine.false-raw) in
    past past2 refl (so c.is_finite.ensures c.if-not-is_finite.false-raw) in
    let given : c.from_residual.result ≡ Err c.in_err-judge_terms.field-0.0 = search rules in
    given ∙ stop_block past3 _ _ c.judge_terms.ensures refl c.in_err-judge_terms.was

pub returns : goal.returns
unfolding setting_lines
returns c =
    let past4 : (Below (setting_lines c.args.s)) = let past3 : (Below (setting_lines c.args.s)) = let past2 : (Below (setting_lines c.args.s)) = let past1 : (Below (setting_lines c.args.s)) = past top refl (le-leb _ _ c.if-s-gt-MOST_SLOTS.false) in
    past past1 refl (so c.depth_fine.ensures c.if-not-depth_fine.false-raw) in
    past past2 refl (so c.is_finite.ensures c.if-not-is_finite.false-raw) in
    past_block past3 _ _ c.judge_terms.ensures refl c.in_ok-judge_terms.was in
    last_block past4 c.judge_entries.ensures
