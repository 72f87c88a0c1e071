-- The candle is one test, the slots and the funding two more.
use Rattle.words.specs.Prelude.{refl, ap, ◌∙◌}
use Rattle.refusals.specs.{Bar.funding_fine, Bar.bar_lines}
use Rattle.refusals.specs.Laws.Descent.{so, not_so, Below, top, past, stop, all_hold}
use Rattle.refusals.proofs.bar.judge_bar.Goals as goal

pub returns-then-not-candle_fine : goal.returns-then-not-candle_fine
unfolding bar_lines
returns-then-not-candle_fine c = stop top refl (not_so c.candle_fine.ensures c.if-not-candle_fine.true-raw)

pub returns-then-not-slots_fine : goal.returns-then-not-slots_fine
unfolding bar_lines
returns-then-not-slots_fine c =
    let past1 : (Below (bar_lines c.args.slots c.args.bar.now c.args.seen)) = past top refl (so c.candle_fine.ensures c.if-not-candle_fine.false-raw) in
    stop past1 refl (not_so c.slots_fine.ensures c.if-not-slots_fine.true-raw)

pub returns-then-not-funding_fine : goal.returns-then-not-funding_fine
unfolding bar_lines
returns-then-not-funding_fine c =
    let past2 : (Below (bar_lines c.args.slots c.args.bar.now c.args.seen)) = let past1 : (Below (bar_lines c.args.slots c.args.bar.now c.args.seen)) = past top refl (so c.candle_fine.ensures c.if-not-candle_fine.false-raw) in
    past past1 refl (so c.slots_fine.ensures c.if-not-slots_fine.false-raw) in
    stop past2 refl
    (not_so (c.funding_fine.ensures ∙ ap funding_fine c.funding_of.ensures) c.if-not-funding_fine.true-raw)

pub returns : goal.returns
unfolding bar_lines
returns c =
    let past3 : (Below (bar_lines c.args.slots c.args.bar.now c.args.seen)) = let past2 : (Below (bar_lines c.args.slots c.args.bar.now c.args.seen)) = let past1 : (Below (bar_lines c.args.slots c.args.bar.now c.args.seen)) = past top refl (so c.candle_fine.ensures c.if-not-candle_fine.false-raw) in
    past past1 refl (so c.slots_fine.ensures c.if-not-slots_fine.false-raw) in
    past past2 refl
    (so (c.funding_fine.ensures ∙ ap funding_fine c.funding_of.ensures) c.if-not-funding_fine.false-raw) in
    all_hold past3 refl
