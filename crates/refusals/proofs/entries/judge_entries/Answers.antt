-- Line by line: those passed hold, and the first that does not decides.
use Rattle.words.specs.Prelude.{refl}
use Rattle.refusals.specs.{Settings.entry_lines}
use Rattle.refusals.specs.Laws.Descent.{so, not_so, Below, top, past, stop, all_hold}
use Rattle.refusals.proofs.entries.judge_entries.Goals as goal

pub returns-then-not-order_type_known : goal.returns-then-not-order_type_known
unfolding entry_lines
returns-then-not-order_type_known c = stop top refl (not_so c.order_type_known.ensures c.if-not-order_type_known.true-raw)

pub returns-then-not-is_finite : goal.returns-then-not-is_finite
unfolding entry_lines
returns-then-not-is_finite c =
    let past1 : (Below (entry_lines c.args.e c.args.lot)) = past top refl (so c.order_type_known.ensures c.if-not-order_type_known.false-raw) in
    stop past1 refl (not_so c.is_finite.ensures c.if-not-is_finite.true-raw)

pub returns-then-not-is_finite-2 : goal.returns-then-not-is_finite-2
unfolding entry_lines
returns-then-not-is_finite-2 c =
    let past2 : (Below (entry_lines c.args.e c.args.lot)) = let past1 : (Below (entry_lines c.args.e c.args.lot)) = past top refl (so c.order_type_known.ensures c.if-not-order_type_known.false-raw) in
    past past1 refl (so c.is_finite.ensures c.if-not-is_finite.false-raw) in
    stop past2 refl (not_so c.is_finite-2.ensures c.if-not-is_finite-2.true-raw)

pub returns-then-not-is_finite-3 : goal.returns-then-not-is_finite-3
unfolding entry_lines
returns-then-not-is_finite-3 c =
    let past3 : (Below (entry_lines c.args.e c.args.lot)) = let past2 : (Below (entry_lines c.args.e c.args.lot)) = let past1 : (Below (entry_lines c.args.e c.args.lot)) = past top refl (so c.order_type_known.ensures c.if-not-order_type_known.false-raw) in
    past past1 refl (so c.is_finite.ensures c.if-not-is_finite.false-raw) in
    past past2 refl (so c.is_finite-2.ensures c.if-not-is_finite-2.false-raw) in
    stop past3 refl (not_so c.is_finite-3.ensures c.if-not-is_finite-3.true-raw)

pub returns-then-not-lot_fine : goal.returns-then-not-lot_fine
unfolding entry_lines
returns-then-not-lot_fine c =
    let past4 : (Below (entry_lines c.args.e c.args.lot)) = let past3 : (Below (entry_lines c.args.e c.args.lot)) = let past2 : (Below (entry_lines c.args.e c.args.lot)) = let past1 : (Below (entry_lines c.args.e c.args.lot)) = past top refl (so c.order_type_known.ensures c.if-not-order_type_known.false-raw) in
    past past1 refl (so c.is_finite.ensures c.if-not-is_finite.false-raw) in
    past past2 refl (so c.is_finite-2.ensures c.if-not-is_finite-2.false-raw) in
    past past3 refl (so c.is_finite-3.ensures c.if-not-is_finite-3.false-raw) in
    stop past4 refl (not_so c.lot_fine.ensures c.if-not-lot_fine.true-raw)

pub returns : goal.returns
unfolding entry_lines
returns c =
    let past5 : (Below (entry_lines c.args.e c.args.lot)) = let past4 : (Below (entry_lines c.args.e c.args.lot)) = let past3 : (Below (entry_lines c.args.e c.args.lot)) = let past2 : (Below (entry_lines c.args.e c.args.lot)) = let past1 : (Below (entry_lines c.args.e c.args.lot)) = past top refl (so c.order_type_known.ensures c.if-not-order_type_known.false-raw) in
    past past1 refl (so c.is_finite.ensures c.if-not-is_finite.false-raw) in
    past past2 refl (so c.is_finite-2.ensures c.if-not-is_finite-2.false-raw) in
    past past3 refl (so c.is_finite-3.ensures c.if-not-is_finite-3.false-raw) in
    past past4 refl (so c.lot_fine.ensures c.if-not-lot_fine.false-raw) in
    all_hold past5 refl
