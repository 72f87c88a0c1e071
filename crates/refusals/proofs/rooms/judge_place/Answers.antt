-- Line by line: those passed hold, and the first that does not decides.
use Rattle.words.specs.Prelude.{refl, lt-ltb, le-ltb}
use Rattle.refusals.specs.{Rooms.place_lines}
use Rattle.refusals.specs.Laws.Descent.{Below, top, past, stop, all_hold}
use Rattle.refusals.proofs.rooms.judge_place.Goals as goal

pub returns-then-equity-n : goal.returns-then-equity-n
unfolding place_lines
returns-then-equity-n c = stop top refl (le-ltb _ _ c.if-equity-n.true)

pub returns-then-trades-n : goal.returns-then-trades-n
unfolding place_lines
returns-then-trades-n c =
    let past1 : (Below (place_lines c.args.n c.args.equity.now c.args.trades.now)) = past top refl (lt-ltb _ _ c.if-equity-n.false) in
    stop past1 refl (le-ltb _ _ c.if-trades-n.true)

pub returns-then-n-ge-MOST_COUNT : goal.returns-then-n-ge-MOST_COUNT
unfolding place_lines
returns-then-n-ge-MOST_COUNT c =
    let past2 : (Below (place_lines c.args.n c.args.equity.now c.args.trades.now)) = let past1 : (Below (place_lines c.args.n c.args.equity.now c.args.trades.now)) = past top refl (lt-ltb _ _ c.if-equity-n.false) in
    past past1 refl (lt-ltb _ _ c.if-trades-n.false) in
    stop past2 refl (le-ltb _ _ c.if-n-ge-MOST_COUNT.true)

pub returns : goal.returns
unfolding place_lines
returns c =
    let past3 : (Below (place_lines c.args.n c.args.equity.now c.args.trades.now)) = let past2 : (Below (place_lines c.args.n c.args.equity.now c.args.trades.now)) = let past1 : (Below (place_lines c.args.n c.args.equity.now c.args.trades.now)) = past top refl (lt-ltb _ _ c.if-equity-n.false) in
    past past1 refl (lt-ltb _ _ c.if-trades-n.false) in
    past past2 refl (lt-ltb _ _ c.if-n-ge-MOST_COUNT.false) in
    all_hold past3 refl
