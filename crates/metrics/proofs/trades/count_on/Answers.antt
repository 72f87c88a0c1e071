use Rattle.words.specs.Prelude.{sym, ◌∙◌, List, arith, ◌+◌, zero-add, add-zero, length, Float}
use Rattle.metrics.specs.{Records.pnls_of, Trades.sizes_on}
use Rattle.metrics.proofs.{Walks.turn_on, Walks.done}
use Rattle.metrics.proofs.trades.count_on.Goals as goal
use Rattle.metrics.proofs.trades.count_on.Goals.{then-is_on, else-is_on}

pub loop-i-init : goal.loop-i-init
loop-i-init c = (omega arith, zero-add _)

pub overflow_add-count : goal.overflow_add-count
overflow_add-count c = omega arith

pub loop-i-preserved : goal.loop-i-preserved
loop-i-preserved c =
    let loop = c.loop-i in
    let args = c.args in
    let told = turn_on (λ (sizes : List Float). loop.count + length sizes) args.side (pnls_of args.trades.now) loop.i
    c.trade_count-n.ensures (omega arith) c.pnl_at.ensures loop.invariant.1 in
    let is-on = c.is_on.ensures in
    elim c.if-is_on.branch [ then-is_on w ↦ let q = told.0 (sym is-on ∙ w.if-is_on.true) in omega arith | else-is_on w ↦ let q = told.1 (sym is-on ∙ w.if-is_on.false) in omega arith ]

pub returns : goal.returns
unfolding sizes_on
returns c =
    let args = c.args in
    let loop = c.loop-i in
    sym (add-zero loop.count)
    ∙ done (λ (rest : List Float). loop.count + length (sizes_on args.side rest)) (pnls_of args.trades.now) loop.i
    c.trade_count-n.ensures (omega arith) loop.invariant.1
