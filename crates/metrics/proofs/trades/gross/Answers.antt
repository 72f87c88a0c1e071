use Rattle.words.specs.Prelude.{refl, sym, ◌∙◌, List, arith, Float}
use Rattle.metrics.specs.{Records.pnls_of, Trades.sizes_on, Trades.gross}
use Rattle.floats.specs.{Sums.sum_from}
use Rattle.metrics.proofs.{Walks.turn_on, Walks.done}
use Rattle.metrics.proofs.trades.gross.Goals as goal
use Rattle.metrics.proofs.trades.gross.Goals.{then-is_on, else-is_on}

pub loop-i-init : goal.loop-i-init
unfolding gross
loop-i-init c = refl

pub loop-i-preserved : goal.loop-i-preserved
unfolding sum_from
loop-i-preserved c =
    let loop = c.loop-i in
    let args = c.args in
    let told = turn_on (sum_from loop.total) args.side (pnls_of args.trades.now) loop.i c.trade_count-n.ensures
    (omega arith) c.pnl_at-pnl.ensures loop.invariant in
    let is-on = c.is_on.ensures in
    elim c.if-is_on.branch [ then-is_on w ↦ rw (w.total-is, w.size_of-total.ensures) (told.0 (sym is-on ∙ w.if-is_on.true)) | else-is_on w ↦ rw w.total-is (told.1 (sym is-on ∙ w.if-is_on.false)) ]

pub returns : goal.returns
unfolding sum_from sizes_on
returns c =
    let args = c.args in
    let loop = c.loop-i in
    done (λ (rest : List Float). sum_from loop.total (sizes_on args.side rest)) (pnls_of args.trades.now) loop.i
    c.trade_count-n.ensures (omega arith) loop.invariant
