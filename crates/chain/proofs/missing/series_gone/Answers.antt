-- Missing where there is no such bar or no such row; a price is there, a slot by its bit. Assumes nothing.
use Rattle.words.specs.Prelude.{◌-◌, arith}
use Rattle.rows.specs.{History.history_of, Laws.RowEnds.row_ends}
use Rattle.rules.proofs.{Grown.below}
use Rattle.chain.specs.{Missing.gone_if}
use Rattle.chain.proofs.{Newest.series_early, Newest.series_past, Newest.series_price, Newest.series_slot}
use Rattle.chain.proofs.missing.series_gone.Goals as goal

pub returns-then-bar-back : goal.returns-then-bar-back
unfolding history_of gone_if
returns-then-bar-back c = series_early _ _ _ _ _ c.if-bar-back.true

pub returns-then-row_count-at : goal.returns-then-row_count-at
unfolding history_of gone_if
returns-then-row_count-at c = series_past _ _ _ _ _ c.if-bar-back.false _ c.row_count.ensures c.if-row_count-at.true

pub overflow_add-slots : goal.overflow_add-slots
unfolding history_of gone_if
overflow_add-slots c =
    let a = c.args in
    omega (arith, row_ends a.slots a.rows.now (a.bar - a.back) (below c.row_count.ensures c.if-row_count-at.false))

pub overflow_mul-at : goal.overflow_mul-at
unfolding history_of gone_if
overflow_mul-at c =
    let a = c.args in
    omega (arith, row_ends a.slots a.rows.now (a.bar - a.back) (below c.row_count.ensures c.if-row_count-at.false))

pub returns-in-Price : goal.returns-in-Price
unfolding history_of gone_if
returns-in-Price c =
    series_price _ _ _ _ _ c.if-bar-back.false (below c.row_count.ensures c.if-row_count-at.false) _ c.in-Price.is

pub returns-in-None : goal.returns-in-None
unfolding history_of gone_if
returns-in-None c =
    series_slot _ _ _ _ _ c.if-bar-back.false (below c.row_count.ensures c.if-row_count-at.false) _ c.in-Slot.is _ _
    c.slot_at.ensures c.in-None.is

pub returns-in-Some : goal.returns-in-Some
unfolding history_of gone_if
returns-in-Some c =
    series_slot _ _ _ _ _ c.if-bar-back.false (below c.row_count.ensures c.if-row_count-at.false) _ c.in-Slot.is _ _
    c.slot_at.ensures c.in-Some.is
