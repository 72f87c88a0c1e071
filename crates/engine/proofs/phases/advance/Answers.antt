-- A fill that is turned away ends it; else each phase is its own definition, and `phases` puts them together, over the rows as they would stand
-- had they moved. Assumes nothing.
use Rattle.words.specs.Prelude.{◌∙◌, arith}
use Rattle.rows.specs.{History.width, Ring.turned}
use Rattle.records.specs.{Lent.Rooms, Lent.Lists, Lent.rooms}
use Rattle.refusals.specs.{Lists.lists_of}
use Rattle.engine.specs.{Laws.InPlace.fill_in_place, Laws.InPlace.decide_in_place, Laws.InPlace.placed}
use Rattle.engine.proofs.{OneBar.phases, OneBar.away, OneBar.goes, Placing.held_ends}
use Rattle.engine.proofs.phases.advance.Goals as goal

-- the fill is turned away
pub returns-then-filled : goal.returns-then-filled
returns-then-filled c =
    let a = c.args in
    let same = fill_in_place a.s a.rows.now _ c.requires.1.at.ring a.t.order a.t.position _ a.t.counts.bars_seen in
    rw c.not_sized.ensures (record {
      answer = away a.s a.t a.bar.now (rooms (turned (width a.s.slots) a.start a.rows.now) a.equity.now a.trades.now)
          (lists_of a.trees)
          c.candle_of-candle.ensures (c.fill_working_order-filled.ensures ∙ same) c.if-filled.true;
      at = c.requires.1.at;
    })

pub record_bar-requires : goal.record_bar-requires
record_bar-requires c =
    (c.requires.1.slots, c.requires.1.long, c.place_for-place.ensures.fits)

pub apply_intrabar_exits-left-requires : goal.apply_intrabar_exits-left-requires
apply_intrabar_exits-left-requires c =
    c.requires.0

pub decide_next_action-next-requires : goal.decide_next_action-next-requires
decide_next_action-next-requires c =
    let a = c.args in
    let kept = placed a.span a.s.slots a.rows.now _ a.bar.now c.requires.1.at.ring c.requires.1.at.first
    c.place_for-place.ensures c.record_bar.ensures in
    let ends = held_ends c.record_bar.new.rows c.place_for-place.result.ring (width a.s.slots) (omega arith) kept.ring in
    (c.requires.1.slots, c.requires.1.bars, ends)

pub overflow_add-seen : goal.overflow_add-seen
overflow_add-seen c =
    omega (arith, c.requires.1.bars)

pub shape_of-rows : goal.shape_of-rows
shape_of-rows c =
    c.record_bar.auto.rows

pub shape_of-trades : goal.shape_of-trades
shape_of-trades c =
    c.book-closed.auto.trades ∙ c.book-booked.auto.trades

pub returns : goal.returns
returns c =
    let a = c.args in
    let m : Rooms = rooms (turned (width a.s.slots) a.start a.rows.now) a.equity.now a.trades.now in
    let ls : Lists = lists_of a.trees in
    let same = fill_in_place a.s a.rows.now _ c.requires.1.at.ring a.t.order a.t.position _ a.t.counts.bars_seen in
    let kept = placed a.span a.s.slots a.rows.now _ a.bar.now c.requires.1.at.ring c.requires.1.at.first
    c.place_for-place.ensures c.record_bar.ensures in
    let decides = decide_in_place a.s _ _ kept.ring ls c.requires.1.lists _ _ _ _ in
    rw c.after_bar.ensures (record {
      answer = goes a.s a.t a.bar.now m ls c.candle_of-candle.ensures (c.fill_working_order-filled.ensures ∙ same)
          c.if-filled.false _ _ _ _
          (phases a.s a.t a.bar.now m ls
          _ _ _ _ _ _ _ _ _ _ _ _ _
          c.candle_of-candle.ensures
          (c.fill_working_order-filled.ensures ∙ same)
          c.book-booked.ensures
          (kept.holds, kept.turns)
          c.apply_intrabar_exits-left.ensures
          c.book-closed.ensures
          c.charge_funding-charged.ensures
          c.mark_equity-points.ensures
          (c.decide_next_action-next.ensures ∙ decides));
      at = record { ring = kept.ring; first = kept.first };
    })
