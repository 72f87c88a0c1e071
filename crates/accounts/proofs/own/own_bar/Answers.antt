-- What does not fit changes nothing; else the parts are written.
use Rattle.words.specs.Prelude.{◌+◌, ◌<◌, arith, lt-leb, le-leb, eqb-true, length}
use Rattle.words.specs.{Laws.Overwrite.overwrite_late}
use Rattle.refusals.specs.{Laws.Descent.so, Laws.Descent.not_so}
use Rattle.accounts.specs.{Laws.Own.own_length, Own.own_bar, Own.own_into}
use Rattle.accounts.proofs.own.own_bar.Goals as goal

pub returns-then-not-is_whole : goal.returns-then-not-is_whole
unfolding own_into
returns-then-not-is_whole c = rw (not_so c.is_whole.ensures c.if-not-is_whole.true-raw)

pub returns-then-stream-slots : goal.returns-then-stream-slots
unfolding own_into
returns-then-stream-slots c = rw (so c.is_whole.ensures c.if-not-is_whole.false-raw, lt-leb _ _ c.if-stream-slots.true)

pub overflow_add-slots : goal.overflow_add-slots
overflow_add-slots c =
    let good = c.well_formed in
    omega (
      arith,
      eqb-true (length c.args.bar.now) (10 + c.args.stream) (so c.is_whole.ensures c.if-not-is_whole.false-raw),
      c.if-stream-slots.false,
    )

pub returns-then-room-slots : goal.returns-then-room-slots
unfolding own_into
returns-then-room-slots c =
    let a = c.args in
    let whole = so c.is_whole.ensures c.if-not-is_whole.false-raw in
    let few = c.if-stream-slots.false in
    let short : length a.room.now < 0 + length (own_bar a.stream a.slots a.bar.now) =
    omega (arith, own_length a.stream a.slots a.bar.now (eqb-true _ _ whole) few, c.if-room-slots.true) in
    rw (whole, le-leb _ _ few, overwrite_late _ _ _ short)

pub write_own-requires : goal.write_own-requires
write_own-requires c = (
  eqb-true _ _ (so c.is_whole.ensures c.if-not-is_whole.false-raw),
  c.if-stream-slots.false,
  c.if-room-slots.false,
)

pub returns : goal.returns
unfolding own_into
returns c =
    rw (
      so c.is_whole.ensures c.if-not-is_whole.false-raw,
      le-leb _ _ c.if-stream-slots.false,
    ) c.write_own.ensures
