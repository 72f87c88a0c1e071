-- Whole rows change places; a row number that is none turns nothing. Assumes nothing.
use Rattle.words.specs.Prelude.{arith, ◌≡◌, sym, ◌/◌, ◌*◌, ◌≤◌, length, div-mul-le_self, mul-le-mul_right}
use Rattle.rows.specs.{Ring.turned, Laws.Turned.turned_none, Laws.Turned.turned_past}
use native.Mathlib.Nat.{div-zero}
use Rattle.rows.proofs.ring.turn.Goals as goal

pub returns-then-start-eq0 : goal.returns-then-start-eq0
returns-then-start-eq0 c =
    let a = c.args in let zero : a.start ≡ 0 = c.if-start-eq0.true in rw zero (sym (turned_none a.width a.room.now))

pub returns-then-width-eq0 : goal.returns-then-width-eq0
returns-then-width-eq0 c =
    let a = c.args in
    let zero : a.width ≡ 0 = c.if-width-eq0.true in
    sym (turned_past a.width a.start a.room.now (rw (zero, div-zero) (omega arith)))

pub returns-then-places-start : goal.returns-then-places-start
returns-then-places-start c = let a = c.args in sym (turned_past a.width a.start a.room.now c.if-places-start.true)

pub overflow_mul-start : goal.overflow_mul-start
overflow_mul-start c =
    let fits : let a = c.args in
    (a.start * a.width ≤ length a.room.now / a.width * a.width) × (length a.room.now / a.width * a.width ≤ length a.room.now) = let a = c.args in
    (mul-le-mul_right a.width (omega arith), div-mul-le_self (length a.room.now) a.width) in
    omega (arith, fits)

pub overflow_mul-places : goal.overflow_mul-places
overflow_mul-places c =
    let fits : let a = c.args in
    (a.start * a.width ≤ length a.room.now / a.width * a.width) × (length a.room.now / a.width * a.width ≤ length a.room.now) = let a = c.args in
    (mul-le-mul_right a.width (omega arith), div-mul-le_self (length a.room.now) a.width) in
    omega (arith, fits)

pub change_places-requires : goal.change_places-requires
change_places-requires c =
    let fits : let a = c.args in
    (a.start * a.width ≤ length a.room.now / a.width * a.width) × (length a.room.now / a.width * a.width ≤ length a.room.now) = let a = c.args in
    (mul-le-mul_right a.width (omega arith), div-mul-le_self (length a.room.now) a.width) in
    fits

pub returns : goal.returns
unfolding turned
returns c = c.change_places.ensures
