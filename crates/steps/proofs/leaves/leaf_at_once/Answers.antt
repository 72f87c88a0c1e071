-- A row that is there lies within the words; then kind by kind.
use Rattle.words.specs.Prelude.{arith, ◌≡◌, sym, true≢false, ℕ, ◌+◌, ◌-◌, ◌*◌, ◌<◌, ◌≤◌, length}
use Rattle.rows.specs.{Ring.ring_place, Ring.ring_of}
use Rattle.table.specs.{Trees.ref, Trees.price}
use Rattle.steps.specs.{Machine.ago, Machine.effect}
use Rattle.steps.proofs.{Rows.ring_held, Rows.place_ends, Rows.ago-const, Rows.ago-price, Rows.ago-ref, Said.says_const, Said.says_ref, Said.says_price}
use Rattle.steps.proofs.leaves.leaf_at_once.Goals as goal

pub returns-then-x-eq-CONST : goal.returns-then-x-eq-CONST
unfolding effect
returns-then-x-eq-CONST c e s a b c2 d y =
    let g = c.args in
    let h = ring_of g.slots g.first g.rows.now in
    rw (
      says_const g.x c.if-x-eq-CONST.true,
      c.float_of.ensures,
      ago-const h g.held g.x.n g.x.bits (ring_held _ _ _ _ c.requires.held_value.0) c.if-x-held.true,
    )

pub field_at_once-requires : goal.field_at_once-requires
field_at_once-requires c =
    let ends : (base : ℕ) → let a = c.args in a.x.n < a.held → base ≡ ring_place a.held a.first (a.held - 1 - a.x.n) * (7 + a.slots)
    → base + (7 + a.slots) ≤ length a.rows.now = λ base l is. let a = c.args in
    rw is (place_ends a.slots a.first a.rows.now a.held 0 c.requires.held_value.0 c.requires.held_value.1 (a.held - 1 - a.x.n) (omega (arith, l))) in
    omega (arith, ends _ c.if-x-held.true c.row_back-base.ensures)

pub returns-then-x-eq-PRICE : goal.returns-then-x-eq-PRICE
unfolding effect
returns-then-x-eq-PRICE c e s a b c2 d y =
    let g = c.args in
    let p = c.requires.held_value in
    let is : c.field_at_once.result.value ≡ ago (ring_of g.slots g.first g.rows.now) (price g.x.selector) g.x.n =
    rw (c.field_at_once.ensures e, c.row_back-base.ensures) (sym (ago-price _ _ _ _ _ p.0 p.1 _ c.if-x-held.true)) in
    rw (says_price g.x c.if-x-eq-PRICE.true, is)

pub slot_at_once-requires : goal.slot_at_once-requires
slot_at_once-requires c =
    let ends : (base : ℕ) → let a = c.args in a.x.n < a.held → base ≡ ring_place a.held a.first (a.held - 1 - a.x.n) * (7 + a.slots)
    → base + (7 + a.slots) ≤ length a.rows.now = λ base l is. let a = c.args in
    rw is (place_ends a.slots a.first a.rows.now a.held 0 c.requires.held_value.0 c.requires.held_value.1 (a.held - 1 - a.x.n) (omega (arith, l))) in
    ends _ c.if-x-held.true c.row_back-base.ensures

pub returns-then-x-eq-REF : goal.returns-then-x-eq-REF
unfolding effect
returns-then-x-eq-REF c e s a b c2 d y =
    let g = c.args in
    let p = c.requires.held_value in
    let is : c.slot_at_once.result.value ≡ ago (ring_of g.slots g.first g.rows.now) (ref g.x.selector) g.x.n =
    rw (c.slot_at_once.ensures e, c.row_back-base.ensures) (sym (ago-ref _ _ _ _ _ p.0 p.1 _ c.if-x-held.true)) in
    rw (says_ref g.x c.if-x-eq-REF.true, is)

pub returns-else-x-eq-REF : goal.returns-else-x-eq-REF
returns-else-x-eq-REF c e = absurd (true≢false (sym e))

pub returns-else-x-held : goal.returns-else-x-held
returns-else-x-held c e = absurd (true≢false (sym e))
