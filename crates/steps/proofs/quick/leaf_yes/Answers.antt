-- Each yes is one law of the words, and a no is not asked for anything.
use Rattle.words.specs.Prelude.{ltb-true, arith, ◌/◌, ◌%◌}
use Rattle.steps.proofs.{Heads.constant_told, Heads.price_told, Heads.slot_told}
use Rattle.steps.proofs.quick.leaf_yes.Goals as goal

pub returns-then-depth-head : goal.returns-then-depth-head
returns-then-depth-head c e after = cc

pub returns-then-low-eq-CONST : goal.returns-then-low-eq-CONST
returns-then-low-eq-CONST c e after = constant_told _ _ after _ _ c.if-low-eq-CONST.true c.if-depth-head.false

pub returns-then-bits-ne0 : goal.returns-then-bits-ne0
returns-then-bits-ne0 c e after = cc

pub returns-then-low-ge-NO_SKIP : goal.returns-then-low-ge-NO_SKIP
returns-then-low-ge-NO_SKIP c e after = cc

pub returns-then-low-eq-PRICE : goal.returns-then-low-eq-PRICE
returns-then-low-eq-PRICE c e after =
    rw c.if-bits-ne0.false
    (price_told _ _ after _ (omega (arith, c.if-low-eq-PRICE.true)) (omega (arith, c.if-low-ge-NO_SKIP.false)) c.if-depth-head.false)

pub returns-then-low-eq-REF : goal.returns-then-low-eq-REF
returns-then-low-eq-REF c e after =
    let s = c.args in
    let few = ltb-true (s.head % 4294967296 / 256) s.slots e in
    rw c.if-bits-ne0.false
    (slot_told _ _ after _ (omega (arith, c.if-low-eq-REF.true)) (omega (arith, c.if-low-ge-NO_SKIP.false)) (omega (arith, c.if-low-ge-NO_SKIP.false, few))
    c.if-depth-head.false)

pub returns : goal.returns
returns c e after = cc
