-- Kind by kind.
use Rattle.words.specs.Prelude.{◌≡◌, arith}
use Rattle.rows.specs.{Ring.ring_of}
use Rattle.steps.specs.{Machine.effect}
use Rattle.steps.proofs.{Rows.ring_held, Said.says_const, Said.says_ref, Said.says_price}
use Rattle.steps.proofs.leaves.leaf_ago.Goals as goal

pub returns-then-x-eq-CONST : goal.returns-then-x-eq-CONST
unfolding effect
returns-then-x-eq-CONST c s a b c2 d y =
    let g = c.args in
    rw (says_const g.x c.if-x-eq-CONST.true, c.const_ago.ensures (ring_of g.slots g.first g.rows.now) (ring_held _ _ _ _ c.requires.held_value.0))

pub returns-then-x-eq-REF : goal.returns-then-x-eq-REF
unfolding effect
returns-then-x-eq-REF c s a b c2 d y = rw (says_ref c.args.x c.if-x-eq-REF.true, c.ref_ago.ensures)

pub returns : goal.returns
unfolding effect
returns c s a b c2 d y =
    let three : c.args.x.kind ≡ 3 = omega (arith, c.requires.le_kind) in
    rw (says_price c.args.x three, c.price_ago.ensures)
