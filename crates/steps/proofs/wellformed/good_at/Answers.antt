-- A quick yes is right for the step of the two words, which is the step there; every other step is asked in full.
use Rattle.words.specs.Prelude.{arith, sym}
use Rattle.steps.proofs.{Heads.told_there}
use Rattle.steps.proofs.wellformed.good_at.Goals as goal

pub returns-then-leaf_yes : goal.returns-then-leaf_yes
returns-then-leaf_yes c =
    sym (told_there c.args.list.now _ (λ i. omega (arith, c.type_inv.list i)) _ _
    c.eight_at-head.ensures c.eight_at-bits.ensures _ _ _ (c.leaf_yes.ensures c.if-leaf_yes.true _))

pub returns-then-test_yes : goal.returns-then-test_yes
returns-then-test_yes c =
    sym (told_there c.args.list.now _ (λ i. omega (arith, c.type_inv.list i)) _ _
    c.eight_at-head.ensures c.eight_at-bits.ensures _ _ _ (c.test_yes.ensures c.if-test_yes.true _ _ _))

pub returns-then-jump_yes : goal.returns-then-jump_yes
returns-then-jump_yes c =
    sym (told_there c.args.list.now _ (λ i. omega (arith, c.type_inv.list i)) _ _
    c.eight_at-head.ensures c.eight_at-bits.ensures _ _ _ (c.jump_yes.ensures c.if-jump_yes.true _ _))

pub returns : goal.returns
returns c = rw (← c.read_step.ensures.0) c.good_step.ensures
