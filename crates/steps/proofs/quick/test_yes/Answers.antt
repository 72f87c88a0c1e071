-- The whole head is a kind, and the constant is zero.
use Rattle.words.specs.Prelude.{eqb-true, sym, ◌∙◌}
use Rattle.steps.proofs.{Heads.test_told}
use Rattle.steps.proofs.quick.test_yes.Goals as goal

pub returns-then-is_test : goal.returns-then-is_test
returns-then-is_test c e slots depth after = rw (eqb-true c.args.bits 0 e) (test_told slots depth after _ (sym c.is_test.ensures ∙ c.if-is_test.true))

pub returns : goal.returns
returns c e slots depth after = cc
