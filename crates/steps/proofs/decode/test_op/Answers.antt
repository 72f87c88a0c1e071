-- The tests are those of the definition, in its order.
use Rattle.words.specs.Prelude.{eq-eqb, le-ltb, lt-ltb, ne_eqb, sym, ◌∙◌}
use Rattle.steps.specs.{Bytes.test_op}
use Rattle.steps.proofs.decode.test_op.Goals as goal

pub returns-then-is_comparison : goal.returns-then-is_comparison
unfolding test_op
returns-then-is_comparison c = simp (sym c.is_comparison.ensures ∙ c.if-is_comparison.true)

pub returns-then-x-lt-BETWEEN : goal.returns-then-x-lt-BETWEEN
unfolding test_op
returns-then-x-lt-BETWEEN c = simp (lt-ltb _ _ c.if-x-lt-BETWEEN.true, sym c.is_comparison.ensures ∙ c.if-is_comparison.false)

pub returns-then-x-eq-BETWEEN : goal.returns-then-x-eq-BETWEEN
unfolding test_op
returns-then-x-eq-BETWEEN c =
    simp (eq-eqb _ _ c.if-x-eq-BETWEEN.true, le-ltb _ _ c.if-x-lt-BETWEEN.false, sym c.is_comparison.ensures ∙ c.if-is_comparison.false)

pub returns : goal.returns
unfolding test_op
returns c =
    simp (ne_eqb _ _ c.if-x-eq-BETWEEN.false, le-ltb _ _ c.if-x-lt-BETWEEN.false, sym c.is_comparison.ensures ∙ c.if-is_comparison.false)
