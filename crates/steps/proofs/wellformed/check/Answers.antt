use Rattle.words.specs.Prelude.{eq-eqb, ne_eqb, lt-ltb, le-ltb, arith, sub-zero, refl, sym, ◌∙◌}
use Rattle.steps.specs.{WellFormed.formed}
use Rattle.steps.proofs.{Forms.none_left}
use Rattle.steps.proofs.wellformed.check.Goals as goal

pub returns-then-list-ne0 : goal.returns-then-list-ne0
unfolding formed
returns-then-list-ne0 c = rw (ne_eqb _ _ c.if-list-ne0.true)

pub returns-then-n-gt-MOST_STEPS : goal.returns-then-n-gt-MOST_STEPS
unfolding formed
returns-then-n-gt-MOST_STEPS c = rw (eq-eqb _ _ c.if-list-ne0.false, lt-ltb _ _ c.if-n-gt-MOST_STEPS.true)

pub loop-p-init : goal.loop-p-init
unfolding formed
loop-p-init c = (omega arith, simp sub-zero)

pub good_from-good-requires : goal.good_from-good-requires
unfolding formed
good_from-good-requires c = (refl, c.if-n-gt-MOST_STEPS.false, c.loop-p-test.true)

pub returns-then-good-eq0 : goal.returns-then-good-eq0
unfolding formed
returns-then-good-eq0 c =
    rw (
      eq-eqb _ _ c.if-list-ne0.false,
      le-ltb _ _ c.if-n-gt-MOST_STEPS.false,
      c.loop-p.invariant.1,
      c.good_from-good.ensures.1 c.if-good-eq0.true,
    )

pub overflow_add-p : goal.overflow_add-p
unfolding formed
overflow_add-p c = omega (arith, c.good_from-good.ensures.0, c.if-n-gt-MOST_STEPS.false)

pub loop-p-smaller : goal.loop-p-smaller
unfolding formed
loop-p-smaller c = omega (arith, c.good_from-good.ensures.0, c.if-good-eq0.false)

pub loop-p-preserved : goal.loop-p-preserved
unfolding formed
loop-p-preserved c = (c.good_from-good.ensures.0, c.loop-p.invariant.1 ∙ c.good_from-good.ensures.2)

pub returns : goal.returns
unfolding formed
returns c =
    rw (eq-eqb _ _ c.if-list-ne0.false, le-ltb _ _ c.if-n-gt-MOST_STEPS.false, c.loop-p.invariant.1)
    (sym (none_left _ _ _ _ _ c.loop-p-test.false))
