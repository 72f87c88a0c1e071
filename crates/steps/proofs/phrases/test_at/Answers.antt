-- Two leaves and a comparison, or what may be a cross, or no test.
use Rattle.words.specs.Prelude.{sym, ◌∙◌, arith}
use Rattle.steps.proofs.{Coming.compare_tests}
use Rattle.steps.proofs.phrases.test_at.Goals as goal

pub returns-then-n-p-lt3 : goal.returns-then-n-p-lt3
returns-then-n-p-lt3 c some = absurd (omega (arith, some))

pub returns-then-is_comparison : goal.returns-then-is_comparison
returns-then-is_comparison c =
    let class = sym c.is_comparison.ensures ∙ c.if-is_comparison.true in
    rw c.compared-answer.ensures
    (compare_tests _ _ _ _ _ _ (c.leaf_at-a.ensures c.if-a.true) (c.leaf_at-b.ensures c.if-b.true)
    (omega (arith, c.if-n-p-lt3.false)) _ c.step_at-x.ensures.0 class)

pub cross_at-requires : goal.cross_at-requires
cross_at-requires c =
    let pre = c.requires in
    record { n_bound = pre.n_bound; held_value = pre.held_value; newest_value = pre.newest_value; gives = (c.leaf_at-a.ensures c.if-a.true, c.leaf_at-b.ensures c.if-b.true) }

pub returns-else-b : goal.returns-else-b
returns-else-b c some = absurd (omega (arith, some))

pub returns-else-a : goal.returns-else-a
returns-else-a c some = absurd (omega (arith, some))
