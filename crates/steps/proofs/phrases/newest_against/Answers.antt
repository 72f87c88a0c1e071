-- Two leaves and a comparison, or no test.
use Rattle.words.specs.Prelude.{rules, sym, ◌∙◌, arith}
use Rattle.steps.proofs.{Coming.compare_tests}
use Rattle.steps.proofs.phrases.newest_against.Goals as goal

pub returns-then-is_comparison : goal.returns-then-is_comparison
returns-then-is_comparison c =
    let class = sym c.is_comparison.ensures ∙ c.if-is_comparison.true in (
      omega (arith, c.if-n-p-ge3.true),
      rw c.compared-answer.ensures
          (compare_tests _ _ _ _ _ _ (c.near_leaf-a.ensures c.if-a.true) (c.near_leaf-b.ensures c.if-b.true)
          (omega (arith, c.if-n-p-ge3.true)) _ c.step_at-x.ensures.0 class),
    )

pub returns-else-is_comparison : goal.returns-else-is_comparison
returns-else-is_comparison c = (search rules, λ some. absurd (omega (arith, some)))

pub returns-else-b : goal.returns-else-b
returns-else-b c = (search rules, λ some. absurd (omega (arith, some)))

pub returns-else-a : goal.returns-else-a
returns-else-a c = (search rules, λ some. absurd (omega (arith, some)))

pub returns-else-second : goal.returns-else-second
returns-else-second c = (search rules, λ some. absurd (omega (arith, some)))

pub returns-else-head-lt65536 : goal.returns-else-head-lt65536
returns-else-head-lt65536 c = (search rules, λ some. absurd (omega (arith, some)))

pub returns-else-n-p-ge3 : goal.returns-else-n-p-ge3
returns-else-n-p-ge3 c = (search rules, λ some. absurd (omega (arith, some)))
