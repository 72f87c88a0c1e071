-- Four good steps are passed, or one, or the first is bad.
use Rattle.words.specs.Prelude.{arith, ◌≡◌, ◌+◌, ◌∙◌}
use Rattle.steps.proofs.{Forms.one_more, Forms.one_good, Forms.four_good}
use Rattle.steps.proofs.wellformed.good_from.Goals as goal

pub returns-then-phrase_yes : goal.returns-then-phrase_yes
returns-then-phrase_yes c =
    let good = c.phrase_yes.ensures c.if-phrase_yes.true in (
      omega (arith, c.if-left-ge4.true),
      λ none. absurd (omega (arith, none)),
      four_good _ _ _ _ _ c.requires.0 (omega (arith, c.if-left-ge4.true)) good.0 good.1 good.2 good.3,
    )

pub returns-then-good_at : goal.returns-then-good_at
returns-then-good_at c = (
  omega (arith, c.requires.2),
  λ none. absurd (omega (arith, none)),
  one_good _ _ _ _ _ c.requires.0 c.requires.2 (rw (← c.good_at.ensures, c.if-good_at.true)),
)

pub returns : goal.returns
returns c =
    let here : c.args.p + 0 ≡ c.args.p = omega arith in (
      omega (arith, c.requires.2),
      λ none. one_more _ _ _ _ _ c.requires.0 c.requires.2 ∙ rw (← c.good_at.ensures, c.if-good_at.false),
      rw here,
    )
