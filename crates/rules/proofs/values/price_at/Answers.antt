-- Each return is what `price_of` says where the tests that led there hold.
use Rattle.words.specs.Prelude.{eq-eqb, ne_eqb, lt-ltb, le-ltb}
use Rattle.rules.specs.{Values.price_of}
use Rattle.rules.proofs.values.price_at.Goals as goal

pub returns-then-selector-lt5 : goal.returns-then-selector-lt5
unfolding price_of
returns-then-selector-lt5 c = simp (lt-ltb _ _ c.if-selector-lt5.true) c.field_at.ensures

pub returns-then-selector-eq5 : goal.returns-then-selector-eq5
unfolding price_of
returns-then-selector-eq5 c =
    simp (
      le-ltb _ _ c.if-selector-lt5.false,
      eq-eqb _ _ c.if-selector-eq5.true,
      c.typical.ensures,
      c.field_at-high.ensures,
      c.field_at-low.ensures,
      c.field_at-close.ensures,
    )

pub returns : goal.returns
unfolding price_of
returns c =
    simp (
      le-ltb _ _ c.if-selector-lt5.false,
      ne_eqb _ _ c.if-selector-eq5.false,
      c.mean_price.ensures,
      c.field_at-2.ensures,
      c.field_at-high.ensures,
      c.field_at-low.ensures,
      c.field_at-close.ensures,
    )
