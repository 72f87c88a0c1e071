use Rattle.std.specs.Prelude.{Some}
use Rattle.words.specs.Prelude.{ℕ, ◌+◌, ◌-◌, ◌<◌, ◌≡◌, ap, ◌∙◌, arith, le_refl, Float}
use Rattle.rows.specs.{History.history_of}
use Rattle.table.specs.{declared.series.Series.TheVariants.Price}
use Rattle.rules.specs.{Values.took, Meaning.extreme_over, Laws.Meaning.price_one, Laws.Meaning.price_more}
use Rattle.rules.proofs.operands.field_over.Goals as goal

pub field_of_bar-best-requires : goal.field_of_bar-best-requires
field_of_bar-best-requires c = (omega (arith, c.requires.0, c.requires.1), c.requires.2)

pub loop-at-init : goal.loop-at-init
loop-at-init c =
    let a = c.args in
    let there : a.oldest < (history_of a.slots a.rows.now).rows = omega (arith, c.requires.0, c.requires.1) in (
      le_refl a.oldest,
      ap (λ (x : Float). Some x) c.field_of_bar-best.ensures ∙ price_one (history_of a.slots a.rows.now) a.kind a.selector a.oldest there,
    )

pub field_of_bar-requires : goal.field_of_bar-requires
field_of_bar-requires c = (omega (arith, c.requires.1), c.requires.2)

pub loop-at-preserved : goal.loop-at-preserved
loop-at-preserved c =
    let l = c.loop-at in
    let a = c.args in
    let there : l.at + 1 < (history_of a.slots a.rows.now).rows = omega (arith, c.requires.1) in (
      omega (arith, l.invariant.0),
      ap (λ (x : Float). Some x) (c.took-best.ensures ∙ ap (took a.kind l.best) c.field_of_bar.ensures)
          ∙ price_more (history_of a.slots a.rows.now) a.kind a.selector a.oldest l.best l.at l.invariant.0 there l.invariant.1,
    )

pub returns : goal.returns
returns c =
    let l = c.loop-at in
    let a = c.args in
    let last : l.at ≡ a.bar = omega arith in
    l.invariant.1 ∙ ap (λ (m : ℕ). extreme_over (history_of a.slots a.rows.now) a.kind (Price a.selector) a.oldest (m - a.oldest)) last
