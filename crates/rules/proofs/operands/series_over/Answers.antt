-- One bar after the other. Assumes nothing.
use Rattle.words.specs.Prelude.{ℕ, ◌-◌, ◌≡◌, sym, ap, ◌∙◌, arith, le_refl}
use Rattle.rows.specs.{History.history_of}
use Rattle.rules.specs.{Meaning.extreme_over, Laws.Meaning.extreme_one, Laws.Meaning.extreme_more}
use Rattle.rules.proofs.operands.series_over.Goals as goal

pub loop-at-init : goal.loop-at-init
loop-at-init c =
    let a = c.args in
    (le_refl a.oldest, c.series_of_bar-best.ensures ∙ sym (extreme_one (history_of a.slots a.rows.now) a.kind a.over a.oldest))

pub loop-at-preserved : goal.loop-at-preserved
loop-at-preserved c =
    let l = c.loop-at in
    let a = c.args in (
      omega (arith, l.invariant.0),
      rw (
        extreme_more (history_of a.slots a.rows.now) a.kind a.over a.oldest l.at l.invariant.0,
        ← l.invariant.1,
        ← c.series_of_bar.ensures,
      ) c.pick-best.ensures,
    )

pub returns : goal.returns
returns c =
    let l = c.loop-at in
    let a = c.args in
    let last : l.at ≡ a.bar = omega arith in
    l.invariant.1 ∙ ap (λ (m : ℕ). extreme_over (history_of a.slots a.rows.now) a.kind a.over a.oldest (m - a.oldest)) last
