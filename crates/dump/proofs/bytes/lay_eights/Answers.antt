use Rattle.words.specs.Prelude.{refl, ap, ◌∙◌, arith, length}
use Rattle.dump.specs.{Laws.Laid.laid-length}
use Rattle.dump.proofs.{Storing.words_nothing, Storing.eight_next}
use Rattle.dump.proofs.bytes.lay_eights.Goals as goal

pub loop-k-init : goal.loop-k-init
loop-k-init c =
    let a = c.args in
    (omega arith, c.requires.0, words_nothing a.area.now a.base a.list.now a.i, refl)

pub loop-k-preserved : goal.loop-k-preserved
loop-k-preserved c =
    let a = c.args in (
      omega arith,
      omega arith,
      eight_next a.area.now a.base a.list.now a.i c.loop-k.k c.loop-k.invariant.0 c.loop-k.invariant.2 c.lay_four.ensures
          c.lay_four-in-loop-k.ensures,
      ap length c.lay_four-in-loop-k.ensures ∙ laid-length _ _ _ _ _ ∙ ap length c.lay_four.ensures ∙ laid-length _ _ _ _ _ ∙ c.loop-k.invariant.3,
    )

pub returns : goal.returns
returns c = (c.loop-k.invariant.0, c.loop-k.invariant.1, c.loop-k.invariant.2)
