use Rattle.words.specs.Prelude.{refl, ap, ◌∙◌, arith, length}
use Rattle.dump.specs.{Laws.Laid.laid-length}
use Rattle.dump.proofs.{Storing.word_next, Storing.words_all}
use Rattle.dump.proofs.bytes.lay_known.Goals as goal

pub loop-k-init : goal.loop-k-init
loop-k-init c =
    let e = c.lay_eights-first.ensures in
    (e.0, e.2, ap length e.2 ∙ laid-length _ _ _ _ _)

pub loop-k-preserved : goal.loop-k-preserved
loop-k-preserved c =
    let a = c.args in
    let next = word_next a.area.now a.base a.list.now a.i c.loop-k.k _ c.loop-k.invariant.0 c.loop-k.invariant.1 refl in (
      omega arith,
      c.put_word.ensures ∙ next,
      ap length c.put_word.ensures ∙ laid-length _ _ _ _ _ ∙ c.loop-k.invariant.2,
    )

pub returns : goal.returns
returns c =
    let a = c.args in
    words_all a.area.now a.base a.list.now a.i a.j c.loop-k.k (omega (arith, c.lay_eights-first.ensures.1)) (omega (arith, c.lay_eights-first.ensures.1))
    c.loop-k.invariant.0 c.loop-k.invariant.1
