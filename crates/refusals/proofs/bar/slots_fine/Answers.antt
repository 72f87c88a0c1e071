use Rattle.words.specs.Prelude.{ℕ, ◌/◌, ◌≡◌, refl, sym, ap, ◌∙◌, div-one, arith, get_or}
use Rattle.refusals.specs.{Bar.every, Bar.slot_fine, Bar.slots_fine, Laws.Every.every_more}
use Rattle.refusals.proofs.{Bits.halved, Bits.all_fine, Bits.one_bad}
use Rattle.refusals.proofs.bar.slots_fine.Goals as goal

pub loop-k-init : goal.loop-k-init
unfolding every
loop-k-init c = (c.word_from-left.ensures ∙ sym (div-one (get_or c.args.bar.now 6 0)), refl)

pub returns-then-left-eq0 : goal.returns-then-left-eq0
returns-then-left-eq0 c =
    let a = c.args in
    sym (all_fine a.slots a.bar.now c.loop-k.k (omega arith) c.loop-k.invariant.1 (sym c.loop-k.invariant.0 ∙ c.if-left-eq0.true))

pub loop-k-preserved : goal.loop-k-preserved
loop-k-preserved c =
    let a = c.args in (
      ap (λ (m : ℕ). m / 2) c.loop-k.invariant.0 ∙ halved (get_or a.bar.now 6 0) c.loop-k.k,
      every_more (slot_fine a.slots a.bar.now) c.loop-k.k c.loop-k.invariant.1
          (rw (← c.loop-k.invariant.0) (sym c.slot_fine.ensures ∙ c.if-not-slot_fine.false)),
    )

pub returns-then-not-slot_fine : goal.returns-then-not-slot_fine
returns-then-not-slot_fine c =
    let a = c.args in
    sym (one_bad a.slots a.bar.now c.loop-k.k (omega arith)
    (rw (← c.loop-k.invariant.0) (sym c.slot_fine.ensures ∙ c.if-not-slot_fine.true)))

pub returns : goal.returns
unfolding slots_fine
returns c =
    let n : c.loop-k.k ≡ 64 = omega arith in
    sym (sym (ap (λ (m : ℕ). every m (slot_fine c.args.slots c.args.bar.now)) n) ∙ c.loop-k.invariant.1)
