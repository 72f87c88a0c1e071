use Rattle.words.specs.Prelude.{◌≡◌, refl, arith, drop, length-set}
use Rattle.images.specs.{Layout.words_bytes}
use Rattle.dump.specs.{Laws.Laid.laid_none}
use Rattle.dump.proofs.{Storing.copied_next}
use Rattle.dump.proofs.part.copy_bytes.Goals as goal

pub loop-k-init : goal.loop-k-init
loop-k-init c =
    let a = c.args in
    (laid_none a.part.now a.to (drop a.p (words_bytes a.list.now)) 0, refl)

pub loop-k-preserved : goal.loop-k-preserved
loop-k-preserved c =
    let a = c.args in (
      copied_next a.part.now a.to (words_bytes a.list.now) a.p c.loop-k.k c.byte_at.result c.loop-k.invariant.0 c.byte_at.ensures,
      simp length-set c.loop-k.invariant.1,
    )

pub returns : goal.returns
returns c =
    let e : c.args.n ≡ c.loop-k.k = omega arith in
    rw e c.loop-k.invariant.0
