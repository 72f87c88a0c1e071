use Rattle.words.specs.Prelude.{arith, ◌≡◌, refl, ◌∙◌, ◌+◌, drop, length-set, paste-zero}
use Rattle.words.proofs.{Copying.moved_on, Copying.one_word}
use Rattle.words.proofs.moving.shift_words.Goals as goal

pub loop-i-init : goal.loop-i-init
loop-i-init c =
    let a = c.args in
    (paste-zero a.room.now a.at (drop (a.at + a.width) a.room.now), refl)

pub loop-i-preserved : goal.loop-i-preserved
loop-i-preserved c =
    let a = c.args in
    let i = c.loop-i.i in (
      one_word c.loop-i.room (a.at + i) (a.at + i + a.width) (omega arith) (omega arith)
          ∙ moved_on a.room.now c.loop-i.room a.width a.at i (a.at + i) 1 (i + 1) refl refl (omega arith) c.loop-i.invariant.0,
      simp length-set c.loop-i.invariant.1,
    )

pub returns : goal.returns
returns c =
    let e : c.args.count ≡ c.loop-i.i = omega arith in
    rw e c.loop-i.invariant.0
