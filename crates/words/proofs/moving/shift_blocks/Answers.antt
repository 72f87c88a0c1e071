use Rattle.words.specs.Prelude.{rules, arith, ◌≡◌, refl, ◌∙◌, ◌+◌, ◌*◌, drop, paste-zero}
use Rattle.words.proofs.{Copying.moved_on}
use Rattle.words.proofs.moving.shift_blocks.Goals as goal

pub loop-i-init : goal.loop-i-init
loop-i-init c =
    let a = c.args in
    (paste-zero a.room.now a.at (drop (a.at + a.width) a.room.now), refl)

pub loop-i-preserved : goal.loop-i-preserved
loop-i-preserved c =
    let a = c.args in
    let i = c.loop-i.i in (
      c.shift_block.ensures
          ∙ moved_on a.room.now c.loop-i.room a.width a.at (16 * i) (a.at + 16 * i) 16 (16 * (i + 1))
          refl (omega arith) (omega arith) c.loop-i.invariant.0,
      search rules,
    )

pub returns : goal.returns
returns c =
    let e : c.args.count ≡ c.loop-i.i = omega arith in
    rw e c.loop-i.invariant.0
