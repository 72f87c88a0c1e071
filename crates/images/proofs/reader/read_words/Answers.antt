use Rattle.words.specs.Prelude.{◌≡◌, refl, arith, length-set}
use Rattle.images.proofs.{Reading.words_none, Reading.words_more}
use Rattle.images.proofs.reader.read_words.Goals as goal

pub loop-i-init : goal.loop-i-init
loop-i-init c =
    let a = c.args in
    (words_none a.image.now a.at a.room.now, refl)

pub loop-i-preserved : goal.loop-i-preserved
loop-i-preserved c =
    let a = c.args in (
      words_more a.image.now a.at a.room.now c.loop-i.i c.word_at.result (omega arith) c.loop-i.invariant.0
          c.word_at.ensures.0,
      simp length-set c.loop-i.invariant.1,
    )

pub returns : goal.returns
returns c = let e : c.args.n ≡ c.loop-i.i = omega arith in rw e c.loop-i.invariant.0
