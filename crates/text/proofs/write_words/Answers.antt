-- A word more is written; in the end there is nothing left.
use Rattle.words.specs.Prelude.{◌++◌, ◌∷◌, [], List, ℕ, get_or, arith}
use Rattle.text.specs.Spelling.{spelt}
use Rattle.text.proofs.{Writing.both, Writing.step, Writing.more, Writing.whole}
use Rattle.text.proofs.write_words.Goals as goal

pub loop-i-preserved : goal.loop-i-preserved
loop-i-preserved g c =
    let words = c.args.words.now in
    let i = c.loop-i.i in
    let piece : List ℕ = spelt (get_or words i 0) ++ (c.byte_after.result ∷ []) in
    let s = step words i c.args.end c.byte_after.result (omega arith) c.byte_after.ensures.space c.byte_after.ensures.last in (
      c.loop-i.invariant.0 ++ piece,
      both (g.W.Write.contents c.args.output.now) (g.W.Write.contents c.loop-i.output) (g.W.Write.contents c.write_word.new.output) c.loop-i.invariant.0 piece
          c.loop-i.invariant.1 c.in_ok-write_word.ensures,
      more _ _ _ _ _ c.loop-i.invariant.2 s,
    )

pub returns : goal.returns
returns g c =
    whole (g.W.Write.contents c.args.output.now) (g.W.Write.contents c.loop-i.output) c.args.words.now c.loop-i.i c.args.end c.loop-i.invariant.0
    (omega arith) c.loop-i.invariant.1 c.loop-i.invariant.2
