-- No line where the words are equal, and else the one.
use Rattle.words.specs.Prelude.{ap, arith, length}
use Rattle.differences.specs.{Laws.Counted.line_same, Laws.Counted.line_of, Laws.Written.none_put, Laws.Written.one_put}
use Rattle.differences.proofs.words_apart.put_word.Goals as goal

pub returns-then-a-k : goal.returns-then-a-k
returns-then-a-k c =
    none_put _ _ _ (line_same c.args.a.now c.args.b.now _ c.if-a-k.true) c.requires.3

pub put_line-requires : goal.put_line-requires
put_line-requires c =
    let one = ap length (line_of c.args.a.now c.args.b.now c.args.x c.args.w c.requires.0 c.if-a-k.false) in
    omega (arith, c.requires.3, one)

pub returns : goal.returns
returns c =
    one_put _ _ _ _ (line_of c.args.a.now c.args.b.now c.args.x c.args.w c.requires.0 c.if-a-k.false)
    c.put_line.ensures
