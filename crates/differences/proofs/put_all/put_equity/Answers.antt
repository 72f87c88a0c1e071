-- The line where the point is one of them, and else none.
use Rattle.words.specs.Prelude.{sym, ap, ◌∙◌, List, arith, length}
use Rattle.words.specs.{Words.overwrite}
use Rattle.differences.specs.{Lines.Line, Lines.words_of, Laws.Counted.equity_some, Laws.Counted.equity_none, Laws.Written.none_written}
use Rattle.differences.proofs.put_all.put_equity.Goals as goal

pub put_line-requires : goal.put_line-requires
put_line-requires c =
    let one = ap length (equity_some c.args.a.now c.args.b.now c.args.k c.args.n c.if-k-n.true) in
    omega (arith, c.requires.2, one)

pub returns-then-k-n : goal.returns-then-k-n
returns-then-k-n c =
    let some = equity_some c.args.a.now c.args.b.now c.args.k c.args.n c.if-k-n.true in
    (sym (ap length some), c.put_line.ensures ∙ sym (ap (λ (x : List Line). overwrite c.args.lines.now 0 (words_of x)) some))

pub returns : goal.returns
returns c =
    let none = equity_none c.args.a.now c.args.b.now c.args.k c.args.n c.if-k-n.false in (
      sym (ap length none),
      sym (ap (λ (x : List Line). overwrite c.args.lines.now 0 (words_of x)) none
          ∙ none_written c.args.lines.now 0 (omega arith)),
    )
