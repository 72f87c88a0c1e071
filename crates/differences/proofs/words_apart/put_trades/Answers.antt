use Rattle.words.specs.Prelude.{◌≡◌, ap, subst, ◌∙◌, List, ℕ, ◌+◌, ◌*◌, ◌≤◌, ◌<◌, arith, rules, length, length-append}
use Rattle.words.specs.{Limits.trade_words, Words.overwrite, Laws.Overwrite.overwrite-length}
use Rattle.differences.specs.{Lines.word_lines, Lines.words_of, Laws.Counted.trade_lines, Laws.Counted.trades_next, Laws.Counted.trades_rise}
use Rattle.differences.specs.{Laws.Written.none_yet, Laws.Written.turn_fits, Laws.Written.turn_stands}
use Rattle.differences.proofs.words_apart.put_trades.Goals as goal

-- trade x is one of the list's
in_list : (x n m : ℕ) → x < n → 10 * n ≤ m → 10 * (x + 1) ≤ m
in_list x n m h l = omega arith

-- the lines of one trade more are no more than those of all
few : (a b : List ℕ) (x n : ℕ) → x < n
    → length (word_lines a b (trade_words * x)) + length (trade_lines a b x trade_words) ≤ length (word_lines a b (trade_words * n))
few a b x n h =
    subst (λ (m : ℕ). m ≤ length (word_lines a b (trade_words * n)))
    (ap length (trades_next a b x) ∙ length-append (word_lines a b (trade_words * x)) (trade_lines a b x trade_words)) (trades_rise a b x n h)

pub loop-x-init : goal.loop-x-init
unfolding word_lines
loop-x-init c =
    let none = none_yet c.args.from _ c.args.lines.now c.requires.2 in
    none

pub put_trade-c-requires : goal.put_trade-c-requires
put_trade-c-requires c =
    let l = c.loop-x in
    let start = c.args in
    let a = start.a.now in
    let b = start.b.now in
    let below : l.x < start.n = search rules in (
      in_list l.x start.n _ below c.requires.0,
      in_list l.x start.n _ below c.requires.1,
      turn_fits start.lines.now l.lines start.from l.c _ (word_lines a b (trade_words * l.x)) (trade_lines a b l.x trade_words)
          l.invariant (few a b l.x start.n below) c.requires.2,
    )

pub loop-x-preserved : goal.loop-x-preserved
loop-x-preserved c =
    let l = c.loop-x in
    let start = c.args in
    let a = start.a.now in
    let b = start.b.now in
    let below : l.x < start.n = search rules in
    let next = turn_stands start.lines.now l.lines start.from l.c _ (word_lines a b (trade_words * l.x)) (trade_lines a b l.x trade_words)
    l.invariant (few a b l.x start.n below) c.requires.2 (word_lines a b (trade_words * (l.x + 1))) (trades_next a b l.x)
    c.put_trade-c.ensures in
    next

pub shape_of-lines : goal.shape_of-lines
shape_of-lines c = ap length c.loop-x.invariant.1 ∙ overwrite-length _ _ _

pub returns : goal.returns
returns c =
    let start = c.args in
    let l = c.loop-x in
    let end : l.x ≡ start.n = omega arith in (
      l.invariant.0 ∙ ap (λ (n : ℕ). start.from + length (word_lines start.a.now start.b.now (trade_words * n))) end,
      l.invariant.1 ∙ ap (λ (n : ℕ). overwrite start.lines.now (5 * start.from) (words_of (word_lines start.a.now start.b.now (trade_words * n)))) end,
    )
