use Rattle.words.specs.Prelude.{◌≡◌, ap, subst, ◌∙◌, List, ℕ, ◌+◌, ◌*◌, ◌≤◌, ◌<◌, add-one, arith, rules, length}
use Rattle.words.specs.{Limits.trade_words, Words.overwrite, Laws.Overwrite.overwrite-length}
use Rattle.differences.specs.{Lines.word_line, Lines.words_of, Laws.Counted.trade_lines, Laws.Counted.trade_next, Laws.Counted.trade_rise}
use Rattle.differences.specs.{Laws.Written.none_yet, Laws.Written.turn_fits, Laws.Written.turn_stands}
use Rattle.differences.proofs.words_apart.put_trade.Goals as goal

-- word w is one of the list's
in_list : (x w n : ℕ) → w < 10 → 10 * (x + 1) ≤ n → 10 * x + w < n
in_list x w n h l = omega arith

-- the lines of one word more are no more than the trade's
few : (a b : List ℕ) (x w : ℕ) → w < trade_words
    → length (trade_lines a b x w) + length (word_line a b (trade_words * x + w)) ≤ length (trade_lines a b x trade_words)
few a b x w h = subst (λ (n : ℕ). n ≤ length (trade_lines a b x trade_words)) (trade_next a b x w) (trade_rise a b x w h)

pub loop-w-init : goal.loop-w-init
unfolding trade_lines
loop-w-init c =
    let none = none_yet c.args.from _ c.args.lines.now c.requires.2 in
    none

pub put_word-c-requires : goal.put_word-c-requires
put_word-c-requires c =
    let l = c.loop-w in
    let start = c.args in
    let a = start.a.now in
    let b = start.b.now in
    let below : l.w < trade_words = search rules in (
      below,
      in_list start.x l.w _ below c.requires.0,
      in_list start.x l.w _ below c.requires.1,
      turn_fits start.lines.now l.lines start.from l.c _ (trade_lines a b start.x l.w) (word_line a b (trade_words * start.x + l.w))
          l.invariant (few a b start.x l.w below) c.requires.2,
    )

pub loop-w-preserved : goal.loop-w-preserved
unfolding trade_lines
loop-w-preserved c =
    let l = c.loop-w in
    let start = c.args in
    let a = start.a.now in
    let b = start.b.now in
    let x = start.x in
    let below : l.w < trade_words = search rules in
    let next = turn_stands start.lines.now l.lines start.from l.c _ (trade_lines a b x l.w) (word_line a b (trade_words * x + l.w))
    l.invariant (few a b x l.w below) c.requires.2 (trade_lines a b x (l.w + 1)) (ap (trade_lines a b x) (add-one l.w))
    c.put_word-c.ensures in
    next

pub shape_of-lines : goal.shape_of-lines
shape_of-lines c = ap length c.loop-w.invariant.1 ∙ overwrite-length _ _ _

pub returns : goal.returns
returns c =
    let start = c.args in
    let l = c.loop-w in
    let end : l.w ≡ trade_words = omega arith in (
      l.invariant.0 ∙ ap (λ (n : ℕ). start.from + length (trade_lines start.a.now start.b.now start.x n)) end,
      l.invariant.1 ∙ ap (λ (n : ℕ). overwrite start.lines.now (5 * start.from) (words_of (trade_lines start.a.now start.b.now start.x n))) end,
    )
