-- `totals::nearest::clear_below`: the word where place j is, and those below it. Assumes nothing.
use Rattle.words.specs.Prelude.{sym, ap, subst, ◌∙◌, ℕ, ◌/◌, ◌%◌, ◌^◌, ◌<◌, arith}
use Rattle.totals.specs.{Number.AreWords}
use Rattle.totals.proofs.{Reading.same_word, Reading.other_word, Reading.clear_below, Reading.not_clear}
use Rattle.totals.proofs.nearest.clear_below.Goals as goal

pub returns-then-w-j : goal.returns-then-w-j
returns-then-w-j c =
    let start = c.args in
    let ws = start.words.now in
    let words : AreWords ws = λ i. omega (arith, c.type_inv.words i) in
    let w = c.word-w in
    let small : w.result < 2 ^ 64 = omega (arith, w.ensures, words (start.j / 64)) in
    clear_below ws start.j c.top.result words
    (ap (λ (x : ℕ). x % 2 ^ (start.j % 64)) (sym w.ensures) ∙ same_word w.result (start.j % 64) small c.if-w-j.true) c.top.ensures

pub returns : goal.returns
returns c =
    let start = c.args in
    let ws = start.words.now in
    let words : AreWords ws = λ i. omega (arith, c.type_inv.words i) in
    let w = c.word-w in
    let small : w.result < 2 ^ 64 = omega (arith, w.ensures, words (start.j / 64)) in
    not_clear ws start.j words (subst (λ (x : ℕ). 0 < x % 2 ^ (start.j % 64)) w.ensures (other_word w.result (start.j % 64) small c.if-w-j.false))
