use Rattle.words.specs.Prelude.{◌≡◌, refl, sym, ap, ◌∙◌, ℕ, suc, ◌+◌, ◌^◌, ◌<◌, ◌≤◌, arith, add-one, rules, length}
use Rattle.differences.specs.{Lines.word_lines, Laws.Counted.lines_next, Laws.Counted.lines_most}
use Rattle.differences.proofs.words_apart.count.Goals as goal

fits : (c d x y z n : ℕ) → c ≡ x → d ≡ y → z ≡ x + y → {k : ℕ} → z ≤ suc k → k < n → n < 2 ^ 64 → c + d < 2 ^ 64
fits c d x y z n e f g h i j = omega arith

sum : (c d x y : ℕ) → c ≡ x → d ≡ y → c + d ≡ x + y
sum c d x y e f = omega arith

pub loop-k-init : goal.loop-k-init
unfolding word_lines
loop-k-init c = refl

pub overflow_add-c : goal.overflow_add-c
overflow_add-c c =
    let start = c.args in
    let l = c.loop-k in
    let next = lines_next start.a.now start.b.now l.k in
    let most = lines_most start.a.now start.b.now (suc l.k) in
    record { fits = fits _ _ _ _ _ start.n l.invariant c.differs-c.ensures next most (search rules) (search rules) }

pub loop-k-preserved : goal.loop-k-preserved
loop-k-preserved c =
    let start = c.args in
    let l = c.loop-k in
    sum _ _ _ _ l.invariant c.differs-c.ensures ∙ sym (lines_next start.a.now start.b.now l.k)
    ∙ ap (λ (n : ℕ). length (word_lines start.a.now start.b.now n)) (sym (add-one l.k))

pub returns : goal.returns
returns c =
    let start = c.args in
    let l = c.loop-k in
    let end : l.k ≡ start.n = omega arith in
    l.invariant ∙ ap (λ (n : ℕ). length (word_lines start.a.now start.b.now n)) end
