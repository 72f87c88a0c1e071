-- `totals::nearest::kept`: few digits lie in one word or in two. Assumes nothing.
use Rattle.words.specs.Prelude.{◌≡◌, ap, ◌∙◌, ℕ, ◌+◌, ◌-◌, ◌*◌, ◌/◌, ◌%◌, ◌^◌, ◌<◌, arith, get_or}
use Rattle.totals.specs.{Number.number_of, Number.AreWords}
use Rattle.totals.proofs.{Reading.few_digits, Reading.few_whole}
use Rattle.totals.proofs.nearest.kept.Goals as goal

fine : (a b : ℕ) → a ≡ b → b < 2 ^ 53 → a < 2 ^ 64
fine a b e h = omega arith

some : (x : ℕ) → (x ≡ 0 → ⊥) → 0 < x
some x h = omega arith

pub returns-then-r-eq0 : goal.returns-then-r-eq0
returns-then-r-eq0 c =
    let start = c.args in
    let words : AreWords start.words.now = λ i. omega (arith, c.type_inv.words i) in
    ap (λ (w : ℕ). w / 2 ^ (start.k % 64)) c.word.ensures ∙ few_whole start.words.now words start.k c.requires
    c.if-r-eq0.true

pub overflow_add-result : goal.overflow_add-result
overflow_add-result c =
    let sum : c.word.result / 2 ^ (c.args.k % 64)
    + (c.word-2.result * 2 ^ (64 - c.args.k % 64)) % 2 ^ 64
    ≡ number_of c.args.words.now / 2 ^ c.args.k = let start = c.args in
    let words : AreWords start.words.now = λ i. omega (arith, c.type_inv.words i) in
    ap (λ (w : ℕ). w / 2 ^ (start.k % 64) + (c.word-2.result * 2 ^ (64 - start.k % 64)) % 2 ^ 64) c.word.ensures
    ∙ ap (λ (w : ℕ). get_or start.words.now (start.k / 64) 0 / 2 ^ (start.k % 64) + (w * 2 ^ (64 - start.k % 64)) % 2 ^ 64) c.word-2.ensures
    ∙ few_digits start.words.now words start.k c.requires (some _ c.if-r-eq0.false) in
    record { fits = fine _ _ sum c.requires }

pub returns : goal.returns
returns c =
    let sum : c.word.result / 2 ^ (c.args.k % 64)
    + (c.word-2.result * 2 ^ (64 - c.args.k % 64)) % 2 ^ 64
    ≡ number_of c.args.words.now / 2 ^ c.args.k = let start = c.args in
    let words : AreWords start.words.now = λ i. omega (arith, c.type_inv.words i) in
    ap (λ (w : ℕ). w / 2 ^ (start.k % 64) + (c.word-2.result * 2 ^ (64 - start.k % 64)) % 2 ^ 64) c.word.ensures
    ∙ ap (λ (w : ℕ). get_or start.words.now (start.k / 64) 0 / 2 ^ (start.k % 64) + (w * 2 ^ (64 - start.k % 64)) % 2 ^ 64) c.word-2.ensures
    ∙ few_digits start.words.now words start.k c.requires (some _ c.if-r-eq0.false) in
    sum
