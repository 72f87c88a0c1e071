use Rattle.words.specs.Prelude.{ℕ, ◌+◌, ◌*◌, ◌≤◌, ◌<◌, ◌≡◌, sym, ap, ◌∙◌, Bool, List, mul-le-mul_right, arith}
use Rattle.words.specs.{Limits.row_words}
use Rattle.refusals.specs.{Laws.Descent.so, Laws.Descent.not_so, Laws.Every.every_none, Laws.Every.every_more, Laws.Every.every_no}
use Rattle.images.specs.{Reading.words_at, Reading.row_in, Refused.row_fine, Refused.each_fine}
use Rattle.images.proofs.judge.each_fine.Goals as goal

abbrev is_fine : List ℕ → ℕ → ℕ → Bool
is_fine x K i = row_fine K (row_in x K i)

-- a row ends by where the last of them does
row_ends : (i n w place size : ℕ) → i < n → place ≡ 256 + 8 * (i * w) → 256 + 8 * (n * w) ≤ size → place + 8 * w ≤ size
row_ends i n w place size l e h = let more : (i + 1) * w ≤ n * w = mul-le-mul_right w (omega arith) in omega arith

pub loop-i-init : goal.loop-i-init
loop-i-init c = let a = c.args in every_none (is_fine a.image.now a.slots)

pub row_fine-requires : goal.row_fine-requires
row_fine-requires c =
    let a = c.args in
    (c.requires.0, row_ends c.loop-i.i a.n (7 + a.slots) _ _ (omega arith) c.row_place.ensures.0 c.requires.2)

pub returns-then-not-row_fine : goal.returns-then-not-row_fine
unfolding each_fine
returns-then-not-row_fine c =
    let a = c.args in
    let told = c.row_fine.ensures ∙ ap (λ (p : ℕ). row_fine a.slots (words_at a.image.now p (row_words a.slots))) c.row_place.ensures.0 in
    sym (every_no (is_fine a.image.now a.slots) c.loop-i.i (not_so told c.if-not-row_fine.true-raw) a.n (omega arith))

pub loop-i-preserved : goal.loop-i-preserved
loop-i-preserved c =
    let a = c.args in
    let told = c.row_fine.ensures ∙ ap (λ (p : ℕ). row_fine a.slots (words_at a.image.now p (row_words a.slots))) c.row_place.ensures.0 in
    every_more (is_fine a.image.now a.slots) c.loop-i.i c.loop-i.invariant (so told c.if-not-row_fine.false-raw)

pub returns : goal.returns
unfolding each_fine
returns c =
    let e : c.args.n ≡ c.loop-i.i = omega arith in
    rw e (sym c.loop-i.invariant)
