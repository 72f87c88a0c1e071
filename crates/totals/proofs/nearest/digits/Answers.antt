-- `totals::nearest::digits`: the highest word that is not 0 has the first digit. Assumes nothing.
use Rattle.words.specs.Prelude.{◌≡◌, sym, ap, subst, ◌∙◌, ℕ, ◌-◌, ◌*◌, ◌^◌, ◌<◌, ◌≤◌, arith, length, count_leading_zeros}
use Rattle.totals.specs.{Number.AreWords, Number.Top}
use Rattle.totals.proofs.{Reading.size_of_top, Reading.size_of_none}
use lib.Count.{leading_le}
use Rattle.totals.proofs.nearest.digits.Goals as goal

fine : (x : ℕ) → x ≤ 64 → x < 2 ^ 64
fine x h = omega arith

less : (x t : ℕ) → x ≤ 64 → (t ≡ 0 → ⊥) → x ≤ 64 * t
less x t h n = omega arith

some : (t : ℕ) → (t ≡ 0 → ⊥) → 0 < t
some t n = omega arith

pub returns-then-t-eq0 : goal.returns-then-t-eq0
returns-then-t-eq0 c =
    let ws = c.args.words.now in
    sym (size_of_none ws (subst (λ (t : ℕ). Top ws (length ws) t) c.if-t-eq0.true c.top-t.ensures))

pub overflow_cast-result : goal.overflow_cast-result
overflow_cast-result c = record { fits = fine _ (leading_le 64 c.word.result) }

pub overflow_sub-result : goal.overflow_sub-result
overflow_sub-result c = less _ _ (leading_le 64 c.word.result) c.if-t-eq0.false

pub returns : goal.returns
returns c =
    let ws = c.args.words.now in
    let words : AreWords ws = λ i. omega (arith, c.type_inv.words i) in
    let t = c.top-t.result in
    ap (λ (w : ℕ). 64 * t - count_leading_zeros 64 w) c.word.ensures ∙ sym (size_of_top ws t words c.top-t.ensures (some t
    c.if-t-eq0.false))
