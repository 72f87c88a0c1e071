-- `totals::nearest::nearest`: 53 digits, how many were dropped, and no more than an infinity. Assumes nothing.
use Rattle.words.specs.Prelude.{◌≡◌, sym, ap, subst, ◌∙◌, ℕ, ◌+◌, ◌-◌, ◌*◌, ◌/◌, ◌^◌, ◌<◌, ◌≤◌, min, arith, size, kept-lt}
use Rattle.words.specs.Prelude.{closest, false, binary64, to_bits, round}
use Rattle.totals.specs.{Number.number_of, Number.AreWords}
use Rattle.totals.proofs.{Rounding.size_most, Rounding.nearest_small, Rounding.nearest_large, Rounding.kept_most}
use Rattle.totals.proofs.nearest.nearest.Goals as goal

le_of : {x y : ℕ} → x ≡ y → x ≤ 53 → y ≤ 53
le_of e h = omega arith

fine : (x y : ℕ) → x ≡ y → y ≤ 2176 → (x - 53) * 2 ^ 52 < 2 ^ 64
fine x y e h = omega arith

fine_sum : (x y q r : ℕ) → x ≡ y → y ≤ 2176 → q ≡ r → r ≤ 2 ^ 53 → (x - 53) * 2 ^ 52 + q < 2 ^ 64
fine_sum x y q r e h f g = omega arith

many : (x y : ℕ) → x ≡ y → 53 < x → 53 < y
many x y e h = omega arith

sum : (x y q : ℕ) {r : ℕ} → x ≡ y → q ≡ r → (y - 53) * 2 ^ 52 + r ≡ (x - 53) * 2 ^ 52 + q
sum x y q e f = omega arith

pick_left : (a : ℕ) → a < 0x7ff0_0000_0000_0000 → min a 0x7ff0_0000_0000_0000 ≡ a
pick_left a h = omega arith

pick_right : (a : ℕ) → 0x7ff0_0000_0000_0000 ≤ a → min a 0x7ff0_0000_0000_0000 ≡ 0x7ff0_0000_0000_0000
pick_right a h = omega arith

pub returns-then-n-le53 : goal.returns-then-n-le53
returns-then-n-le53 c =
    let ws = c.args.words.now in
    c.word.ensures ∙ nearest_small ws (le_of c.digits-n.ensures c.if-n-le53.true)

pub overflow_mul-b : goal.overflow_mul-b
overflow_mul-b c =
    let most : size (number_of c.args.words.now) ≤ 2176 = let ws = c.args.words.now in
    let words : AreWords ws = λ i. omega (arith, c.type_inv.words i) in
    size_most ws words c.requires in
    record { fits = fine _ _ c.digits-n.ensures most }

pub kept-requires : goal.kept-requires
kept-requires c =
    let n = number_of c.args.words.now in
    subst (λ (x : ℕ). n / 2 ^ (x - 53) < 2 ^ 53) (sym c.digits-n.ensures) (kept-lt 53 n)

pub rounded-requires : goal.rounded-requires
rounded-requires c =
    let n = number_of c.args.words.now in (
      omega arith,
      c.kept.ensures,
      subst (λ (x : ℕ). x < 2 ^ 53) (sym c.kept.ensures) (subst (λ (x : ℕ). n / 2 ^ (x - 53) < 2 ^ 53) (sym c.digits-n.ensures)
          (kept-lt 53 n)),
    )

pub overflow_add-b : goal.overflow_add-b
overflow_add-b c =
    let most : size (number_of c.args.words.now) ≤ 2176 = let ws = c.args.words.now in
    let words : AreWords ws = λ i. omega (arith, c.type_inv.words i) in
    size_most ws words c.requires in
    let n = number_of c.args.words.now in
    record {
      fits = fine_sum _ _ _ _ c.digits-n.ensures most
          (c.rounded.ensures ∙ ap (λ (x : ℕ). closest n (2 ^ (x - 53))) c.digits-n.ensures) (kept_most n);
    }

pub returns-then-b-lt9218868437227405312 : goal.returns-then-b-lt9218868437227405312
returns-then-b-lt9218868437227405312 c =
    let large : to_bits binary64 (round binary64 false (number_of c.args.words.now) (2 ^ 1074))
    ≡ min ((c.digits-n.result - 53) * 2 ^ 52 + c.rounded.result) 0x7ff0_0000_0000_0000 = let d = c.digits-n in
    let n = number_of c.args.words.now in
    nearest_large n (many _ _ d.ensures c.if-n-le53.false) ∙ ap (λ (x : ℕ). min x 0x7ff0_0000_0000_0000)
    (sum _ _ _ d.ensures (c.rounded.ensures ∙ ap (λ (x : ℕ). closest n (2 ^ (x - 53))) d.ensures)) in
    sym (large ∙ pick_left _ c.if-b-lt9218868437227405312.true)

pub returns-else-b-lt9218868437227405312 : goal.returns-else-b-lt9218868437227405312
returns-else-b-lt9218868437227405312 c =
    let large : to_bits binary64 (round binary64 false (number_of c.args.words.now) (2 ^ 1074))
    ≡ min ((c.digits-n.result - 53) * 2 ^ 52 + c.rounded.result) 0x7ff0_0000_0000_0000 = let d = c.digits-n in
    let n = number_of c.args.words.now in
    nearest_large n (many _ _ d.ensures c.if-n-le53.false) ∙ ap (λ (x : ℕ). min x 0x7ff0_0000_0000_0000)
    (sum _ _ _ d.ensures (c.rounded.ensures ∙ ap (λ (x : ℕ). closest n (2 ^ (x - 53))) d.ensures)) in
    sym (large ∙ pick_right _ c.if-b-lt9218868437227405312.false)
