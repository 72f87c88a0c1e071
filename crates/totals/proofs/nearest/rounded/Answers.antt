-- `totals::nearest::rounded`: by the first digit that is dropped, and whether any other is. Assumes nothing.
use Rattle.words.specs.Prelude.{◌≡◌, sym, ap, subst, ◌∙◌, ℕ, suc, ◌+◌, ◌-◌, ◌/◌, ◌%◌, ◌^◌, ◌<◌, arith, eqb-true}
use Rattle.words.specs.Prelude.{eqb-false, closest}
use Rattle.totals.specs.{Number.number_of, Number.AreWords}
use Rattle.totals.proofs.{Reading.digit_at, Rounding.round_down, Rounding.round_even, Rounding.round_up}
use Rattle.totals.proofs.nearest.rounded.Goals as goal

up : (k : ℕ) → 0 < k → suc (k - 1) ≡ k
up k h = omega arith

odd : (x : ℕ) → (x % 2 ≡ 0 → ⊥) → x % 2 ≡ 1
odd x h = omega arith

down : (n k : ℕ) → 0 < k → n / 2 ^ (k - 1) % 2 ≡ 0 → closest n (2 ^ k) ≡ n / 2 ^ k
down n k h e = subst (λ (z : ℕ). closest n (2 ^ z) ≡ n / 2 ^ z) (up k h) (round_down n (k - 1) e)

even : (n k : ℕ) → 0 < k → n / 2 ^ (k - 1) % 2 ≡ 1 → n % 2 ^ (k - 1) ≡ 0 → closest n (2 ^ k) ≡ n / 2 ^ k + n / 2 ^ k % 2
even n k h e f = subst (λ (z : ℕ). closest n (2 ^ z) ≡ n / 2 ^ z + n / 2 ^ z % 2) (up k h) (round_even n (k - 1) e f)

above : (n k : ℕ) → 0 < k → n / 2 ^ (k - 1) % 2 ≡ 1 → 0 < n % 2 ^ (k - 1) → closest n (2 ^ k) ≡ n / 2 ^ k + 1
above n k h e f = subst (λ (z : ℕ). closest n (2 ^ z) ≡ n / 2 ^ z + 1) (up k h) (round_up n (k - 1) e f)

pub returns-then-word-j-eq0 : goal.returns-then-word-j-eq0
returns-then-word-j-eq0 c =
    let start = c.args in
    let ws = start.words.now in
    let words : AreWords ws = λ i. omega (arith, c.type_inv.words i) in
    let none : number_of ws / 2 ^ (start.k - 1) % 2 ≡ 0 =
    digit_at ws words (start.k - 1) ∙ ap (λ (w : ℕ). w / 2 ^ ((start.k - 1) % 64) % 2) (sym c.word.ensures) ∙ c.if-word-j-eq0.true in
    c.requires.1 ∙ sym (down (number_of ws) start.k c.requires.0 none)

pub returns-then-clear_below : goal.returns-then-clear_below
returns-then-clear_below c =
    let first : number_of c.args.words.now / 2 ^ (c.args.k - 1) % 2 ≡ 1 = let start = c.args in
    let ws = start.words.now in
    let words : AreWords ws = λ i. omega (arith, c.type_inv.words i) in
    digit_at ws words (start.k - 1) ∙ ap (λ (w : ℕ). w / 2 ^ ((start.k - 1) % 64) % 2) (sym c.word.ensures) ∙ odd _ c.if-word-j-eq0.false in
    let n = number_of c.args.words.now in
    ap (λ (q : ℕ). q + q % 2) c.requires.1
    ∙ sym (even n c.args.k c.requires.0 first (eqb-true _ _ (sym c.clear_below.ensures ∙ c.if-clear_below.true)))

pub returns : goal.returns
returns c =
    let first : number_of c.args.words.now / 2 ^ (c.args.k - 1) % 2 ≡ 1 = let start = c.args in
    let ws = start.words.now in
    let words : AreWords ws = λ i. omega (arith, c.type_inv.words i) in
    digit_at ws words (start.k - 1) ∙ ap (λ (w : ℕ). w / 2 ^ ((start.k - 1) % 64) % 2) (sym c.word.ensures) ∙ odd _ c.if-word-j-eq0.false in
    let n = number_of c.args.words.now in
    ap (λ (q : ℕ). q + 1) c.requires.1
    ∙ sym (above n c.args.k c.requires.0 first (positive _ (eqb-false _ _ (sym c.clear_below.ensures
    ∙ c.if-clear_below.false))))
  where
    positive : (x : ℕ) → (x ≡ 0 → ⊥) → 0 < x
    positive x h = omega arith
