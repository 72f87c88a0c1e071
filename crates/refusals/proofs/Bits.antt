-- Laws of a walk over the bits of a mask.
use Rattle.words.specs.Prelude.{ℕ, zero, suc, ◌+◌, ◌-◌, ◌/◌, ◌^◌, ◌≤◌, ◌<◌, ◌≡◌, refl, sym, ap, ◌∙◌, Bool, true, false, List, add-suc, add-zero, pow-suc}
use Rattle.words.specs.Prelude.{div-div-eq-div-mul, zero-div, get_or, pow-add, add-one, arith}
use Rattle.refusals.specs.{Laws.Every.every_no, Bar.every, Bar.bit_fine, Bar.slot_fine, Bar.slots_fine}

-- where it is so of each number below k and of each from k on, it is so of each below n
every_rest : (f : ℕ → Bool) (k : ℕ) → ((j : ℕ) → k ≤ j → f j ≡ true) → every k f ≡ true → (n : ℕ) → every (k + n) f ≡ true
unfolding every
every_rest f k g e zero = rw (add-zero k) e
every_rest f k g e (suc n) = rw (add-suc k n) (simp (every_rest f k g e n, g (k + n) (omega arith)))

-- the bits from k on are the halves of what is left
pub halved : (m k : ℕ) → m / 2 ^ k / 2 ≡ m / 2 ^ (k + 1)
halved m k = div-div-eq-div-mul m (2 ^ k) 2 ∙ ap (λ (x : ℕ). m / x) (sym (ap (λ (n : ℕ). 2 ^ n) (add-one k) ∙ pow-suc 2 k))

-- nothing is left, so every bit from k on is clear
clear : (K : ℕ) (bar : List ℕ) (m k : ℕ) → m / 2 ^ k ≡ 0 → (j : ℕ) → k ≤ j → bit_fine K bar (m / 2 ^ j) j ≡ true
unfolding bit_fine
clear K bar m k e j h =
    let d : j ≡ k + (j - k) = omega arith in
    let z : m / 2 ^ j ≡ 0 =
    ap (λ (n : ℕ). m / 2 ^ n) d ∙ ap (λ (n : ℕ). m / n) (pow-add 2 k (j - k)) ∙ sym (div-div-eq-div-mul m (2 ^ k) (2 ^ (j - k)))
    ∙ ap (λ (n : ℕ). n / 2 ^ (j - k)) e ∙ zero-div (2 ^ (j - k)) in
    rw z refl

-- the bits below k are fine, and nothing is left
pub all_fine : (K : ℕ) (bar : List ℕ) (k : ℕ) → k ≤ 64 → every k (slot_fine K bar) ≡ true → get_or bar 6 0 / 2 ^ k ≡ 0 → slots_fine K bar ≡ true
unfolding slots_fine
all_fine K bar k h e z =
    let n : 64 ≡ k + (64 - k) = omega arith in
    ap (λ (m : ℕ). every m (slot_fine K bar)) n ∙ every_rest (slot_fine K bar) k (clear K bar (get_or bar 6 0) k z) e (64 - k)

-- bit k is not fine
pub one_bad : (K : ℕ) (bar : List ℕ) (k : ℕ) → k < 64 → slot_fine K bar k ≡ false → slots_fine K bar ≡ false
unfolding slots_fine
one_bad K bar k h e = every_no (slot_fine K bar) k e 64 h
