-- One turn of each loop over a list: what is to come from place i is the element there and what is to come after it. Assumes nothing.
use Rattle.words.specs.Prelude.{◌≡◌, sym, ap, ◌∙◌, true, false, List, [], ◌∷◌, ℕ, suc, ◌+◌, ◌≤◌, ◌<◌, add-one, length, get_or, drop, drop_of_length-le, drop-cons}
use Rattle.words.specs.Prelude.{Float}
use Rattle.metrics.specs.{declared.trades.WinOrLoss.WinOrLoss, Trades.is_on, Trades.size_of, Trades.sizes_on}
use Rattle.floats.specs.Floats as Floats

-- A loop that keeps f of what is to come: x stands at i.
pub turn : {A : Type 0} (f : List Float → A) {w : A} (xs : List Float) (i : ℕ) {n : ℕ} {x : Float} → n ≡ length xs → i < n → x ≡ get_or xs i Floats.zero
    → f (drop i xs) ≡ w → f (x ∷ drop (i + 1) xs) ≡ w
turn f xs i {n} {x} l h e p =
    sym
    (ap f (drop-cons xs i Floats.zero (rw l at h)) ∙ ap (λ (y : Float). f (y ∷ drop (suc i) xs)) (sym e)
    ∙ ap (λ (k : ℕ). f (x ∷ drop k xs)) (sym (add-one i)))
    ∙ p

-- At the end nothing is to come.
pub done : {A : Type 0} (f : List Float → A) {w : A} (xs : List Float) (i : ℕ) {n : ℕ} → n ≡ length xs → n ≤ i → f (drop i xs) ≡ w → f [] ≡ w
done f xs i l h p = sym (ap f (drop_of_length-le xs (rw l at h))) ∙ p

-- A loop that keeps f of the trades on a side that are to come: the trade at i is one of them, or it is not.
pub turn_on : {A : Type 0} (f : List Float → A) {w : A} (side : WinOrLoss) (xs : List Float) (i : ℕ) {n : ℕ} {x : Float} → n ≡ length xs → i < n
    → x ≡ get_or xs i Floats.zero → f (sizes_on side (drop i xs)) ≡ w
    → (is_on side x ≡ true → f (size_of side x ∷ sizes_on side (drop (i + 1) xs)) ≡ w) × (is_on side x ≡ false → f (sizes_on side (drop (i + 1) xs)) ≡ w)
unfolding sizes_on
turn_on f side xs i {x = x} l h e p =
    let q = turn (λ (rest : List Float). f (sizes_on side rest)) xs i l h e p in
    (λ on. rw on at q, λ off. rw off at q)
