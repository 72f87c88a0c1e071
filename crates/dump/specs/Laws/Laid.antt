-- Bytes laid one after another into an area: parts of a stretch, and stretches of the order of writing.
use Rattle.std.specs.Prelude.{ℕ, zero, suc, ◌+◌, ◌≤◌, ◌<◌, ◌≡◌, refl, List, [], ◌∷◌, length, get_or, set}
use Rattle.words.specs.Prelude.{sym, ap, add-zero, add-suc, add-one, arith}
use Rattle.words.specs.Prelude.{length-set}
use Rattle.dump.specs.{Order.place_of, Order.stretch}

-- the n bytes of xs from p on, each at its place after base
unfoldable pub laid : List ℕ → ℕ → List ℕ → ℕ → ℕ → List ℕ
laid area base xs p zero = area
laid area base xs p (suc n) = set (laid area base xs p n) (base + (p + n)) (get_or xs (p + n) 0)

pub laid-length : (area : List ℕ) (base : ℕ) (xs : List ℕ) (p n : ℕ) → length (laid area base xs p n) ≡ length area
unfolding laid
laid-length area base xs p zero = refl
laid-length area base xs p (suc n) = simp length-set (laid-length area base xs p n)

-- no byte
pub laid_none : (area : List ℕ) (base : ℕ) (xs : List ℕ) (p : ℕ) → area ≡ laid area base xs p 0
unfolding laid
laid_none area base xs p = refl

-- one more byte
pub laid_more : (area : List ℕ) (base : ℕ) (xs : List ℕ) (p n k b : ℕ) → k ≡ p + n → b ≡ get_or xs k 0
    → set (laid area base xs p n) (base + k) b ≡ laid area base xs p (n + 1)
unfolding laid
laid_more area base xs p n k b e h = rw (h, e, add-one)

-- some bytes, and then those that follow
pub laid_on : (area : List ℕ) (base : ℕ) (xs : List ℕ) (p n m : ℕ)
    → laid (laid area base xs p n) base xs (p + n) m ≡ laid area base xs p (n + m)
unfolding laid
laid_on area base xs p n zero = rw (add-zero n)
laid_on area base xs p n (suc m) =
    let place : p + n + m ≡ p + (n + m) = omega arith in
    rw (add-suc n m, laid_on area base xs p n m, place)

-- the same bytes at the same places
pub laid_as : (area : List ℕ) (base : ℕ) (xs : List ℕ) (p : ℕ) (base' : ℕ) (xs' : List ℕ) (p' n : ℕ) → base + p ≡ base' + p'
    → ((j : ℕ) → j < n → get_or xs (p + j) 0 ≡ get_or xs' (p' + j) 0) → laid area base xs p n ≡ laid area base' xs' p' n
unfolding laid
laid_as area base xs p base' xs' p' zero e h = refl
laid_as area base xs p base' xs' p' (suc n) e h =
    let place : base + (p + n) ≡ base' + (p' + n) = omega arith in
    rw (laid_as area base xs p base' xs' p' n e (λ j l. h j (omega arith)), h n (omega arith), place)

-- a store before a later place, and one at it
set_past : (xs : List ℕ) (i j a b : ℕ) → i < j → set (set xs i a) j b ≡ set (set xs j b) i a
set_past [] i j a b l = refl
set_past (x ∷ xs) zero (suc j) a b l = refl
set_past (x ∷ xs) (suc i) (suc j) a b l = ap (λ (ys : List ℕ). x ∷ ys) (set_past xs i j a b (omega arith))
set_past (x ∷ xs) zero zero a b l = elim l [ ]
set_past (x ∷ xs) (suc i) zero a b l = elim l [ ]

-- a store before them
laid_past : (area : List ℕ) (base : ℕ) (xs : List ℕ) (p n k b : ℕ) → k < base + p → laid (set area k b) base xs p n ≡ set (laid area base xs p n) k b
unfolding laid
laid_past area base xs p zero k b l = refl
laid_past area base xs p (suc n) k b l =
    rw (laid_past area base xs p n k b l) (set_past (laid area base xs p n) k (base + (p + n)) b (get_or xs (p + n) 0) (omega arith))

-- the later bytes first
pub laid_swap : (area : List ℕ) (base : ℕ) (xs : List ℕ) (p m q n : ℕ) → p + m ≤ q
    → laid (laid area base xs q n) base xs p m ≡ laid (laid area base xs p m) base xs q n
unfolding laid
laid_swap area base xs p zero q n h = refl
laid_swap area base xs p (suc m) q n h =
    rw (laid_swap area base xs p m q n (omega arith))
    (sym (laid_past (laid area base xs p m) base xs q n (base + (p + m)) (get_or xs (p + m) 0) (omega arith)))

-- a stretch of the order whose places follow one another
pub stretch-laid : (image area : List ℕ) (from base : ℕ) (xs : List ℕ) (p n : ℕ)
    → ((j : ℕ) → j < n → place_of (length image) (from + j) ≡ base + (p + j))
    → ((j : ℕ) → j < n → get_or image (base + (p + j)) 0 ≡ get_or xs (p + j) 0)
    → stretch image area from n ≡ laid area base xs p n
unfolding stretch laid
stretch-laid image area from base xs p zero place byte = refl
stretch-laid image area from base xs p (suc n) place byte =
    rw (stretch-laid image area from base xs p n (λ j l. place j (omega arith)) (λ j l. byte j (omega arith)), place n (omega arith), byte n (omega arith))

-- stretches that follow one another
pub stretch_on : (image area : List ℕ) (from n m : ℕ) → stretch image (stretch image area from n) (from + n) m ≡ stretch image area from (n + m)
unfolding stretch
stretch_on image area from n zero = rw (add-zero n)
stretch_on image area from n (suc m) =
    let place : from + n + m ≡ from + (n + m) = omega arith in
    rw (add-suc n m, stretch_on image area from n m, place)

pub stretch-length : (image area : List ℕ) (from n : ℕ) → length (stretch image area from n) ≡ length area
unfolding stretch
stretch-length image area from zero = refl
stretch-length image area from (suc n) = simp length-set (stretch-length image area from n)
