-- "One bar": the row that is recorded, and the rows that a room holds.
use Rattle.std.specs.Prelude.{ℕ, zero, suc, ◌-◌, ◌*◌, ◌/◌, ◌%◌, ◌^◌, cond, List, [], ◌∷◌, ◌++◌, get_or, take, ltb, eqb}
use Rattle.rows.specs.{History.width}

-- "A row is the bar's six words, the presence mask and K slots (an absent slot's word is 0)": word j of it, where slot k is
-- word 7 + k and is absent where bit k of the mask is 0.
unfoldable pub row_word : List ℕ → ℕ → ℕ
row_word bar j =
    cond (ltb j 7) (get_or bar j 0)
    (cond (eqb (get_or bar 6 0 / 2 ^ (j - 7) % 2) 1) (get_or bar j 0) 0)

-- f 0, f 1, .., n in all
unfoldable pub listed : ℕ → (ℕ → ℕ) → List ℕ
listed zero f = []
listed (suc n) f = listed n f ++ (f n ∷ [])

unfoldable pub row_of : ℕ → List ℕ → List ℕ
row_of K bar = listed (width K) (row_word bar)

-- the rows that a room holds, the n first
unfoldable pub held_rows : ℕ → ℕ → List ℕ → List ℕ
held_rows K n rows = take (n * width K) rows
