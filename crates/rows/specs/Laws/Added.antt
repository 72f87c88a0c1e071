-- A row more in a full room: the rows move up by one, and it goes over the last place.
use Rattle.std.specs.Prelude.{ℕ, ◌+◌, ◌-◌, ◌*◌, ◌<◌, ◌≤◌, ◌≡◌, refl, List, ◌++◌, length, take, drop}
use Rattle.words.specs.Prelude.{sym, ap, ◌∙◌, arith, mul-le-mul_right, length-drop}
use Rattle.words.specs.Prelude.{drop-append-add, drop-drop, length-take-le, take_at, le-ltb, ne_eqb}
use Rattle.words.specs.{Words.overwrite, Words.shifted, Laws.Overwrite.overwrite_fits, Laws.Overwrite.shifted_fits, Laws.Records.records_fit}
use Rattle.rows.specs.{Room.places_for, Room.with_row, Room.held_with}

-- how many words stand from w up to n
rest_length : (d : List ℕ) (w n : ℕ) → n ≤ length d → length (drop w (take n d)) ≡ n - w
rest_length d w n k = length-drop w (take n d) ∙ ap (λ (m : ℕ). m - w) (length-take-le n d k)

-- a row over the last place after the move to the front
last : (d r : List ℕ) (n : ℕ) → length r ≤ n → n ≤ length d →
    (let m : List ℕ = drop (length r) (take n d) ++ drop (n - length r) d in
    take (n - length r) m ++ r ++ drop (n - length r + length r) m) ≡ drop (length r) (take n d) ++ r ++ drop n d
last d r n h k =
    let w : ℕ = length r in
    let s : List ℕ = drop w (take n d) in
    let e : length s ≡ n - w = rest_length d w n k in
    let f : drop (n - w + w) (s ++ drop (n - w) d) ≡ drop n d =
    ap (λ (m : ℕ). drop (m + w) (s ++ drop (n - w) d)) (sym e) ∙ drop-append-add s (drop (n - w) d) w ∙ drop-drop w (n - w) d
    ∙ ap (λ (m : ℕ). drop m d) {x = n - w + w} {y = n} (omega arith) in
    ap (λ (l : List ℕ). l ++ r ++ drop (n - w + w) (s ++ drop (n - w) d)) (take_at s (drop (n - w) d) (n - w) e)
    ∙ ap (λ (l : List ℕ). s ++ r ++ l) f

moved_and_put : (d m p r : List ℕ) (n : ℕ) → length r ≤ n → n ≤ length d → m ≡ drop (length r) (take n d) ++ drop (n - length r) d
    → p ≡ take (n - length r) m ++ r ++ drop (n - length r + length r) m → p ≡ drop (length r) (take n d) ++ r ++ drop n d
moved_and_put d m p r n h k e f =
    f ∙ ap (λ (l : List ℕ). take (n - length r) l ++ r ++ drop (n - length r + length r) l) e ∙ last d r n h k

module _ (room : List ℕ) (held : ℕ) (row : List ℕ) where
  -- the places end by the room's end, and are at least one row
  places_fit : 0 < length row → places_for room row * length row ≤ length room
  places_fit s = records_fit (length room) (length row) s (places_for room row) (omega arith)

  places_hold : (places_for room row ≡ 0 → ⊥) → length row ≤ places_for room row * length row
  places_hold h = let l : 1 * length row ≤ places_for room row * length row = mul-le-mul_right (length row) (omega arith) in omega arith

  pub moved_up : 0 < length row → places_for room row ≤ held → (places_for room row ≡ 0 → ⊥) → (m p : List ℕ)
      → length m ≡ length room → m ≡ shifted room (length row) (places_for room row * length row)
      → p ≡ overwrite m (places_for room row * length row - length row) row
      → (places_for room row ≡ held_with room held row) × (p ≡ with_row room held row)
  unfolding with_row held_with
  moved_up s h n m p l e f =
      let end = places_for room row * length row in
      let hold = places_hold n in
      let fit = places_fit s in
      let last : end - length row + length row ≤ length m = omega arith in
      simp (le-ltb _ _ h, ne_eqb _ _ n)
      (refl, moved_and_put room m p row end hold fit (e ∙ shifted_fits room (length row) end hold fit) (f ∙ overwrite_fits m (end - length row) row last))
