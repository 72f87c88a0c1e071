-- A room that is filled place by place. Assumes nothing.
use Rattle.std.specs.Prelude.{ℕ, zero, suc, ◌+◌, ◌-◌, ◌*◌, ◌/◌, ◌^◌, ◌≤◌, ◌<◌, ◌≡◌, refl, min, List, [], ◌∷◌, length, take, drop, set}
use Rattle.words.specs.Prelude.{sym, ap, ◌∙◌, ⊎_elim, arith, div-one, length-set, lt-ltb, le-ltb}
use Rattle.words.specs.{Laws.Numbers.less_or_not}
use Rattle.text.specs.{Rooms.laid}

module _ (f : ℕ → ℕ) where
  pub laid_long : (at n : ℕ) (xs : List ℕ) → length (laid f at n xs) ≡ length xs
  unfolding laid
  laid_long at n [] = refl
  laid_long at n (x ∷ xs) = rw (laid_long (at + 1) n xs)

  -- nothing yet
  pub laid_none : (at n : ℕ) (xs : List ℕ) → n ≤ at → laid f at n xs ≡ xs
  unfolding laid
  laid_none at n [] l = refl
  laid_none at n (x ∷ xs) l = rw (le-ltb at n l, laid_none (at + 1) n xs (omega arith))

  -- one place more
  pub laid_more : (at j : ℕ) (xs : List ℕ) → j < length xs → set (laid f at (at + j) xs) j (f (at + j)) ≡ laid f at (at + j + 1) xs
  unfolding laid
  laid_more at j [] l = absurd (omega arith)
  laid_more at zero (x ∷ xs) l =
      let here : at + 0 ≡ at = omega arith in
      rw (here, lt-ltb at (at + 1) (omega arith), laid_none (at + 1) at xs (omega arith), laid_none (at + 1) (at + 1) xs (omega arith))
  laid_more at (suc j) (x ∷ xs) l =
      let next : at + suc j ≡ at + 1 + j = omega arith in
      rw (next, lt-ltb at (at + 1 + j) (omega arith), lt-ltb at (at + 1 + j + 1) (omega arith), laid_more (at + 1) j xs (omega arith))

  -- all of it: more changes nothing
  pub laid_all : (at m n : ℕ) (xs : List ℕ) → at + length xs ≤ m → at + length xs ≤ n → laid f at m xs ≡ laid f at n xs
  unfolding laid
  laid_all at m n [] p q = refl
  laid_all at m n (x ∷ xs) p q = rw (lt-ltb at m (omega arith), lt-ltb at n (omega arith), laid_all (at + 1) m n xs (omega arith) (omega arith))

  -- from the first place on, as a loop fills it: one place more
  pub laid_next : (j : ℕ) (xs : List ℕ) → j < length xs → set (laid f 0 j xs) j (f j) ≡ laid f 0 (j + 1) xs
  laid_next j xs l =
      let none : 0 + j ≡ j = omega arith in
      rw none at (laid_more 0 j xs l)

  -- as many places as there are to fill, or all of the room
  pub laid_full : (i n : ℕ) (xs : List ℕ) → i ≡ min (length xs) n → laid f 0 i xs ≡ laid f 0 n xs
  laid_full i n xs e =
      ⊎_elim
      (λ less. ap (λ (k : ℕ). laid f 0 k xs) (omega arith))
      (λ more. laid_all 0 i n xs (omega arith) (omega arith))
      (less_or_not n (length xs))

-- From the first place on, as a loop fills it: of the n that it is to fill it has filled i.
pub record Filling (f : ℕ → ℕ) (room₀ : List ℕ) (n i : ℕ) (room : List ℕ) : Type 0 where
  pub few : i ≤ n
  pub inside : i ≤ length room₀
  pub stands : room ≡ laid f 0 i room₀
  pub long : length room ≡ length room₀

module _ (f : ℕ → ℕ) (room₀ : List ℕ) (n : ℕ) where
  pub filling_none : Filling f room₀ n 0 room₀
  filling_none = record { few = omega arith; inside = omega arith; stands = sym (laid_none f 0 0 room₀ (omega arith)); long = refl }

  pub filling_more : {i x : ℕ} {room : List ℕ} → Filling f room₀ n i room → i < n → i < length room → x ≡ f i → Filling f room₀ n (i + 1) (set room i x)
  filling_more {i} {x} {room} h l k e =
      let none : 0 + i ≡ i = omega arith in
      let inside : i < length room₀ = omega (arith, h.long) in
      record {
        few = omega arith;
        inside = omega arith;
        stands = rw (h.stands, e) (rw none at (laid_more f 0 i room₀ inside));
        long = simp length-set h.long;
      }

  -- all that there are to fill
  pub filling_done : {i : ℕ} {room : List ℕ} → Filling f room₀ n i room → n ≤ i → room ≡ laid f 0 n room₀
  filling_done {i} h l =
      let all : i ≡ n = omega (arith, h.few) in
      h.stands ∙ ap (λ (k : ℕ). laid f 0 k room₀) all

  -- all of the room
  pub filling_full : {i : ℕ} {room : List ℕ} → Filling f room₀ n i room → length room ≤ i → room ≡ laid f 0 n room₀
  filling_full {i} h l = h.stands ∙ laid_all f 0 i n room₀ (omega (arith, h.long)) (omega (arith, h.long, h.few))

-- the part past the end is nothing
pub nothing_left : (xs : List ℕ) → take (length xs - length xs) (drop (length xs) xs) ≡ []
nothing_left xs =
    let none : length xs - length xs ≡ 0 = omega arith in
    rw none

-- byte k of a word; and the last, which is not moved
pub moved_to : (word i k : ℕ) → i ≡ k → word / 2 ^ (56 - 8 * k) ≡ word / 2 ^ (56 - 8 * i)
moved_to word i k e = rw e

pub not_moved : (word i : ℕ) → 7 ≤ i → word ≡ word / 2 ^ (56 - 8 * i)
not_moved word i l =
    let none : 56 - 8 * i ≡ 0 = omega arith in
    rw none (sym (div-one word))
