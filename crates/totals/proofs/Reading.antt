-- Digits read out of words. Assumes nothing.
use Rattle.words.specs.Prelude.{◌≡◌, refl, sym, ap, subst, ◌∙◌, false, ◌⊎◌, inl, inr, List, [], ◌∷◌, ℕ, zero, suc, ◌+◌, ◌-◌, ◌*◌, ◌/◌, ◌%◌, ◌^◌}
use Rattle.words.specs.Prelude.{◌≤◌, ◌<◌, mul_assoc, mul_comm, mul_left_comm, add-mul, mod-lt}
use Rattle.words.specs.Prelude.{mod-eq_of_lt, zero-mul, add-mul-div_right, div-div-eq-div-mul, le_of_eq, le_trans, mul-le-mul_right}
use Rattle.words.specs.Prelude.{le-mul_of_pos_right, lt_of_le_of_lt, add-mul-mod_self_right, mul-pos, div-add-mod', eq-zero-or-pos}
use Rattle.words.specs.Prelude.{zero-add, arith, length, get_or, take, drop, pow-add, pow_pos}
use Rattle.words.specs.Prelude.{digits_div, digits_mod, mod-mul, eqb}
use Rattle.words.specs.Prelude.{count_leading_zeros, leading_top, take-length, eq-eqb, ne_eqb, size}
use Rattle.totals.specs.{Number.place, Number.number_of, Number.AreWords, Number.Top, Laws.Places.place_some, Laws.Places.place-pow}
use Rattle.totals.proofs.{Digits.number_take, Patterns.size_is}

-- the words below word i, and those from it on
pub number_split : (ws : List ℕ) (i : ℕ) → number_of ws ≡ number_of (drop i ws) * place i + number_of (take i ws)
unfolding number_of place
number_split ws zero = omega arith
number_split [] (suc i) = omega (arith, zero-mul (2 ^ 64 * place i))
number_split (w ∷ ws) (suc i) =
    let rest = number_split ws i in
    let over : number_of (drop i ws) * (2 ^ 64 * place i) ≡ 2 ^ 64 * (number_of (drop i ws) * place i) = mul_left_comm (number_of (drop i ws)) (2 ^ 64)
    (place i) in
    omega arith

pub take_below : (ws : List ℕ) (i : ℕ) → AreWords ws → number_of (take i ws) < place i
unfolding number_of place
take_below ws zero h = omega arith
take_below [] (suc i) h = omega (arith, place_some i)
take_below (w ∷ ws) (suc i) h =
    let rest = take_below ws i (λ n. h (suc n)) in
    let first = h 0 in
    omega arith

pub drop_word : (ws : List ℕ) (i : ℕ) → number_of (drop i ws) ≡ get_or ws i 0 + 2 ^ 64 * number_of (drop (suc i) ws)
unfolding number_of
drop_word [] zero = refl
drop_word [] (suc i) = refl
drop_word (w ∷ ws) zero = refl
drop_word (w ∷ ws) (suc i) = drop_word ws i

module _ (ws : List ℕ) (words : AreWords ws) where
  above : (i : ℕ) → number_of ws / place i ≡ number_of (drop i ws)
  above i = ap (λ (z : ℕ). z / place i) (number_split ws i) ∙ digits_div (number_of (drop i ws)) (take_below ws i words)

  below : (i : ℕ) → number_of ws % place i ≡ number_of (take i ws)
  below i = ap (λ (z : ℕ). z % place i) (number_split ws i) ∙ digits_mod (number_of (drop i ws)) (take_below ws i words)

  -- place j is place r of word i
  place_of : (j : ℕ) → 2 ^ j ≡ place (j / 64) * 2 ^ (j % 64)
  place_of j =
      ap (λ (z : ℕ). 2 ^ z) (parts j) ∙ pow-add 2 (64 * (j / 64)) (j % 64) ∙ ap (λ (z : ℕ). z * 2 ^ (j % 64)) (sym (place-pow (j / 64)))
    where
      parts : (x : ℕ) → x ≡ 64 * (x / 64) + x % 64
      parts x = omega arith

  -- the digits from place j on
  pub digits_from : (j : ℕ) → number_of ws / 2 ^ j ≡ get_or ws (j / 64) 0 / 2 ^ (j % 64) + 2 ^ (64 - j % 64) * number_of (drop (suc (j / 64)) ws)
  digits_from j =
      let i = j / 64 in
      let r = j % 64 in
      let h = number_of (drop (suc i) ws) in
      let all : 2 ^ 64 * h ≡ 2 ^ (64 - r) * h * 2 ^ r =
      ap (λ (z : ℕ). z * h) (ap (λ (z : ℕ). 2 ^ z) (sym (back r (mod-lt j (some tt)))) ∙ pow-add 2 (64 - r) r)
      ∙ turn (2 ^ (64 - r)) (2 ^ r) h in
      ap (λ (z : ℕ). number_of ws / z) (place_of j) ∙ sym (div-div-eq-div-mul (number_of ws) (place i) (2 ^ r))
      ∙ ap (λ (z : ℕ). z / 2 ^ r) (above i ∙ drop_word ws i ∙ ap (λ (z : ℕ). get_or ws i 0 + z) all)
      ∙ add-mul-div_right (get_or ws i 0) (2 ^ (64 - r) * h) (pow_pos r)
    where
      some : Unit {0} → 0 < 64
      some u = omega arith

      back : (x : ℕ) → x < 64 → 64 - x + x ≡ 64
      back x l = omega arith

      turn : (a b c : ℕ) → a * b * c ≡ a * c * b
      turn a b c = mul_assoc a b c ∙ ap (λ (z : ℕ). a * z) (mul_comm b c) ∙ sym (mul_assoc a c b)

  -- the digit at place j is the last of them, and the word's
  pub digit_at : (j : ℕ) → number_of ws / 2 ^ j % 2 ≡ get_or ws (j / 64) 0 / 2 ^ (j % 64) % 2
  digit_at j =
      let r = j % 64 in
      let h = number_of (drop (suc (j / 64)) ws) in
      let even : 2 ^ (64 - r) ≡ 2 * 2 ^ (63 - r) = ap (λ (z : ℕ). 2 ^ z) (next r (mod-lt j (some tt))) ∙ pow-add 2 1 (63 - r) in
      let twice : 2 ^ (64 - r) * h ≡ 2 * (2 ^ (63 - r) * h) = ap (λ (z : ℕ). z * h) even ∙ mul_assoc 2 (2 ^ (63 - r)) h in
      ap (λ (z : ℕ). z % 2) (digits_from j ∙ ap (λ (z : ℕ). get_or ws (j / 64) 0 / 2 ^ r + z) twice) ∙ last (get_or ws (j / 64) 0 / 2 ^ r) (2 ^ (63 - r) * h)
    where
      some : Unit {0} → 0 < 64
      some u = omega arith

      next : (x : ℕ) → x < 64 → 64 - x ≡ 1 + (63 - x)
      next x l = omega arith

      last : (a b : ℕ) → (a + 2 * b) % 2 ≡ a % 2
      last a b = omega arith

  -- few of them lie in two words
  pub few_digits : (k : ℕ) → number_of ws / 2 ^ k < 2 ^ 53 → 0 < k % 64
      → get_or ws (k / 64) 0 / 2 ^ (k % 64) + (get_or ws (k / 64 + 1) 0 * 2 ^ (64 - k % 64)) % 2 ^ 64 ≡ number_of ws / 2 ^ k
  few_digits k few some =
      let i = k / 64 in
      let r = k % 64 in
      let h = number_of (drop (suc i) ws) in
      let v = get_or ws (i + 1) 0 in
      let all = digits_from k in
      let less : 2 ^ (64 - r) * h < 2 ^ 53 = under _ _ _ all few in
      let one : h ≤ 2 ^ (64 - r) * h = subst (λ (z : ℕ). h ≤ z) (mul_comm h (2 ^ (64 - r))) (le-mul_of_pos_right h (pow_pos (64 - r))) in
      let h-is : h ≡ v = alone h v (number_of (drop (suc (suc i)) ws)) (lt_of_le_of_lt one less)
      (drop_word ws (suc i) ∙ ap (λ (n : ℕ). get_or ws n 0 + 2 ^ 64 * number_of (drop (suc (suc i)) ws)) (up i)) in
      let moved : (v * 2 ^ (64 - r)) % 2 ^ 64 ≡ 2 ^ (64 - r) * h =
      ap (λ (z : ℕ). z % 2 ^ 64) (mul_comm v (2 ^ (64 - r)) ∙ ap (λ (z : ℕ). 2 ^ (64 - r) * z) (sym h-is)) ∙ mod-eq_of_lt (wide _ less) in
      ap (λ (z : ℕ). get_or ws i 0 / 2 ^ r + z) moved ∙ sym all
    where
      under : (a b c : ℕ) → a ≡ b + c → a < 2 ^ 53 → c < 2 ^ 53
      under a b c e l = omega arith

      alone : (h v g : ℕ) → h < 2 ^ 53 → h ≡ v + 2 ^ 64 * g → h ≡ v
      alone h v g l e = omega arith

      wide : (x : ℕ) → x < 2 ^ 53 → x < 2 ^ 64
      wide x l = omega arith

      up : (x : ℕ) → suc x ≡ x + 1
      up x = omega arith

  -- .. or in one
  pub few_whole : (k : ℕ) → number_of ws / 2 ^ k < 2 ^ 53 → k % 64 ≡ 0 → get_or ws (k / 64) 0 / 2 ^ (k % 64) ≡ number_of ws / 2 ^ k
  few_whole k few none =
      let all = digits_from k in
      alone _ _ (number_of (drop (suc (k / 64)) ws)) few (all ∙ ap (λ (r : ℕ). get_or ws (k / 64) 0 / 2 ^ (k % 64) + 2 ^ (64 - r) * number_of (drop (suc
      (k / 64)) ws)) none)
    where
      alone : (a b h : ℕ) → a < 2 ^ 53 → a ≡ b + 2 ^ 64 * h → b ≡ a
      alone a b h l e = omega arith

  -- the digits below place j: those of the words below, and those of the word
  pub digits_below : (j : ℕ) → number_of ws % 2 ^ j ≡ get_or ws (j / 64) 0 % 2 ^ (j % 64) * place (j / 64) + number_of (take (j / 64) ws)
  digits_below j =
      let i = j / 64 in
      let r = j % 64 in
      ap (λ (z : ℕ). number_of ws % z) (place_of j ∙ mul_comm (place i) (2 ^ r)) ∙ mod-mul (number_of ws) (pow_pos r) (place_some i)
      ∙ ap (λ (z : ℕ). z % 2 ^ r * place i + number_of ws % place i) (above i ∙ drop_word ws i)
      ∙ ap (λ (z : ℕ). z * place i + number_of ws % place i) (only (get_or ws i 0) (number_of (drop (suc i) ws)) r (mod-lt j (some tt)))
      ∙ ap (λ (z : ℕ). get_or ws i 0 % 2 ^ r * place i + z) (below i)
    where
      some : Unit {0} → 0 < 64
      some u = omega arith

      only : (w h r : ℕ) → r < 64 → (w + 2 ^ 64 * h) % 2 ^ r ≡ w % 2 ^ r
      only w h r l =
          ap (λ (z : ℕ). (w + z) % 2 ^ r)
          (ap (λ (z : ℕ). z * h) (ap (λ (z : ℕ). 2 ^ z) (sym (back r l)) ∙ pow-add 2 (64 - r) r) ∙ turn (2 ^ (64 - r)) (2 ^ r) h)
          ∙ add-mul-mod_self_right w (2 ^ (64 - r) * h) (2 ^ r)
        where
          back : (x : ℕ) → x < 64 → 64 - x + x ≡ 64
          back x g = omega arith

          turn : (a b c : ℕ) → a * b * c ≡ a * c * b
          turn a b c = mul_assoc a b c ∙ ap (λ (z : ℕ). a * z) (mul_comm b c) ∙ sym (mul_assoc a c b)

-- ---- how many digits

pub top_zero : (ws : List ℕ) (n : ℕ) → Top ws n 0 → number_of (take n ws) ≡ 0
unfolding number_of
top_zero ws n h = h.same

pub top_some : (ws : List ℕ) (n t : ℕ) → Top ws n t → 0 < t → 0 < number_of (take n ws)
top_some ws n t h p =
    let last : number_of (take (suc (t - 1)) ws) ≡ number_of (take (t - 1) ws) + get_or ws (t - 1) 0 * place (t - 1) = number_take ws (t - 1) in
    let up : suc (t - 1) ≡ t = omega arith in
    let all : number_of (take n ws) ≡ number_of (take (t - 1) ws) + get_or ws (t - 1) 0 * place (t - 1) =
    h.same ∙ ap (λ (z : ℕ). number_of (take z ws)) (sym up) ∙ last in
    let part : 0 < get_or ws (t - 1) 0 * place (t - 1) = mul-pos (h.some p) (place_some (t - 1)) in
    omega arith

-- the highest word's first digit is the number's
pub size_of_top : (ws : List ℕ) (t : ℕ) → AreWords ws → Top ws (length ws) t → 0 < t → size (number_of ws) ≡ 64 * t - count_leading_zeros 64 (get_or ws (t - 1) 0)
size_of_top ws t words h p =
    let i = t - 1 in
    let w = get_or ws i 0 in
    let f = leading_top 64 w (h.some p) (words i) in
    let j = f.0 in
    let all : number_of ws ≡ number_of (take i ws) + w * place i =
    ap number_of (sym (take-length ws)) ∙ h.same ∙ ap (λ (z : ℕ). number_of (take z ws)) (up t p) ∙ number_take ws i in
    let rest : number_of (take i ws) < place i = take_below ws i words in
    let low : 2 ^ (64 * i + j) ≤ w * place i =
    le_trans (le_of_eq (ap (λ (z : ℕ). 2 ^ z) (turn (64 * i) j) ∙ pow-add 2 j (64 * i) ∙ ap (λ (z : ℕ). 2 ^ j * z) (sym (place-pow i))))
    (mul-le-mul_right (place i) f.2) in
    let next : (w + 1) * place i ≡ w * place i + 1 * place i = add-mul w 1 (place i) in
    let high : (w + 1) * place i ≤ 2 ^ suc (64 * i + j) =
    le_trans (mul-le-mul_right (place i) (more w (2 ^ suc j) f.3))
    (le_of_eq (ap (λ (z : ℕ). 2 ^ suc j * z) (place-pow i) ∙ sym (pow-add 2 (suc j) (64 * i)) ∙ ap (λ (z : ℕ). 2 ^ z) (turn_suc (64 * i) j))) in
    size_is (number_of ws) (64 * i + j) (under _ _ _ _ all low) (over _ _ _ _ _ all rest next high)
    ∙ count t j (count_leading_zeros 64 w) p f.1
  where
    up : (x : ℕ) → 0 < x → x ≡ suc (x - 1)
    up x l = omega arith

    turn : (x y : ℕ) → x + y ≡ y + x
    turn x y = omega arith

    turn_suc : (x y : ℕ) → suc y + x ≡ suc (x + y)
    turn_suc x y = omega arith

    more : (x y : ℕ) → x < y → x + 1 ≤ y
    more x y l = omega arith

    under : (n a b c : ℕ) → n ≡ a + b → c ≤ b → c ≤ n
    under n a b c e l = omega arith

    over : (n a b p c : ℕ) → n ≡ a + b → a < p → c ≡ b + 1 * p → {d : ℕ} → c ≤ d → n < d
    over n a b p c e l f g = omega arith

    count : (x y z : ℕ) → 0 < x → z + suc y ≡ 64 → suc (64 * (x - 1) + y) ≡ 64 * x - z
    count x y z l e = omega arith

-- no word is left: it is 0
pub size_of_none : (ws : List ℕ) → Top ws (length ws) 0 → size (number_of ws) ≡ 0
unfolding size number_of
size_of_none ws h = ap size (ap number_of (sym (take-length ws)) ∙ top_zero ws (length ws) h)

-- ---- what the code tests

-- moved down and up again a word has lost the digits below place r
pub same_word : (w r : ℕ) → w < 2 ^ 64 → (w / 2 ^ r * 2 ^ r) % 2 ^ 64 ≡ w → w % 2 ^ r ≡ 0
same_word w r h e =
    let parts : w / 2 ^ r * 2 ^ r + w % 2 ^ r ≡ w = div-add-mod' w (2 ^ r) in
    let whole : (w / 2 ^ r * 2 ^ r) % 2 ^ 64 ≡ w / 2 ^ r * 2 ^ r = mod-eq_of_lt (omega arith) in
    omega arith

pub other_word : (w r : ℕ) → w < 2 ^ 64 → ((w / 2 ^ r * 2 ^ r) % 2 ^ 64 ≡ w → ⊥) → 0 < w % 2 ^ r
other_word w r h f =
    let parts : w / 2 ^ r * 2 ^ r + w % 2 ^ r ≡ w = div-add-mod' w (2 ^ r) in
    let whole : (w / 2 ^ r * 2 ^ r) % 2 ^ 64 ≡ w / 2 ^ r * 2 ^ r = mod-eq_of_lt (omega arith) in
    go (eq-zero-or-pos (w % 2 ^ r)) parts whole
  where
    go : (w % 2 ^ r ≡ 0) ⊎ (0 < w % 2 ^ r) → w / 2 ^ r * 2 ^ r + w % 2 ^ r ≡ w → (w / 2 ^ r * 2 ^ r) % 2 ^ 64 ≡ w / 2 ^ r * 2 ^ r → 0 < w % 2 ^ r
    go (inl z) p q = absurd (f (omega arith))
    go (inr z) p q = z

pub test_zero : (t x : ℕ) → (t ≡ 0 → x ≡ 0) → (0 < t → 0 < x) → eqb t 0 ≡ eqb x 0
test_zero t x f g = go (eq-zero-or-pos t)
  where
    go : (t ≡ 0) ⊎ (0 < t) → eqb t 0 ≡ eqb x 0
    go (inl e) = eq-eqb t 0 e ∙ sym (eq-eqb x 0 (f e))
    go (inr p) = ne_eqb t 0 (some t p) ∙ sym (ne_eqb x 0 (some x (g p)))
      where
        some : (y : ℕ) → 0 < y → y ≡ 0 → ⊥
        some y l e = omega arith

-- the digits below place j are 0, by what the code looks at
pub clear_below : (ws : List ℕ) (j t : ℕ) → AreWords ws → get_or ws (j / 64) 0 % 2 ^ (j % 64) ≡ 0 → Top ws (j / 64) t
    → eqb t 0 ≡ eqb (number_of ws % 2 ^ j) 0
clear_below ws j t words e h =
    test_zero t (number_of ws % 2 ^ j)
    (λ z. all ∙ subst (λ (n : ℕ). Top ws (j / 64) n → number_of (take (j / 64) ws) ≡ 0) (sym z) (top_zero ws (j / 64)) h)
    (λ p. subst (λ (n : ℕ). 0 < n) (sym all) (top_some ws (j / 64) t h p))
  where
    all : number_of ws % 2 ^ j ≡ number_of (take (j / 64) ws)
    all =
        digits_below ws words j ∙ ap (λ (z : ℕ). z * place (j / 64) + number_of (take (j / 64) ws)) e
        ∙ ap (λ (z : ℕ). z + number_of (take (j / 64) ws)) (zero-mul (place (j / 64))) ∙ zero-add (number_of (take (j / 64) ws))

pub not_clear : (ws : List ℕ) (j : ℕ) → AreWords ws → 0 < get_or ws (j / 64) 0 % 2 ^ (j % 64) → false ≡ eqb (number_of ws % 2 ^ j) 0
not_clear ws j words p =
    let part : 0 < get_or ws (j / 64) 0 % 2 ^ (j % 64) * place (j / 64) = mul-pos p (place_some (j / 64)) in
    sym (ne_eqb (number_of ws % 2 ^ j) 0 (some _ _ _ (digits_below ws words j) part))
  where
    some : (x a b : ℕ) → x ≡ a + b → 0 < a → x ≡ 0 → ⊥
    some x a b e l z = omega arith
