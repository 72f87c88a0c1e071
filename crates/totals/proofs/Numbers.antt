-- A number whose words are set one after another: what was moved and what is still to be moved. Assumes nothing.
use Rattle.words.specs.Prelude.{◌≡◌, sym, ap, subst, ◌∙◌, Bool, true, false, List, [], ◌∷◌, ℕ, zero, suc, ◌+◌, ◌-◌, ◌*◌, ◌/◌, ◌%◌, ◌^◌, ◌≤◌, ◌<◌, add-mul}
use Rattle.words.specs.Prelude.{mul_assoc, mul_comm, mul_left_comm, mod-lt, mod-eq_of_lt, le_of_suc-le-suc, not-suc-le-zero, add-mul-mod_self_right}
use Rattle.words.specs.Prelude.{div-add-mod', one-mul, add-zero, arith, length, get_or, set}
use Rattle.totals.specs.{Number.place, Number.number_of, Number.words_of, Number.AreWords, Number.Moves, Number.shifted, Laws.Places.place-add}
use Rattle.totals.specs.{Laws.Places.number_below, Laws.Places.words_of_number}

-- a word set anew
pub number_set : (ws : List ℕ) (i v : ℕ) → i < length ws → number_of (set ws i v) + get_or ws i 0 * place i ≡ number_of ws + v * place i
unfolding number_of place
number_set [] i v h = absurd (not-suc-le-zero h)
number_set (w ∷ ws) zero v h = omega arith
number_set (w ∷ ws) (suc i) v h =
    let same = number_set ws i v (le_of_suc-le-suc h) in
    let one : get_or ws i 0 * (2 ^ 64 * place i) ≡ 2 ^ 64 * (get_or ws i 0 * place i) = mul_left_comm (get_or ws i 0) (2 ^ 64) (place i) in
    let two : v * (2 ^ 64 * place i) ≡ 2 ^ 64 * (v * place i) = mul_left_comm v (2 ^ 64) (place i) in
    omega arith

-- .. moves the number by as much as the word at its place
pub moved : (ws : List ℕ) (i v a b : ℕ) → i < length ws → v + a ≡ get_or ws i 0 + b
    → number_of (set ws i v) + a * place i ≡ number_of ws + b * place i
moved ws i v a b h e =
    let at : number_of (set ws i v) + get_or ws i 0 * place i ≡ number_of ws + v * place i = number_set ws i v h in
    let one : (v + a) * place i ≡ v * place i + a * place i = add-mul v a (place i) in
    let two : (get_or ws i 0 + b) * place i ≡ get_or ws i 0 * place i + b * place i = add-mul (get_or ws i 0) b (place i) in
    let both : (v + a) * place i ≡ (get_or ws i 0 + b) * place i = ap (λ (z : ℕ). z * place i) e in
    omega arith

-- one word more of what is to be moved: the word and the carry take its part
pub moves_on : (down : Bool) (ws : List ℕ) (i v c lo hi b x : ℕ) → i < length ws → Moves down v (2 ^ 64 * c) (get_or ws i 0) lo
    → Moves down (number_of ws) ((lo + 2 ^ 64 * hi) * place i) b x → Moves down (number_of (set ws i v)) ((hi + c + 2 ^ 64 * 0) * place (suc i)) b x
unfolding place
moves_on down ws i v c lo hi b x h = go down
  where
    next : (hi + c + 2 ^ 64 * 0) * (2 ^ 64 * place i) ≡ 2 ^ 64 * (hi * place i) + 2 ^ 64 * (c * place i)
    next =
        let one : (hi + c + 2 ^ 64 * 0) * (2 ^ 64 * place i) ≡ 2 ^ 64 * ((hi + c + 2 ^ 64 * 0) * place i) = mul_left_comm (hi + c + 2 ^ 64 * 0) (2 ^ 64)
        (place i) in
        let two : (hi + c + 2 ^ 64 * 0) * place i ≡ hi * place i + c * place i = ap (λ (z : ℕ). z * place i) (add-zero (hi + c)) ∙ add-mul hi c (place i) in
        omega arith

    whole : (lo + 2 ^ 64 * hi) * place i ≡ lo * place i + 2 ^ 64 * (hi * place i)
    whole = add-mul lo (2 ^ 64 * hi) (place i) ∙ ap (λ (z : ℕ). lo * place i + z) (mul_assoc (2 ^ 64) hi (place i))

    carried : 2 ^ 64 * c * place i ≡ 2 ^ 64 * (c * place i)
    carried = mul_assoc (2 ^ 64) c (place i)

    go : (d : Bool) → Moves d v (2 ^ 64 * c) (get_or ws i 0) lo → Moves d (number_of ws) ((lo + 2 ^ 64 * hi) * place i) b x
        → Moves d (number_of (set ws i v)) ((hi + c + 2 ^ 64 * 0) * (2 ^ 64 * place i)) b x
    go false e f =
        let at : number_of (set ws i v) + 2 ^ 64 * c * place i ≡ number_of ws + lo * place i = moved ws i v (2 ^ 64 * c) lo h e in
        omega (arith, next, whole, carried)
    go true e f =
        let at : number_of (set ws i v) + lo * place i ≡ number_of ws + 2 ^ 64 * c * place i = moved ws i v lo (2 ^ 64 * c) h e in
        omega (arith, next, whole, carried)

-- what is left is a multiple of m, and is lost
pub settled : (down : Bool) (m a k b x : ℕ) → a < m → Moves down a (k * m) b x → a ≡ shifted down m b x
unfolding shifted
settled false m a k b x h e = sym (mod-eq_of_lt h) ∙ sym (add-mul-mod_self_right a k m) ∙ ap (λ (z : ℕ). z % m) e
settled true m a k b x h e =
    let parts : x / m * m + x % m ≡ x = div-add-mod' x m in
    let rest : x % m < m = mod-lt x (omega arith) in
    let more : (x / m + 1) * m ≡ x / m * m + m = add-mul (x / m) 1 m ∙ ap (λ (z : ℕ). x / m * m + z) (one-mul m) in
    let both : a + (x / m + 1) * m ≡ b + (m - x % m) + k * m = omega arith in
    sym (mod-eq_of_lt h) ∙ sym (add-mul-mod_self_right a (x / m + 1) m) ∙ ap (λ (z : ℕ). z % m) both ∙ add-mul-mod_self_right (b + (m - x % m)) k m

-- past the last word it is one
pub past : (r n i : ℕ) → n ≤ i → r * place i ≡ r * place (i - n) * place n
past r n i h =
    let parts : i ≡ n + (i - n) = omega arith in
    ap (λ (z : ℕ). r * place z) parts ∙ ap (λ (z : ℕ). r * z) (place-add n (i - n) ∙ mul_comm (place n) (place (i - n)))
    ∙ sym (mul_assoc r (place (i - n)) (place n))

-- so the words are those of the number that is wanted
pub words_settled : (down : Bool) (ws ws₀ : List ℕ) (k x : ℕ) → AreWords ws → length ws ≡ length ws₀
    → Moves down (number_of ws) (k * place (length ws₀)) (number_of ws₀) x → ws ≡ words_of (length ws₀) (shifted down (place (length ws₀)) (number_of ws₀) x)
words_settled down ws ws₀ k x h l e =
    let below : number_of ws < place (length ws₀) = subst (λ (n : ℕ). number_of ws < place n) l (number_below ws h) in
    sym (words_of_number ws h) ∙ ap (λ (n : ℕ). words_of n (number_of ws)) l
    ∙ ap (words_of (length ws₀)) (settled down (place (length ws₀)) (number_of ws) k (number_of ws₀) x below e)

pub set_words : (ws : List ℕ) (i v : ℕ) → AreWords ws → v < 2 ^ 64 → AreWords (set ws i v)
set_words [] i v h l j = h j
set_words (w ∷ ws) zero v h l zero = l
set_words (w ∷ ws) zero v h l (suc j) = h (suc j)
set_words (w ∷ ws) (suc i) v h l zero = h 0
set_words (w ∷ ws) (suc i) v h l (suc j) = set_words ws i v (λ n. h (suc n)) l j
