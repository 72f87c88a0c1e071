-- Places of words, and the words of a number. Assumes nothing.
use Rattle.std.specs.Prelude.{◌≡◌, refl, List, [], ◌∷◌, ℕ, zero, suc, ◌+◌, ◌*◌, ◌/◌, ◌%◌, ◌^◌, ◌<◌, length}
use Rattle.words.specs.Prelude.{sym, ap, ◌∙◌, mul_assoc, zero-add, suc-add, one-mul}
use Rattle.words.specs.Prelude.{mod-lt, arith, pow-add, pow_pos}
use Rattle.totals.specs.{Number.place, Number.number_of, Number.words_of, Number.AreWords}

pub place_some : (i : ℕ) → 0 < place i
unfolding place
place_some zero = omega arith
place_some (suc i) = omega (arith, place_some i)

pub place-add : (n k : ℕ) → place (n + k) ≡ place n * place k
unfolding place
place-add zero k = ap place (zero-add k) ∙ sym (one-mul (place k))
place-add (suc n) k = ap place (suc-add n k) ∙ ap (λ (z : ℕ). 2 ^ 64 * z) (place-add n k) ∙ sym (mul_assoc (2 ^ 64) (place n) (place k))

pub place-pow : (i : ℕ) → place i ≡ 2 ^ (64 * i)
unfolding place
place-pow zero = refl
place-pow (suc i) =
    ap (λ (z : ℕ). 2 ^ 64 * z) (place-pow i) ∙ sym (pow-add 2 64 (64 * i)) ∙ ap (λ (z : ℕ). 2 ^ z) (next i)
  where
    next : (j : ℕ) → 64 + 64 * j ≡ 64 * suc j
    next j = omega arith

head_word : (w : ℕ) (ws : List ℕ) → AreWords (w ∷ ws) → w < 2 ^ 64
head_word w ws h = h 0

tail_words : (w : ℕ) (ws : List ℕ) → AreWords (w ∷ ws) → AreWords ws
tail_words w ws h i = h (suc i)

-- n words hold a number below the weight of word n
pub number_below : (ws : List ℕ) → AreWords ws → number_of ws < place (length ws)
unfolding number_of place
number_below [] h = omega arith
number_below (w ∷ ws) h =
    let rest : number_of ws < place (length ws) = number_below ws (tail_words w ws h) in
    let first : w < 2 ^ 64 = head_word w ws h in
    omega arith

-- .. and are the words of their number
pub words_of_number : (ws : List ℕ) → AreWords ws → words_of (length ws) (number_of ws) ≡ ws
unfolding words_of number_of
words_of_number [] h = refl
words_of_number (w ∷ ws) h =
    let first : w < 2 ^ 64 = head_word w ws h in
    let low : (w + 2 ^ 64 * number_of ws) % 2 ^ 64 ≡ w = omega arith in
    let high : (w + 2 ^ 64 * number_of ws) / 2 ^ 64 ≡ number_of ws = omega arith in
    rw (low, high, words_of_number ws (tail_words w ws h))

pub length_words : (n x : ℕ) → length (words_of n x) ≡ n
unfolding words_of
length_words zero x = refl
length_words (suc n) x = ap suc (length_words n (x / 2 ^ 64))

pub number_words : (n x : ℕ) → x < place n → number_of (words_of n x) ≡ x
unfolding words_of number_of place
number_words zero x h = omega arith
number_words (suc n) x h =
    let rest : number_of (words_of n (x / 2 ^ 64)) ≡ x / 2 ^ 64 = number_words n (x / 2 ^ 64) (omega arith) in
    omega arith

pub are_words : (n x : ℕ) → AreWords (words_of n x)
unfolding words_of
are_words zero x i = pow_pos 64
are_words (suc n) x zero = mod-lt x (pow_pos 64)
are_words (suc n) x (suc i) = are_words n (x / 2 ^ 64) i
