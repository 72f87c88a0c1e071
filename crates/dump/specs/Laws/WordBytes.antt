-- The bytes of words: how many there are, and each of them.
use Rattle.std.specs.Prelude.{ℕ, zero, suc, ◌+◌, ◌*◌, ◌/◌, ◌%◌, ◌<◌, ◌≡◌, refl, List, [], ◌∷◌, ◌++◌, length, get_or}
use Rattle.words.specs.Prelude.{sym, ap, ◌∙◌, arith, List·get_or-append}
use Rattle.words.specs.Prelude.{get_or-append-add}
use Rattle.steps.specs.{Bytes.eight}
use Rattle.images.specs.{Layout.words_bytes}

pub words_long : (ws : List ℕ) → length (words_bytes ws) ≡ 8 * length ws
unfolding words_bytes
words_long [] = refl
words_long (w ∷ ws) = omega (arith, words_long ws)

-- a byte of the word 0
zero_byte : (r : ℕ) → get_or (eight 0) r 0 ≡ 0
zero_byte zero = refl
zero_byte (suc zero) = refl
zero_byte (suc (suc zero)) = refl
zero_byte (suc (suc (suc zero))) = refl
zero_byte (suc (suc (suc (suc zero)))) = refl
zero_byte (suc (suc (suc (suc (suc zero))))) = refl
zero_byte (suc (suc (suc (suc (suc (suc zero)))))) = refl
zero_byte (suc (suc (suc (suc (suc (suc (suc zero))))))) = refl
zero_byte (suc (suc (suc (suc (suc (suc (suc (suc n)))))))) = refl

-- byte r of word i; past the last word all are 0
pub word_byte : (ws : List ℕ) (i r : ℕ) → r < 8 → get_or (words_bytes ws) (8 * i + r) 0 ≡ get_or (eight (get_or ws i 0)) r 0
unfolding words_bytes
word_byte [] i r l = sym (zero_byte r)
word_byte (w ∷ ws) zero r l =
    let place : 8 * 0 + r ≡ r = omega arith in
    ap (λ (k : ℕ). get_or (eight w ++ words_bytes ws) k 0) place ∙ List·get_or-append (eight w) (words_bytes ws) 0 r l
word_byte (w ∷ ws) (suc i) r l =
    let place : 8 * suc i + r ≡ 8 + (8 * i + r) = omega arith in
    ap (λ (k : ℕ). get_or (eight w ++ words_bytes ws) k 0) place ∙ get_or-append-add (eight w) (words_bytes ws) (8 * i + r) 0 ∙ word_byte ws i r l

-- byte k
pub byte_of : (ws : List ℕ) (k : ℕ) → get_or (words_bytes ws) k 0 ≡ get_or (eight (get_or ws (k / 8) 0)) (k % 8) 0
byte_of ws k =
    let place : k ≡ 8 * (k / 8) + k % 8 = omega arith in
    ap (λ (j : ℕ). get_or (words_bytes ws) j 0) place ∙ word_byte ws (k / 8) (k % 8) (omega arith)
