-- The header as words: fields that are no words of their own stand side by side in one, the first lowest.
use Rattle.std.specs.Prelude.{ℕ, ◌+◌, ◌*◌, ◌/◌, ◌%◌, ◌<◌, ◌≡◌, refl, List, [], ◌∷◌, ◌++◌, replicate}
use Rattle.words.specs.Prelude.{sym, ap, ◌∙◌, mod-eq_of_lt, div-eq_of_lt, zero-add, arith}
use Rattle.words.specs.{Words.word}
use Rattle.steps.specs.{Bytes.two, Bytes.four, Bytes.eight}
use Rattle.images.specs.{Layout.single, Layout.words_bytes, Layout.numbers, Layout.amounts, Layout.head}
use Rattle.std.proofs.Math.Nat.{add-mul-div_left, add-mul-mod_self_left}

-- the mark and version 1, K, D
abbrev pub first_word : ℕ → ℕ → ℕ
first_word K D = 4300227671 + 16777216 * (K % 256) + 281474976710656 * (D % 65536)

-- bars seen, rows
abbrev pub second_word : ℕ → ℕ → ℕ
second_word seen held = seen % 4294967296 + 4294967296 * (held % 4294967296)

-- order, its kind, whether entered, the entry bar
abbrev pub third_word : ℕ → ℕ → ℕ → ℕ → ℕ
third_word order kind entered bar = order % 256 + 256 * (kind % 256) + 65536 * (entered % 256) + 4294967296 * (bar % 4294967296)

unfoldable pub head_words : ℕ → ℕ → ℕ → List ℕ → List ℕ
head_words K D held ws =
    first_word K D ∷ second_word (word ws 0) held ∷ third_word (word ws 4) (word ws 17) (word ws 6) (word ws 7) ∷ word ws 5 ∷ amounts ws

-- ---- their bytes

-- what stands 256 · a or more above a number does not reach its byte at a
low_byte : (a n r z : ℕ) → 0 < a → n ≡ r + a * (256 * z) → r / a % 256 ≡ n / a % 256
low_byte a n r z some e =
    let over : n / a ≡ r / a + 256 * z = ap (λ (m : ℕ). m / a) e ∙ add-mul-div_left r (256 * z) some in
    rw over (sym (add-mul-mod_self_left (r / a) 256 z))

four_low : (n : ℕ) → four (n % 4294967296) ≡ four n
four_low n =
    let q = n / 4294967296 in
    let r = n % 4294967296 in
    let whole : n ≡ r + 256 * (16777216 * q) = omega arith in
    let a : r % 256 ≡ n % 256 = sym (ap (λ (m : ℕ). m % 256) whole ∙ add-mul-mod_self_left r 256 (16777216 * q)) in
    let b : r / 256 % 256 ≡ n / 256 % 256 = low_byte 256 n r (65536 * q) (omega arith) (omega arith) in
    let c : r / 65536 % 256 ≡ n / 65536 % 256 = low_byte 65536 n r (256 * q) (omega arith) (omega arith) in
    let d : r / 16777216 % 256 ≡ n / 16777216 % 256 = low_byte 16777216 n r q (omega arith) (omega arith) in
    rw (a, b, c, d)

-- two halves
pub halves : (lo hi n : ℕ) → lo < 4294967296 → n ≡ lo + 4294967296 * hi → eight n ≡ four lo ++ four hi
halves lo hi n l e =
    let a : n % 4294967296 ≡ lo = ap (λ (m : ℕ). m % 4294967296) e ∙ add-mul-mod_self_left lo 4294967296 hi ∙ mod-eq_of_lt l in
    let b : n / 4294967296 ≡ hi =
    ap (λ (m : ℕ). m / 4294967296) e ∙ add-mul-div_left lo hi (omega arith) ∙ ap (λ (m : ℕ). m + hi) (div-eq_of_lt l) ∙ zero-add hi in
    rw (a, b)

-- four bytes side by side
pub joined : (n a b c d : ℕ) → a < 256 → b < 256 → c < 256 → d < 256 → n ≡ a + 256 * b + 65536 * c + 16777216 * d → four n ≡ a ∷ b ∷ c ∷ d ∷ []
joined n a b c d la lb lc ld e =
    let p0 : n % 256 ≡ a = omega arith in
    let p1 : n / 256 ≡ b + 256 * c + 65536 * d = omega arith in
    let p2 : n / 65536 ≡ c + 256 * d = omega arith in
    let p3 : n / 16777216 ≡ d = omega arith in
    let q1 : (b + 256 * c + 65536 * d) % 256 ≡ b = omega arith in
    let q2 : (c + 256 * d) % 256 ≡ c = omega arith in
    let q3 : d % 256 ≡ d = mod-eq_of_lt ld in
    rw (p0, p1, p2, p3, q1, q2, q3)

-- two bytes
pair_low : (D : ℕ) → D % 65536 ≡ D % 256 + 256 * (D / 256 % 256)
pair_low D =
    let small : D % 256 + 256 * (D / 256 % 256) < 65536 = omega arith in
    let whole : D ≡ D % 256 + 256 * (D / 256 % 256) + 65536 * (D / 256 / 256) = omega arith in
    ap (λ (m : ℕ). m % 65536) whole ∙ add-mul-mod_self_left (D % 256 + 256 * (D / 256 % 256)) 65536 (D / 256 / 256) ∙ mod-eq_of_lt small

first_bytes : (K D : ℕ) → eight (first_word K D) ≡ (87 ∷ 68 ∷ 80 ∷ []) ++ (single K ++ (two 1 ++ two D))
first_bytes K D =
    let lo = 87 + 256 * 68 + 65536 * 80 + 16777216 * (K % 256) in
    let hi = 1 + 256 * 0 + 65536 * (D % 256) + 16777216 * (D / 256 % 256) in
    halves lo hi (first_word K D) (omega arith) (omega (arith, pair_low D))
    ∙ ap (λ (l : List ℕ). l ++ four hi) (joined lo 87 68 80 (K % 256) (omega arith) (omega arith) (omega arith) (omega arith) refl)
    ∙ ap (λ (l : List ℕ). (87 ∷ 68 ∷ 80 ∷ K % 256 ∷ []) ++ l)
    (joined hi 1 0 (D % 256) (D / 256 % 256) (omega arith) (omega arith) (omega arith) (omega arith) refl)

second_bytes : (seen held : ℕ) → eight (second_word seen held) ≡ four seen ++ four held
second_bytes seen held =
    halves (seen % 4294967296) (held % 4294967296) (second_word seen held) (omega arith) refl
    ∙ ap (λ (l : List ℕ). l ++ four (held % 4294967296)) (four_low seen) ∙ ap (λ (l : List ℕ). four seen ++ l) (four_low held)

third_bytes : (order kind entered bar : ℕ)
    → eight (third_word order kind entered bar) ≡ (single order ++ (single kind ++ (single entered ++ single 0))) ++ four bar
third_bytes order kind entered bar =
    let lo = order % 256 + 256 * (kind % 256) + 65536 * (entered % 256) in
    halves lo (bar % 4294967296) (third_word order kind entered bar) (omega arith) refl
    ∙ ap (λ (l : List ℕ). l ++ four (bar % 4294967296))
    (joined lo (order % 256) (kind % 256) (entered % 256) 0 (omega arith) (omega arith) (omega arith) (omega arith) (omega arith))
    ∙ ap (λ (l : List ℕ). (single order ++ (single kind ++ (single entered ++ single 0))) ++ l) (four_low bar)

-- THE HEADER'S BYTES are those of its words, and 120 spare ones
pub head_packed : (K D held : ℕ) (ws : List ℕ) → words_bytes (head_words K D held ws) ++ replicate 120 0 ≡ head K D held ws
unfolding head numbers head_words words_bytes
head_packed K D held ws =
    let w₂ = second_word (word ws 0) held in
    let w₃ = third_word (word ws 4) (word ws 17) (word ws 6) (word ws 7) in
    let rest = eight (word ws 5) ++ (words_bytes (amounts ws) ++ replicate 120 0) in
    let first = (87 ∷ 68 ∷ 80 ∷ []) ++ (single K ++ (two 1 ++ two D)) in
    ap (λ (l : List ℕ). l ++ (eight w₂ ++ (eight w₃ ++ rest))) (first_bytes K D)
    ∙ ap (λ (l : List ℕ). first ++ (l ++ (eight w₃ ++ rest))) (second_bytes (word ws 0) held)
    ∙ ap (λ (l : List ℕ). first ++ ((four (word ws 0) ++ four held) ++ (l ++ rest)))
    (third_bytes (word ws 4) (word ws 17) (word ws 6) (word ws 7))
