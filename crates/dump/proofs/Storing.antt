-- Stores, one after another, as bytes laid.
use Rattle.words.specs.Prelude.{ℕ, zero, suc, ◌+◌, ◌-◌, ◌*◌, ◌<◌, ◌≤◌, ◌≡◌, refl, sym, ap, ◌∙◌, List, zero-add, add-one, arith, length, get_or, set, drop}
use Rattle.words.specs.Prelude.{get_or-drop, paste}
use Rattle.std.proofs.lemmas.List.Edits.{paste_none, paste_more}
use Rattle.steps.specs.{Bytes.eight}
use Rattle.images.specs.{Layout.words_bytes}
use Rattle.dump.specs.{Laws.Laid.laid, Laws.Laid.laid_none, Laws.Laid.laid_more, Laws.Laid.laid_on, Laws.Laid.laid_as, Laws.InOrder.clip}
use Rattle.dump.specs.{Laws.InOrder.part_laid, Laws.InOrder.whole_laid, Laws.WordBytes.word_byte}
use native.Mathlib.Nat.{sub_self}

-- bytes that are those of a list, as a copy of them leaves the area
pub laid_paste : (area : List ℕ) (base : ℕ) (xs s : List ℕ) (p n at : ℕ) → base + (p + n) ≤ length area → n ≤ length s → at ≡ base + p
    → ((j : ℕ) → j < n → get_or xs (p + j) 0 ≡ get_or s j 0) → laid area base xs p n ≡ paste area at s n
unfolding laid
laid_paste area base xs s p zero at fits long e same = paste_none area at s
laid_paste area base xs s p (suc n) at fits long e same =
    let place : base + (p + n) ≡ at + n = omega arith in
    rw (laid_paste area base xs s p n at (omega arith) (omega arith) e (λ j l. same j (omega arith)), same n (omega arith), place)
    (rw add-one at (paste_more area at s n 0 (omega arith) (omega arith)))

-- no byte yet
pub laid_nothing : (area : List ℕ) (base : ℕ) (xs : List ℕ) (p : ℕ) → area ≡ laid area base xs p (p - p)
laid_nothing area base xs p = rw (sub_self p) (laid_none area base xs p)

-- all bytes up to q
pub laid_all : (area : List ℕ) (base : ℕ) (xs : List ℕ) (p q k : ℕ) {now : List ℕ} → q ≤ k → k - q ≤ p - q → p ≤ k → now ≡ laid area base xs p (k - p)
    → now ≡ laid area base xs p (q - p)
laid_all area base xs p q k h g l e = let n : k - p ≡ q - p = omega arith in rw n at e

-- the byte at k is the next
pub laid_next : (area : List ℕ) (base : ℕ) (xs : List ℕ) (p k b : ℕ) {now : List ℕ} → p ≤ k → now ≡ laid area base xs p (k - p) → b ≡ get_or xs k 0
    → set now (base + k) b ≡ laid area base xs p (k + 1 - p)
laid_next area base xs p k b h e f =
    let n : k + 1 - p ≡ k - p + 1 = omega arith in
    rw (e, n) (laid_more area base xs p (k - p) k b (omega arith) f)

-- the bytes of word k
word_at : (now : List ℕ) (base : ℕ) (ws : List ℕ) (k p w : ℕ) → p ≡ base + 8 * k → w ≡ get_or ws k 0
    → laid now p (eight w) 0 8 ≡ laid now base (words_bytes ws) (8 * k) 8
word_at now base ws k p w e f =
    laid_as now p (eight w) 0 base (words_bytes ws) (8 * k) 8 (omega arith)
    (λ j l. ap (λ (m : ℕ). get_or (eight w) m 0) (zero-add j) ∙ ap (λ (v : ℕ). get_or (eight v) j 0) f ∙ sym (word_byte ws k j l))

-- the word at k is the next
pub word_next : (area : List ℕ) (base : ℕ) (ws : List ℕ) (i k w : ℕ) {now : List ℕ} → i ≤ k → now ≡ laid area base (words_bytes ws) (8 * i) (8 * (k - i))
    → w ≡ get_or ws k 0 → laid now (base + 8 * k) (eight w) 0 8 ≡ laid area base (words_bytes ws) (8 * i) (8 * (k + 1 - i))
word_next area base ws i k w {now} h e f =
    let n : 8 * (k + 1 - i) ≡ 8 * (k - i) + 8 = omega arith in
    let q : 8 * i + 8 * (k - i) ≡ 8 * k = omega arith in
    rw n
    (word_at now base ws k (base + 8 * k) w refl f
    ∙ ap (λ (x : List ℕ). laid x base (words_bytes ws) (8 * k) 8) e
    ∙ ap (λ (m : ℕ). laid (laid area base (words_bytes ws) (8 * i) (8 * (k - i))) base (words_bytes ws) m 8) (sym q)
    ∙ laid_on area base (words_bytes ws) (8 * i) (8 * (k - i)) 8)

pub words_nothing : (area : List ℕ) (base : ℕ) (ws : List ℕ) (i : ℕ) → area ≡ laid area base (words_bytes ws) (8 * i) (8 * (i - i))
words_nothing area base ws i = rw (sub_self i) (laid_none area base (words_bytes ws) (8 * i))

pub words_all : (area : List ℕ) (base : ℕ) (ws : List ℕ) (i j k : ℕ) {now : List ℕ} → j ≤ k → k - j ≤ i - j → i ≤ k
    → now ≡ laid area base (words_bytes ws) (8 * i) (8 * (k - i)) → now ≡ laid area base (words_bytes ws) (8 * i) (8 * (j - i))
words_all area base ws i j k h g l e = let n : 8 * (k - i) ≡ 8 * (j - i) = omega arith in rw n at e

-- some bytes, and then those that follow
pub laid_two : (area : List ℕ) (base : ℕ) (xs : List ℕ) (p n q m k : ℕ) {mid out : List ℕ} → mid ≡ laid area base xs p n → out ≡ laid mid base xs q m
    → q ≡ p + n → k ≡ n + m → out ≡ laid area base xs p k
laid_two area base xs p n q m k e f g h = rw (f, e, g, h) (laid_on area base xs p n m)

-- four words
pub four_words : (area : List ℕ) (base : ℕ) (ws : List ℕ) (k : ℕ) {one two three out : List ℕ}
    → one ≡ laid area (base + 8 * k) (eight (get_or ws k 0)) 0 8 → two ≡ laid one (base + 8 * k + 8) (eight (get_or ws (k + 1) 0)) 0 8
    → three ≡ laid two (base + 8 * k + 16) (eight (get_or ws (k + 2) 0)) 0 8 → out ≡ laid three (base + 8 * k + 24) (eight (get_or ws (k + 3) 0)) 0 8
    → out ≡ laid area base (words_bytes ws) (8 * k) 32
four_words area base ws k {one} {two} {three} e f g h =
    laid_two area base (words_bytes ws) (8 * k) 24 (8 * (k + 3)) 8 32
    (laid_two area base (words_bytes ws) (8 * k) 16 (8 * (k + 2)) 8 24
    (laid_two area base (words_bytes ws) (8 * k) 8 (8 * (k + 1)) 8 16
    (e ∙ word_at area base ws k _ _ refl refl) (f ∙ word_at one base ws (k + 1) _ _ (omega arith) refl) (omega arith) refl)
    (g ∙ word_at two base ws (k + 2) _ _ (omega arith) refl) (omega arith) refl)
    (h ∙ word_at three base ws (k + 3) _ _ (omega arith) refl) (omega arith) refl

-- eight more, four by four
pub eight_next : (area : List ℕ) (base : ℕ) (ws : List ℕ) (i k : ℕ) {now mid out : List ℕ} → i ≤ k
    → now ≡ laid area base (words_bytes ws) (8 * i) (8 * (k - i)) → mid ≡ laid now base (words_bytes ws) (8 * k) 32
    → out ≡ laid mid base (words_bytes ws) (8 * (k + 4)) 32 → out ≡ laid area base (words_bytes ws) (8 * i) (8 * (k + 8 - i))
eight_next area base ws i k h e f g =
    laid_two area base (words_bytes ws) (8 * i) (8 * (k + 4 - i)) (8 * (k + 4)) 32 (8 * (k + 8 - i))
    (laid_two area base (words_bytes ws) (8 * i) (8 * (k - i)) (8 * k) 32 (8 * (k + 4 - i)) e f (omega arith) (omega arith))
    g (omega arith) (omega arith)

-- the rows, the header's other words, the word with the mark
pub whole_laid_lem : (area head rows : List ℕ) (words : ℕ) {mid rest out : List ℕ} → mid ≡ laid area 256 (words_bytes rows) (8 * 0) (8 * words - 8 * 0)
    → rest ≡ laid mid 0 (words_bytes head) (8 * 1) (8 * 32 - 8 * 1) → out ≡ laid rest 0 (words_bytes head) (8 * 0) (8 * 1 - 8 * 0)
    → out ≡ whole_laid area head rows (8 * words)
whole_laid_lem area head rows words e f g = let n : 8 * words - 8 * 0 ≡ 8 * words = omega arith in rw (g, f, e, n)

-- what of a part lies between
pub part_laid_lem : (area : List ℕ) (base : ℕ) (ws : List ℕ) (skip start most from upto a b : ℕ) {out : List ℕ}
    → a ≡ clip from start most → b ≡ clip upto start most
    → out ≡ laid area base (words_bytes ws) (skip + a) (skip + b - (skip + a)) → out ≡ part_laid area base ws skip start most from upto
part_laid_lem area base ws skip start most from upto a b e f g =
    let n : skip + b - (skip + a) ≡ b - a = omega arith in
    rw (← e, ← f, ← n) g

-- the byte at p + k is the next of those from p on
pub copied_next : (part : List ℕ) (to : ℕ) (xs : List ℕ) (p k b : ℕ) {now : List ℕ} → now ≡ laid part to (drop p xs) 0 k → b ≡ get_or xs (p + k) 0
    → set now (to + k) b ≡ laid part to (drop p xs) 0 (k + 1)
copied_next part to xs p k b e f = rw e (laid_more part to (drop p xs) 0 k k b (sym (zero-add k)) (f ∙ sym (get_or-drop p xs k 0)))
