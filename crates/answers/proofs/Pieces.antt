-- Four pieces put one after another into a room of newlines, and the newline after them.
use Rattle.words.specs.Prelude.{◌≡◌, refl, sym, ◌∙◌, ap, Bool, true, false, cond, List, [], ◌∷◌, ◌++◌, ℕ, zero, suc, ◌+◌, ◌/◌, ◌≤◌, ◌<◌, arith, length, take}
use Rattle.words.specs.Prelude.{drop, replicate, length-append, length-take-le, ltb, leb, leb-true}
use Rattle.answers.specs.{Text.put, Text.next, Text.places, Text.decimal, Text.IsPrefixLen, Laws.Pieces.next_fits, Laws.Pieces.put_fits, Laws.Pieces.put-put}
use Rattle.answers.specs.{Laws.Pieces.length-put, Laws.Pieces.length_digits}

-- at most one digit more than asked for
places_few : (k n : ℕ) → places k n ≤ k + 1
unfolding places
places_few zero n = omega arith
places_few (suc k) n = either (ltb n 10) (places k (n / 10)) k (places_few k (n / 10))
  where
    either : (b : Bool) (m k : ℕ) → m ≤ k + 1 → cond b 1 (m + 1) ≤ suc k + 1
    either true m k h = omega arith
    either false m k h = omega arith

-- a word takes 20 digits at the most
pub decimal_few : (n : ℕ) → length (decimal n) ≤ 20
unfolding decimal
decimal_few n = omega (arith, length_digits 10 (places 19 n) n, places_few 19 n)

abbrev pub newlines : List ℕ
newlines = replicate 64 10

-- one piece more
more : (l l' s p : List ℕ) (n n' : ℕ) → l ≡ put newlines 0 s → n ≡ length s → length s + length p ≤ 64 → n' ≡ next l n p → l' ≡ put l n p
    → (n' ≡ length (s ++ p)) × (l' ≡ put newlines 0 (s ++ p))
more l l' s p n n' hl hn room hn' hl' =
    let long : length l ≡ 64 = ap length hl ∙ length-put newlines 0 s in
    let place : 0 + length s ≡ n = omega arith in
    let fits : n + length p ≤ length l = omega arith in (
      hn' ∙ next_fits l n p fits ∙ omega (arith, length-append s p),
      hl' ∙ ap (λ (r : List ℕ). put r n p) hl ∙ ap (λ (m : ℕ). put (put newlines 0 s) m p) (sym place) ∙ put-put newlines 0 s p (omega arith),
    )

-- the pieces s, put at the start of a room of newlines, end at d
pub record Put (s : List ℕ) (d : ℕ) (l : List ℕ) : Type 0 where
  pub count : d ≡ length s
  pub room : l ≡ put newlines 0 s
  pub few : length s ≤ 62

-- four pieces, each put after the one before it
pub four : (what then : List ℕ) (x y : ℕ) (l1 l2 l3 l4 : List ℕ) (a b c d : ℕ) → (length what ≤ 16) × (length then ≤ 6)
    → (a ≡ next newlines 0 what) × (l1 ≡ put newlines 0 what) → (b ≡ next l1 a (decimal x)) × (l2 ≡ put l1 a (decimal x))
    → (c ≡ next l2 b then) × (l3 ≡ put l2 b then) → (d ≡ next l3 c (decimal y)) × (l4 ≡ put l3 c (decimal y))
    → Put (what ++ decimal x ++ then ++ decimal y) d l4
four what then x y l1 l2 l3 l4 a b c d few h1 h2 h3 h4 =
    let dx = decimal_few x in
    let dy = decimal_few y in
    let e2 = length-append what (decimal x) in
    let e3 = length-append (what ++ decimal x) then in
    let e4 = length-append (what ++ decimal x ++ then) (decimal y) in
    let first : a ≡ length what = h1.0 ∙ next_fits newlines 0 what (omega arith) ∙ omega arith in
    let m2 = more l1 l2 what (decimal x) a b h1.1 first (omega arith) h2.0 h2.1 in
    let m3 = more l2 l3 (what ++ decimal x) then b c m2.1 m2.0 (omega arith) h3.0 h3.1 in
    let m4 = more l3 l4 (what ++ decimal x ++ then) (decimal y) c d m3.1 m3.0 (omega arith) h4.0 h4.1 in
    record { count = m4.0; room = m4.1; few = omega arith }

-- a newline stands after them
drop-newlines : (m n : ℕ) → n < m → take {A = ℕ} 1 (drop n (replicate m 10)) ≡ 10 ∷ []
drop-newlines zero n h = absurd (never h)
  where
    never : n < 0 → ⊥
    never h' = omega arith
drop-newlines (suc m) zero h = refl
drop-newlines (suc m) (suc n) h = drop-newlines m n (omega arith)

-- as many bytes as a piece has, and one more
take_one_more : (s r : List ℕ) → take (length s + 1) (s ++ r) ≡ s ++ take 1 r
take_one_more [] r = refl
take_one_more (x ∷ s) r =
    let e : suc (length s) + 1 ≡ suc (length s + 1) = omega arith in
    ap (λ (n : ℕ). take n (x ∷ (s ++ r))) e ∙ ap (λ (l : List ℕ). x ∷ l) (take_one_more s r)

-- the pieces and the newline after them
pub with_newline : (s l : List ℕ) (d : ℕ) → Put s d l → take (d + 1) l ≡ s ++ (10 ∷ [])
with_newline s l d p =
    let place : 0 + length s ≡ length s = omega arith in
    ap (λ (r : List ℕ). take (d + 1) r) (p.room ∙ put_fits newlines 0 s (omega (arith, p.few)))
    ∙ ap (λ (m : ℕ). take (m + 1) (take 0 newlines ++ s ++ drop (0 + length s) newlines)) p.count
    ∙ ap (λ (m : ℕ). take (length s + 1) (s ++ drop m newlines)) place
    ∙ take_one_more s (drop (length s) newlines)
    ∙ ap (λ (r : List ℕ). s ++ r) (drop-newlines 64 (length s) (omega (arith, p.few)))

-- the newline lies within the room
pub room_long : (s l : List ℕ) (d : ℕ) → Put s d l → d + 1 ≤ length l
room_long s l d p = omega (arith, p.count, p.few, ap length p.room ∙ length-put newlines 0 s)

-- a line put at the start of a room lies within it
pub counted : (room s l : List ℕ) (n : ℕ) → n ≡ next room 0 s → l ≡ put room 0 s → IsPrefixLen n l
unfolding next
counted room s l n hn hl =
    let small = within (leb (0 + length s) (length room)) refl in
    (omega (arith, small, ap length hl ∙ length-put room 0 s), sym (length-take-le n l (omega (arith, small, ap length hl ∙ length-put room 0 s))))
  where
    within : (b : Bool) → leb (0 + length s) (length room) ≡ b → n ≤ length room
    within true e = omega (arith, hn ∙ ap (λ (b : Bool). cond b (0 + length s) 0) e, leb-true (0 + length s) (length room) e)
    within false e = omega (arith, hn ∙ ap (λ (b : Bool). cond b (0 + length s) 0) e)
