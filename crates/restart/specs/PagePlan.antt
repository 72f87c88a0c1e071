-- Pages and then the first word are a plan; so is the plan whose programs `ysh holdup` counts.
use Rattle.std.specs.Prelude.{ℕ, zero, suc, ◌+◌, ◌-◌, ◌*◌, ◌/◌, ◌%◌, ◌≤◌, ◌<◌, min, ◌≡◌, refl, Bool, true, false, ◌||◌, List, [], ◌∷◌, ltb, eqb, length}
use Rattle.words.specs.Prelude.{ap, ◌∙◌, mod-add-div}
use Rattle.words.specs.Prelude.{mod-lt, mul_comm, zero-mul, arith, ltb-true, ltb-false, eqb-false, ne_eqb, length-append}
use Rattle.restart.specs.{Pages.Rising, Pages.end_of, Pages.ends_later, Plans.touches, Plans.covers, Plans.in_order, Plans.Plan}

-- ---- definitions

-- the first word: the mark, K, the version, D
abbrev pub first_word : List ℕ
first_word = 0 ∷ 1 ∷ 2 ∷ 3 ∷ 4 ∷ 5 ∷ 6 ∷ 7 ∷ []

-- n places from one on
unfoldable pub places_from : ℕ → ℕ → List ℕ
places_from at zero = []
places_from at (suc n) = at ∷ places_from (suc at) n

-- pages that end at these places, one after another: the first begins at `from`
unfoldable pub pages_to : ℕ → List ℕ → List (List ℕ)
pages_to from [] = []
pages_to from (e ∷ es) = places_from from (e - from) ∷ pages_to e es

-- where n pages of one size end, from place `at` on; the last where the image does
unfoldable pub page_ends : ℕ → ℕ → ℕ → ℕ → List ℕ
page_ends page size at zero = []
page_ends page size at (suc n) = min (at + page) size ∷ page_ends page size (at + page) n

-- as many pages as an image of so many bytes takes up
abbrev pub pages_of : ℕ → ℕ → ℕ
pages_of page size = (size + (page - 1)) / page

-- "every page of the image once, with the first 8 bytes left out, and then those 8 in a program of their own"
abbrev pub whole_pages : ℕ → ℕ → List (List ℕ)
whole_pages page size = pages_to 8 (page_ends page size 0 (pages_of page size))

-- ---- what they touch

pub word_else : (i : ℕ) → 8 ≤ i → touches first_word i ≡ false
unfolding touches
word_else i l =
    rw (
      ne_eqb 0 i (λ e. omega arith),
      ne_eqb 1 i (λ e. omega arith),
      ne_eqb 2 i (λ e. omega arith),
      ne_eqb 3 i (λ e. omega arith),
      ne_eqb 4 i (λ e. omega arith),
      ne_eqb 5 i (λ e. omega arith),
      ne_eqb 6 i (λ e. omega arith),
      ne_eqb 7 i (λ e. omega arith),
    )

pub word_at : (i : ℕ) → i < 8 → touches first_word i ≡ true
unfolding touches
word_at zero l = refl
word_at (suc zero) l = refl
word_at (suc (suc zero)) l = refl
word_at (suc (suc (suc zero))) l = refl
word_at (suc (suc (suc (suc zero)))) l = refl
word_at (suc (suc (suc (suc (suc zero))))) l = refl
word_at (suc (suc (suc (suc (suc (suc zero)))))) l = refl
word_at (suc (suc (suc (suc (suc (suc (suc zero))))))) l = refl
word_at (suc (suc (suc (suc (suc (suc (suc (suc n)))))))) l = absurd (omega arith)

either : (a b : Bool) → (a ≡ false → b ≡ true) → (a || b) ≡ true
either true b h = refl
either false b h = h refl

pub from_below : (n at i : ℕ) → i < at → touches (places_from at n) i ≡ false
unfolding touches places_from
from_below zero at i l = refl
from_below (suc n) at i l = rw (ne_eqb at i (λ e. omega arith), from_below n (suc at) i (omega arith))

pub from_at : (n at i : ℕ) → at ≤ i → i < at + n → touches (places_from at n) i ≡ true
unfolding touches places_from
from_at zero at i h l = absurd (omega arith)
from_at (suc n) at i h l =
    either (eqb at i) _ (λ e. let other : at ≡ i → ⊥ = eqb-false at i e in from_at n (suc at) i (omega arith) (omega arith))

pub from_above : (n at i : ℕ) → at + n ≤ i → touches (places_from at n) i ≡ false
unfolding touches places_from
from_above zero at i l = refl
from_above (suc n) at i l = rw (ne_eqb at i (λ e. omega arith), from_above n (suc at) i (omega arith))

pages_below : (es : List ℕ) (from i : ℕ) → Rising from es → i < from → covers (pages_to from es) i ≡ false
unfolding covers pages_to Rising
pages_below [] from i r l = refl
pages_below (e ∷ es) from i r l = rw (from_below (e - from) from i l, pages_below es e i r.1 (omega (arith, r.0)))

pub pages_at : (es : List ℕ) (from i : ℕ) → Rising from es → from ≤ i → i < end_of from es → covers (pages_to from es) i ≡ true
unfolding covers pages_to Rising end_of
pages_at [] from i r h l = absurd (omega arith)
pages_at (e ∷ es) from i r h l = go (ltb i e) refl (λ k. pages_at es e i r.1 k l)
  where
    go : (b : Bool) → ltb i e ≡ b → (e ≤ i → covers (pages_to e es) i ≡ true)
        → (touches (places_from from (e - from)) i || covers (pages_to e es) i) ≡ true
    go true k later = rw (from_at (e - from) from i h (omega (arith, r.0, ltb-true i e k)))
    go false k later = either (touches (places_from from (e - from)) i) (covers (pages_to e es) i) (λ n. later (ltb-false i e k))

pub pages_above : (es : List ℕ) (from i : ℕ) → Rising from es → end_of from es ≤ i → covers (pages_to from es) i ≡ false
unfolding covers pages_to Rising end_of
pages_above [] from i r l = refl
pages_above (e ∷ es) from i r l =
    rw (from_above (e - from) from i (omega (arith, r.0, ends_later e es r.1)), pages_above es e i r.1 l)

-- ---- the plans

-- PAGES OF ANY SIZES from byte 8 to the end, and then the first word, are a plan for any bytes over any area.
pub pages_plan : (bytes area es : List ℕ) → Rising 8 es → end_of 8 es ≡ length bytes → Plan bytes area (pages_to 8 es) first_word
pages_plan bytes area es rising ends = record {
  off = pages_below es 8 2 rising (omega arith);
  low = word_else;
  rest = λ i l c n. absurd (go i (ltb i 8) refl l c n);
}
  where
    go : (i : ℕ) (b : Bool) → ltb i 8 ≡ b → i < length bytes → covers (pages_to 8 es) i ≡ false → touches first_word i ≡ false → ⊥
    go i true e l c n = let t : touches first_word i ≡ true = word_at i (ltb-true i 8 e) in let z : ◌≡◌ {A = ℕ} 0 1 = cc in omega arith
    go i false e l c n =
        let t : covers (pages_to 8 es) i ≡ true = pages_at es 8 i rising (ltb-false i 8 e) (omega arith) in
        let z : ◌≡◌ {A = ℕ} 0 1 = cc in omega arith

-- pages of one size, from a page's end on
ends_rise : (page size n at from : ℕ) → from ≤ min (at + page) size → Rising from (page_ends page size at n)
unfolding page_ends Rising
ends_rise page size zero at from l = tt
ends_rise page size (suc n) at from l = (l, ends_rise page size n (at + page) (min (at + page) size) (omega arith))

ends_at : (page size n at from : ℕ) → size ≤ at + n * page → (n ≡ 0 → from ≡ size) → end_of from (page_ends page size at n) ≡ size
unfolding page_ends end_of
ends_at page size zero at from l none = none refl
ends_at page size (suc n) at from l none =
    let on : size ≤ at + page + n * page = rw (add_page n page at) at l in
    ends_at page size n (at + page) (min (at + page) size) on (λ z. let e : at + page + n * page ≡ at + page = rw z (omega arith) in omega arith)
  where
    add_page : (n page at : ℕ) → at + suc n * page ≡ at + page + n * page
    add_page n page at = omega arith

-- THE PLAN OF WHOLE PAGES, of 8 bytes or more each, is a plan for any bytes, of 8 or more, over any area.
pub whole_pages_plan : (bytes area : List ℕ) (page : ℕ) → 8 ≤ page → 8 ≤ length bytes → Plan bytes area (whole_pages page (length bytes)) first_word
whole_pages_plan bytes area page wide long =
    let size = length bytes in
    pages_plan bytes area (page_ends page size 0 (pages_of page size)) (ends_rise page size (pages_of page size) 0 8 (omega arith))
    (ends_at page size (pages_of page size) 0 8 (enough page size wide)
    (λ z. absurd (omega (arith, enough page size wide, ap (λ (n : ℕ). n * page) z ∙ zero-mul page))))
  where
    enough : (page size : ℕ) → 8 ≤ page → size ≤ 0 + pages_of page size * page
    enough page size wide =
        let n = size + (page - 1) in
        let whole : n % page + page * (n / page) ≡ n = mod-add-div n page in
        let part : n % page < page = mod-lt n (omega arith) in
        omega (arith, mul_comm page (n / page))

ends_many : (page size n at : ℕ) → length (page_ends page size at n) ≡ n
unfolding page_ends
ends_many page size zero at = refl
ends_many page size (suc n) at = ap suc (ends_many page size n (at + page))

pages_many : (es : List ℕ) (from : ℕ) → length (pages_to from es) ≡ length es
unfolding pages_to
pages_many [] from = refl
pages_many (e ∷ es) from = ap suc (pages_many es e)

-- IT HAS ONE PROGRAM FOR EACH PAGE OF THE IMAGE, AND ONE MORE: what `ysh holdup` counts.
pub whole_pages_count : (page size : ℕ) → length (in_order (whole_pages page size) first_word) ≡ pages_of page size + 1
whole_pages_count page size =
    length-append (whole_pages page size) (first_word ∷ [])
    ∙ ap (λ (n : ℕ). n + 1) (pages_many (page_ends page size 0 (pages_of page size)) 8 ∙ ends_many page size (pages_of page size) 0)
