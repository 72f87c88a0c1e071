-- Which lines stand in each part, and that none tells a place twice. Assumes nothing.
use Rattle.std.specs.Prelude.{ℕ, zero, suc, ◌/◌, ◌%◌, ◌<◌, ◌≤◌, min, ◌≡◌, refl, ◌⊎◌, Bool, true, false, ltb, get_or}
use Rattle.words.specs.Prelude.{sym, ap, subst, ◌∙◌, inl, inr, ⊎_elim, arith}
use Rattle.words.specs.Prelude.{ltb-true, ltb-false}
use Rattle.words.specs.{Limits.trade_words}
use Rattle.differences.specs.{Lines.Line, Lines.line, Lines.equity_at, Lines.equity_line, Lines.word_line, Lines.word_lines, Lines.surplus, Truth.SamePlace}
use Rattle.differences.specs.{Truth.Once, Truth.none, Truth.first, Laws.Counted.line_same, Laws.Counted.line_other, Laws.Counted.equity_some}
use Rattle.differences.specs.{Laws.Counted.equity_none, Laws.Counted.surplus_none, Laws.Counted.surplus_some, Laws.First.same_or, Laws.First.not_last}
use mathlib.Core.List.{
  List,
  [],
  ◌∷◌,
  ◌++◌,
  Memᴰ,
}

-- ---- no place twice

pub once_one : (l : Line) → Once (l ∷ [])
once_one l = first (λ k m s. absurd (mathlib.Core.List.Memᴰ.not-nil m)) none

pub once_both : {ks ls : List Line} → Once ks → Once ls → ((k l : Line) → Memᴰ k ks → Memᴰ l ls → SamePlace k l → ⊥) → Once (ks ++ ls)
once_both none q d = q
once_both {ks = k ∷ ks} {ls = ls} (first f p) q d =
    first
    (λ l m s. ⊎_elim (λ (x : Memᴰ l ks). f l x s) (λ (y : Memᴰ l ls). d k l (mathlib.Core.List.Memᴰ.head refl) y s) (mathlib.Core.List.Memᴰ.append_cases ks m))
    (once_both p q (λ j l x y. d j l (mathlib.Core.List.Memᴰ.tail x) y))

-- ---- the words of trades

-- the line of word k of two lists
abbrev pub of_word : List ℕ → List ℕ → ℕ → Line
of_word a b k = line 2 (k / trade_words) (k % trade_words) (get_or a k 0) (get_or b k 0)

-- a line that is that of one of the first n words, which differs
pub record Told (a b : List ℕ) (n : ℕ) (l : Line) : Type 0 where
  pub k : ℕ
  pub below : k < n
  pub apart : get_or a k 0 ≡ get_or b k 0 → ⊥
  pub is : l ≡ of_word a b k

module _ (a b : List ℕ) where
  one_told : (k : ℕ) (l : Line) → Memᴰ l (word_line a b k) → Told a b (suc k) l
  one_told k l m = ⊎_elim
      (λ (e : get_or a k 0 ≡ get_or b k 0). absurd (mathlib.Core.List.Memᴰ.not-nil (subst (Memᴰ l) (line_same a b k e) m)))
      (λ (d : get_or a k 0 ≡ get_or b k 0 → ⊥).
      record { k = k; below = omega arith; apart = d; is = mathlib.Core.List.Memᴰ.eq_of_singleton (subst (Memᴰ l) (line_other a b k d) m) })
      (same_or (get_or a k 0) (get_or b k 0))

  pub words_told : (n : ℕ) (l : Line) → Memᴰ l (word_lines a b n) → Told a b n l
  unfolding word_lines
  words_told zero l m = absurd (mathlib.Core.List.Memᴰ.not-nil m)
  words_told (suc n) l m = ⊎_elim
      (λ (x : Memᴰ l (word_lines a b n)). let w = words_told n l x in record { k = w.k; below = up w.k n w.below; apart = w.apart; is = w.is })
      (λ (y : Memᴰ l (word_line a b n)). one_told n l y)
      (mathlib.Core.List.Memᴰ.append_cases (word_lines a b n) m)
    where
      up : (x y : ℕ) → x < y → x < suc y
      up x y h = omega arith

  pub tells_words : (n k : ℕ) → k < n → (get_or a k 0 ≡ get_or b k 0 → ⊥) → Memᴰ (of_word a b k) (word_lines a b n)
  unfolding word_lines
  tells_words zero k h d = absurd (omega arith)
  tells_words (suc n) k h d = ⊎_elim
      (λ (e : k ≡ n). subst (λ (x : ℕ). Memᴰ (of_word a b k) (word_lines a b n ++ word_line a b x)) e
      (mathlib.Core.List.Memᴰ.append_right (word_lines a b n) (subst (Memᴰ (of_word a b k)) (sym (line_other a b k d)) (mathlib.Core.List.Memᴰ.head refl))))
      (λ (v : k ≡ n → ⊥). mathlib.Core.List.Memᴰ.append_left (word_line a b n) (tells_words n k (not_last k n h v) d))
      (same_or k n)

  one_once : (k : ℕ) → Once (word_line a b k)
  one_once k = ⊎_elim
      (λ (e : get_or a k 0 ≡ get_or b k 0). subst Once (sym (line_same a b k e)) none)
      (λ (d : get_or a k 0 ≡ get_or b k 0 → ⊥). subst Once (sym (line_other a b k d)) (once_one (of_word a b k)))
      (same_or (get_or a k 0) (get_or b k 0))

  pub words_once : (n : ℕ) → Once (word_lines a b n)
  unfolding word_lines
  words_once zero = none
  words_once (suc n) = once_both (words_once n) (one_once n)
      (λ k l x y s. let v = words_told n k x in let w = last n l y in
      apart v.k n v.below (ap (λ (z : Line). z.number) (sym v.is) ∙ s.number ∙ ap (λ (z : Line). z.number) w)
      (ap (λ (z : Line). z.word) (sym v.is) ∙ s.word ∙ ap (λ (z : Line). z.word) w))
    where
      last : (n : ℕ) (l : Line) → Memᴰ l (word_line a b n) → l ≡ of_word a b n
      last n l m = ⊎_elim
          (λ (e : get_or a n 0 ≡ get_or b n 0). absurd (mathlib.Core.List.Memᴰ.not-nil (subst (Memᴰ l) (line_same a b n e) m)))
          (λ (d : get_or a n 0 ≡ get_or b n 0 → ⊥). mathlib.Core.List.Memᴰ.eq_of_singleton (subst (Memᴰ l) (line_other a b n d) m))
          (same_or (get_or a n 0) (get_or b n 0))

      apart : (x y : ℕ) → x < y → x / 10 ≡ y / 10 → x % 10 ≡ y % 10 → ⊥
      apart x y h e f = omega arith

-- ---- the line of a point

-- below or not
pub below_or : (x y : ℕ) → (x < y) ⊎ (y ≤ x)
below_or x y = go (ltb x y) refl
  where
    go : (t : Bool) → ltb x y ≡ t → (x < y) ⊎ (y ≤ x)
    go true e = inl (ltb-true x y e)
    go false e = inr (ltb-false x y e)

module _ (a b : List ℕ) (k n : ℕ) where
  abbrev pub of_point : Line
  of_point = line 1 k 1 (equity_at a k) (equity_at b k)

  pub point_told : (l : Line) → Memᴰ l (equity_line a b k n) → (k < n) × (l ≡ of_point)
  point_told l m = ⊎_elim
      (λ (h : k < n). (h, mathlib.Core.List.Memᴰ.eq_of_singleton (subst (Memᴰ l) (equity_some a b k n h) m)))
      (λ (h : n ≤ k). absurd (mathlib.Core.List.Memᴰ.not-nil (subst (Memᴰ l) (equity_none a b k n h) m)))
      (below_or k n)

  pub tells_point : k < n → Memᴰ of_point (equity_line a b k n)
  tells_point h = subst (Memᴰ of_point) (sym (equity_some a b k n h)) (mathlib.Core.List.Memᴰ.head refl)

  pub point_once : Once (equity_line a b k n)
  point_once = ⊎_elim
      (λ (h : k < n). subst Once (sym (equity_some a b k n h)) (once_one of_point))
      (λ (h : n ≤ k). subst Once (sym (equity_none a b k n h)) none)
      (below_or k n)

-- ---- the line of two counts

module _ (sort m n : ℕ) where
  abbrev pub of_counts : Line
  of_counts = line sort (min m n) 0 m n

  pub counts_told : (l : Line) → Memᴰ l (surplus sort m n) → (m ≡ n → ⊥) × (l ≡ of_counts)
  counts_told l i = ⊎_elim
      (λ (e : m ≡ n). absurd (mathlib.Core.List.Memᴰ.not-nil (subst (Memᴰ l) (surplus_none sort m n e) i)))
      (λ (d : m ≡ n → ⊥). (d, mathlib.Core.List.Memᴰ.eq_of_singleton (subst (Memᴰ l) (surplus_some sort m n d) i)))
      (same_or m n)

  pub tells_counts : (m ≡ n → ⊥) → Memᴰ of_counts (surplus sort m n)
  tells_counts d = subst (Memᴰ of_counts) (sym (surplus_some sort m n d)) (mathlib.Core.List.Memᴰ.head refl)

  pub counts_once : Once (surplus sort m n)
  counts_once = ⊎_elim
      (λ (e : m ≡ n). subst Once (sym (surplus_none sort m n e)) none)
      (λ (d : m ≡ n → ⊥). subst Once (sym (surplus_some sort m n d)) (once_one of_counts))
      (same_or m n)
