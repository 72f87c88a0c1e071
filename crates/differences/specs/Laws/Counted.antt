-- How many lines there are, a word more at a time; and the first point that differs, a point at a time. Assumes nothing.
use Rattle.std.specs.Prelude.{ℕ, zero, suc, ◌+◌, ◌-◌, ◌*◌, ◌/◌, ◌%◌, ◌<◌, ◌≤◌, min, ◌≡◌, refl, Bool, true, false, cond, List, [], ◌∷◌, ◌++◌, eqb, ltb, get_or}
use Rattle.std.specs.Prelude.{length}
use Rattle.words.specs.Prelude.{sym, ap, ◌∙◌}
use Rattle.words.specs.Prelude.{append_assoc, append-nil, add-zero, add-suc, le_trans, le_of_eq, add-one, arith, eq-eqb, ne_eqb, lt-ltb, le-ltb}
use Rattle.words.specs.Prelude.{length-append}
use Rattle.words.specs.{Limits.trade_words}
use Rattle.differences.specs.{Lines.Line, Lines.line, Lines.equity_at, Lines.first_point, Lines.equity_line, Lines.word_line, Lines.word_lines, Lines.surplus}
use Rattle.differences.specs.{Lines.points, Lines.trades, Lines.trade_word, Lines.differences_from}

-- ---- words

pub line_same : (a b : List ℕ) (k : ℕ) → get_or a k 0 ≡ get_or b k 0 → word_line a b k ≡ []
unfolding word_line
line_same a b k e = rw (eq-eqb (get_or a k 0) (get_or b k 0) e) refl

pub line_other : (a b : List ℕ) (k : ℕ) → (get_or a k 0 ≡ get_or b k 0 → ⊥)
    → word_line a b k ≡ line 2 (k / trade_words) (k % trade_words) (get_or a k 0) (get_or b k 0) ∷ []
unfolding word_line
line_other a b k d = rw (ne_eqb (get_or a k 0) (get_or b k 0) d) refl

-- word w of trade x is word 10 · x + w of the list

pub its_trade : (x w : ℕ) → w < 10 → x ≡ (10 * x + w) / 10
its_trade x w l = omega arith

pub its_word : (x w : ℕ) → w < 10 → w ≡ (10 * x + w) % 10
its_word x w l = omega arith

pub line_of : (a b : List ℕ) (x w : ℕ) → w < trade_words → (trade_word a x w ≡ trade_word b x w → ⊥)
    → word_line a b (trade_words * x + w) ≡ line 2 x w (trade_word a x w) (trade_word b x w) ∷ []
line_of a b x w h d =
    line_other a b (trade_words * x + w) d
    ∙ ap (λ (n : ℕ). line 2 n ((trade_words * x + w) % trade_words) (trade_word a x w) (trade_word b x w) ∷ []) (sym (its_trade x w h))
    ∙ ap (λ (n : ℕ). line 2 x n (trade_word a x w) (trade_word b x w) ∷ []) (sym (its_word x w h))

-- none or one
none_or_one : (t : Bool) (l : Line) → length (cond t [] (l ∷ [])) ≤ 1
none_or_one true l = omega arith
none_or_one false l = omega arith

line_most : (a b : List ℕ) (k : ℕ) → length (word_line a b k) ≤ 1
unfolding word_line
line_most a b k = none_or_one (eqb (get_or a k 0) (get_or b k 0)) _

pub lines_next : (a b : List ℕ) (k : ℕ) → length (word_lines a b (suc k)) ≡ length (word_lines a b k) + length (word_line a b k)
unfolding word_lines
lines_next a b k = length-append (word_lines a b k) (word_line a b k)

pub lines_most : (a b : List ℕ) (k : ℕ) → length (word_lines a b k) ≤ k
unfolding word_lines
lines_most a b zero = omega arith
lines_most a b (suc k) = omega (arith, lines_next a b k, lines_most a b k, line_most a b k)

rise : (a b : List ℕ) (k d : ℕ) → length (word_lines a b k) ≤ length (word_lines a b (k + d))
rise a b k zero = le_of_eq (ap (λ (n : ℕ). length (word_lines a b n)) (sym (add-zero k)))
rise a b k (suc d) =
    le_trans (rise a b k d) (le_trans (more _ _ _ (lines_next a b (k + d))) (le_of_eq (ap (λ (n : ℕ). length (word_lines a b n)) (sym (add-suc k d)))))
  where
    more : (x y z : ℕ) → x ≡ y + z → y ≤ x
    more x y z e = omega arith

-- the lines of fewer words are no more
lines_rise : (a b : List ℕ) (k n : ℕ) → k ≤ n → length (word_lines a b k) ≤ length (word_lines a b n)
lines_rise a b k n h = le_trans (rise a b k (n - k)) (le_of_eq (ap (λ (m : ℕ). length (word_lines a b m)) (back k n h)))
  where
    back : (x y : ℕ) → x ≤ y → x + (y - x) ≡ y
    back x y l = omega arith

-- ---- trade by trade

-- the lines of the first w words of trade x
unfoldable pub trade_lines : List ℕ → List ℕ → ℕ → ℕ → List Line
trade_lines a b x zero = []
trade_lines a b x (suc w) = trade_lines a b x w ++ word_line a b (trade_words * x + w)

module _ (a b : List ℕ) (x : ℕ) where
  pub trade_next : (w : ℕ) → length (trade_lines a b x (suc w)) ≡ length (trade_lines a b x w) + length (word_line a b (trade_words * x + w))
  unfolding trade_lines
  trade_next w = length-append (trade_lines a b x w) (word_line a b (trade_words * x + w))

  -- they follow those of the trades before it
  trade_on : (w : ℕ) → word_lines a b (trade_words * x + w) ≡ word_lines a b (trade_words * x) ++ trade_lines a b x w
  unfolding word_lines trade_lines
  trade_on zero = ap (word_lines a b) (add-zero (trade_words * x)) ∙ sym (append-nil (word_lines a b (trade_words * x)))
  trade_on (suc w) =
      let before = word_lines a b (trade_words * x) in
      let line = word_line a b (trade_words * x + w) in
      ap (word_lines a b) (add-suc (trade_words * x) w) ∙ ap (λ (ls : List Line). ls ++ line) (trade_on w) ∙ append_assoc before (trade_lines a b x w) line

  trade_length : (w : ℕ) → length (word_lines a b (trade_words * x + w)) ≡ length (word_lines a b (trade_words * x)) + length (trade_lines a b x w)
  trade_length w = ap length (trade_on w) ∙ length-append (word_lines a b (trade_words * x)) (trade_lines a b x w)

  -- a word that is one of the trade's has its line among theirs
  pub trade_rise : (w : ℕ) → w < trade_words → length (trade_lines a b x (suc w)) ≤ length (trade_lines a b x trade_words)
  trade_rise w h =
      less _ _ _ _ _ (trade_length (suc w)) (trade_length trade_words) (lines_rise a b (trade_words * x + suc w) (trade_words * x + trade_words) (within x w h))
    where
      within : (x w : ℕ) → w < 10 → 10 * x + suc w ≤ 10 * x + 10
      within x w h = omega arith

      less : (p q r y z : ℕ) → p ≡ r + y → q ≡ r + z → p ≤ q → y ≤ z
      less p q r y z e f h = omega arith

  -- all of a trade's, after those of the trades before it
  pub trades_next : word_lines a b (trade_words * (x + 1)) ≡ word_lines a b (trade_words * x) ++ trade_lines a b x trade_words
  trades_next = ap (word_lines a b) (whole x) ∙ trade_on trade_words
    where
      whole : (x : ℕ) → 10 * (x + 1) ≡ 10 * x + 10
      whole x = omega arith

  -- a trade that is one of n has its lines among theirs
  pub trades_rise : (n : ℕ) → x < n → length (word_lines a b (trade_words * (x + 1))) ≤ length (word_lines a b (trade_words * n))
  trades_rise n h = lines_rise a b (trade_words * (x + 1)) (trade_words * n) (one_of x n h)
    where
      one_of : (x n : ℕ) → x < n → 10 * (x + 1) ≤ 10 * n
      one_of x n h = omega arith

-- ---- points

module _ (a b : List ℕ) (k n : ℕ) (h : k < n) where
  left : n - k ≡ suc (n - suc k)
  left = omega arith

  pub point_same : equity_at a k ≡ equity_at b k → first_point a b k (n - k) ≡ first_point a b (k + 1) (n - (k + 1))
  unfolding first_point
  point_same e =
      ap (first_point a b k) left ∙ rw (eq-eqb (equity_at a k) (equity_at b k) e) refl
      ∙ ap (λ (j : ℕ). first_point a b j (n - j)) (sym (add-one k))

  pub point_other : (equity_at a k ≡ equity_at b k → ⊥) → first_point a b k (n - k) ≡ k
  unfolding first_point
  point_other d = ap (first_point a b k) left ∙ rw (ne_eqb (equity_at a k) (equity_at b k) d) refl

pub no_point : (a b : List ℕ) (k : ℕ) → first_point a b k 0 ≡ k
unfolding first_point
no_point a b k = refl

-- ---- counts

pub surplus_none : (sort m n : ℕ) → m ≡ n → surplus sort m n ≡ []
unfolding surplus
surplus_none sort m n e = rw (eq-eqb m n e) refl

pub surplus_some : (sort m n : ℕ) → (m ≡ n → ⊥) → surplus sort m n ≡ line sort (min m n) 0 m n ∷ []
unfolding surplus
surplus_some sort m n d = rw (ne_eqb m n d) refl

-- ---- the line of a point

pub equity_some : (a b : List ℕ) (k n : ℕ) → k < n → equity_line a b k n ≡ line 1 k 1 (equity_at a k) (equity_at b k) ∷ []
unfolding equity_line
equity_some a b k n h = rw (lt-ltb k n h) refl

pub equity_none : (a b : List ℕ) (k n : ℕ) → n ≤ k → equity_line a b k n ≡ []
unfolding equity_line
equity_none a b k n h = rw (le-ltb k n h) refl

pub equity_count : (a b : List ℕ) (k n : ℕ) → length (equity_line a b k n) ≡ cond (ltb k n) 1 0
unfolding equity_line
equity_count a b k n = go (ltb k n) _
  where
    go : (t : Bool) (l : Line) → length (cond t (l ∷ []) []) ≡ cond t 1 0
    go true l = refl
    go false l = refl

-- ---- all lines

-- the length of a surplus does not depend on its sort
pub surplus-length : (s u m n : ℕ) → length (surplus s m n) ≡ length (surplus u m n)
unfolding surplus
surplus-length s u m n = go (eqb m n) _ _
  where
    go : (t : Bool) (k l : Line) → length (cond t [] (k ∷ [])) ≡ length (cond t [] (l ∷ []))
    go true k l = refl
    go false k l = refl

-- a part that is told in one line at most

pub equity_most : (a b : List ℕ) (k n : ℕ) → length (equity_line a b k n) ≤ 1
unfolding equity_line
equity_most a b k n = go (ltb k n) _
  where
    go : (t : Bool) (l : Line) → length (cond t (l ∷ []) []) ≤ 1
    go true l = omega arith
    go false l = omega arith

pub surplus_most : (sort m n : ℕ) → length (surplus sort m n) ≤ 1
unfolding surplus
surplus_most sort m n = none_or_one (eqb m n) _

-- how many lines are not of words
unfoldable pub few_lines : List ℕ → List ℕ → List ℕ → List ℕ → ℕ → ℕ → ℕ
few_lines e t e' t' k shared =
    length (equity_line e e' k shared) + length (surplus 3 (trades t) (trades t')) + length (surplus 4 (points e) (points e'))

pub all_lines : (e t e' t' : List ℕ) (k shared n : ℕ)
    → length (differences_from e t e' t' k shared n) ≡ few_lines e t e' t' k shared + length (word_lines t t' n)
unfolding differences_from few_lines
all_lines e t e' t' k shared n =
    let ks = equity_line e e' k shared in
    let bs = word_lines t t' n in
    let cs = surplus 3 (trades t) (trades t') in
    let ds = surplus 4 (points e) (points e') in
    total (length ks) (length bs) (length cs) (length ds) _ _ _ (length-append ks bs) (length-append (ks ++ bs) cs) (length-append (ks ++ bs ++ cs) ds)
  where
    total : (a b c d x y z : ℕ) → x ≡ a + b → y ≡ x + c → z ≡ y + d → z ≡ a + c + d + b
    total a b c d x y z f g h = omega arith
