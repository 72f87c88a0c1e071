-- ALL THAT IS SO: the lines of the definition say what differs between the two runs, all of it and nothing else, no place twice. Assumes nothing.
use Rattle.std.specs.Prelude.{ℕ, ◌+◌, ◌*◌, ◌/◌, ◌%◌, ◌<◌, ◌≤◌, min, ◌≡◌, refl, List, ◌++◌, get_or}
use Rattle.words.specs.Prelude.{sym, ap, subst, ◌∙◌, List-as-Memᴰ, ⊎_elim, arith}
use Rattle.words.specs.{Limits.trade_words}
use Rattle.differences.specs.{Lines.Line, Lines.line, Lines.points, Lines.trades, Lines.equity_at, Lines.first_point, Lines.equity_line, Lines.word_lines}
use Rattle.differences.specs.{Lines.surplus, Lines.differences_from, Lines.differences, Truth.Says, Truth.equity, Truth.trade, Truth.more_trades}
use Rattle.differences.specs.{Truth.more_points, Truth.Once, Truth.AllAndOnly, Laws.First.before_equal, Laws.First.first_differs, Laws.First.first_is}
use Rattle.differences.specs.{Laws.Counted.its_trade, Laws.Counted.its_word, Laws.Told.once_both, Laws.Told.words_told, Laws.Told.tells_words}
use Rattle.differences.specs.{Laws.Told.words_once, Laws.Told.point_told, Laws.Told.tells_point, Laws.Told.point_once, Laws.Told.counts_told}
use Rattle.differences.specs.{Laws.Told.tells_counts, Laws.Told.counts_once}
use mathlib.Core.List.Memᴰ

-- ---- word k of a list of trades is word k % 10 of trade k / 10

pub at_place : (k : ℕ) → 10 * (k / 10) + k % 10 ≡ k
at_place k = omega arith

pub its_place : (k n : ℕ) → k < 10 * n → k / 10 < n
its_place k n h = omega arith

place_of : (i w n : ℕ) → i < n → w < 10 → 10 * i + w < 10 * n
place_of i w n h l = omega arith

pub within : (k : ℕ) → k % 10 < 10
within k = omega arith

module _ (e t e' t' : List ℕ) where
  abbrev shared : ℕ
  shared = min (points e) (points e')

  abbrev k : ℕ
  k = first_point e e' 0 shared

  abbrev n : ℕ
  n = trade_words * min (trades t) (trades t')

  abbrev of_equity : List Line
  of_equity = equity_line e e' k shared

  abbrev of_words : List Line
  of_words = word_lines t t' n

  abbrev of_trades : List Line
  of_trades = surplus 3 (trades t) (trades t')

  abbrev of_points : List Line
  of_points = surplus 4 (points e) (points e')

  parts : differences e t e' t' ≡ of_equity ++ of_words ++ of_trades ++ of_points
  unfolding differences differences_from
  parts = refl

  -- ---- only what is so

  point_so : (l : Line) → List-as-Memᴰ l of_equity → Says e t e' t' l
  point_so l m =
      let told = point_told e e' k shared l m in
      equity k told.0 (first_differs e e' shared 0 (from_zero k shared told.0)) (λ j h. before_equal e e' shared 0 j (least j) h) told.1
    where
      from_zero : (x y : ℕ) → x < y → x < 0 + y
      from_zero x y h = omega arith

      least : (j : ℕ) → 0 ≤ j
      least j = omega arith

  word_so : (l : Line) → List-as-Memᴰ l of_words → Says e t e' t' l
  word_so l m =
      let told = words_told t t' n l m in
      let i = told.k in
      trade (i / 10) (i % 10) (its_place i (min (trades t) (trades t')) told.below) (within i)
      (λ s. told.apart (ap (λ (z : ℕ). get_or t z 0) (sym (at_place i)) ∙ s ∙ ap (λ (z : ℕ). get_or t' z 0) (at_place i)))
      (told.is ∙ ap (λ (z : ℕ). line 2 (i / 10) (i % 10) (get_or t z 0) (get_or t' z 0)) (sym (at_place i)))

  trades_so : (l : Line) → List-as-Memᴰ l of_trades → Says e t e' t' l
  trades_so l m = let told = counts_told 3 (trades t) (trades t') l m in more_trades told.0 told.1

  points_so : (l : Line) → List-as-Memᴰ l of_points → Says e t e' t' l
  points_so l m = let told = counts_told 4 (points e) (points e') l m in more_points told.0 told.1

  only_so : (l : Line) → List-as-Memᴰ l (of_equity ++ of_words ++ of_trades ++ of_points) → Says e t e' t' l
  only_so l m = ⊎_elim
      (λ (x : List-as-Memᴰ l (of_equity ++ of_words ++ of_trades)). ⊎_elim
      (λ (y : List-as-Memᴰ l (of_equity ++ of_words)). ⊎_elim
      (λ (z : List-as-Memᴰ l of_equity). point_so l z) (λ (z : List-as-Memᴰ l of_words). word_so l z) (Memᴰ.append_cases of_equity y))
      (λ (y : List-as-Memᴰ l of_trades). trades_so l y) (Memᴰ.append_cases (of_equity ++ of_words) x))
      (λ (x : List-as-Memᴰ l of_points). points_so l x) (Memᴰ.append_cases (of_equity ++ of_words ++ of_trades) m)

  -- ---- all that is so

  all_so : (l : Line) → Says e t e' t' l → List-as-Memᴰ l (of_equity ++ of_words ++ of_trades ++ of_points)
  all_so l (equity i h d u is) =
      let found : k ≡ i = first_is e e' shared 0 i (omega arith) (omega arith) d (λ j p q. u j q) in
      Memᴰ.append_left of_points (Memᴰ.append_left of_trades (Memᴰ.append_left of_words
      (Memᴰ.cast (is ∙ ap (λ (z : ℕ). line 1 z 1 (equity_at e z) (equity_at e' z)) (sym found))
      (tells_point e e' k shared (subst (λ (z : ℕ). z < shared) (sym found) h)))))
  all_so l (trade i w h b d is) =
      let j = 10 * i + w in
      Memᴰ.append_left of_points (Memᴰ.append_left of_trades (Memᴰ.append_right of_equity
      (Memᴰ.cast (is ∙ ap (λ (z : ℕ). line 2 z w (get_or t j 0) (get_or t' j 0)) (its_trade i w b)
      ∙ ap (λ (z : ℕ). line 2 (j / 10) z (get_or t j 0) (get_or t' j 0)) (its_word i w b))
      (tells_words t t' n j (place_of i w (min (trades t) (trades t')) h b) d))))
  all_so l (more_trades d is) = Memᴰ.append_left of_points (Memᴰ.append_right (of_equity ++ of_words) (Memᴰ.cast is (tells_counts 3 (trades t) (trades t') d)))
  all_so l (more_points d is) = Memᴰ.append_right (of_equity ++ of_words ++ of_trades) (Memᴰ.cast is (tells_counts 4 (points e) (points e') d))

  -- ---- no place twice: each part has its own sort

  sort_equity : (l : Line) → List-as-Memᴰ l of_equity → l.sort ≡ 1
  sort_equity l m = ap (λ (z : Line). z.sort) (point_told e e' k shared l m).1

  sort_words : (l : Line) → List-as-Memᴰ l of_words → l.sort ≡ 2
  sort_words l m = ap (λ (z : Line). z.sort) (words_told t t' n l m).is

  sort_trades : (l : Line) → List-as-Memᴰ l of_trades → l.sort ≡ 3
  sort_trades l m = ap (λ (z : Line). z.sort) (counts_told 3 (trades t) (trades t') l m).1

  sort_points : (l : Line) → List-as-Memᴰ l of_points → l.sort ≡ 4
  sort_points l m = ap (λ (z : Line). z.sort) (counts_told 4 (points e) (points e') l m).1

  sort_two : (l : Line) → List-as-Memᴰ l (of_equity ++ of_words) → l.sort ≤ 2
  sort_two l m = ⊎_elim (λ (x : List-as-Memᴰ l of_equity). omega (arith, sort_equity l x)) (λ (x : List-as-Memᴰ l of_words). omega (arith, sort_words l x))
      (Memᴰ.append_cases of_equity m)

  sort_three : (l : Line) → List-as-Memᴰ l (of_equity ++ of_words ++ of_trades) → l.sort ≤ 3
  sort_three l m = ⊎_elim (λ (x : List-as-Memᴰ l (of_equity ++ of_words)). omega (arith, sort_two l x))
      (λ (x : List-as-Memᴰ l of_trades). omega (arith, sort_trades l x))
      (Memᴰ.append_cases (of_equity ++ of_words) m)

  once_so : Once (of_equity ++ of_words ++ of_trades ++ of_points)
  once_so =
      once_both
      (once_both
      (once_both (point_once e e' k shared) (words_once t t' n) (λ i l x y s. absurd (omega (arith, sort_equity i x, sort_words l y, s.sort))))
      (counts_once 3 (trades t) (trades t')) (λ i l x y s. absurd (omega (arith, sort_two i x, sort_trades l y, s.sort))))
      (counts_once 4 (points e) (points e')) (λ i l x y s. absurd (omega (arith, sort_three i x, sort_points l y, s.sort)))

  pub lines_so : AllAndOnly e t e' t' (differences e t e' t')
  lines_so = subst (AllAndOnly e t e' t') (sym parts) (record { only = only_so; all = all_so; once = once_so })
