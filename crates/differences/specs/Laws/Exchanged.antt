-- THE RUNS EXCHANGED: the same lines, with the two runs' words exchanged. Assumes nothing.
use Rattle.std.specs.Prelude.{ℕ, zero, suc, ◌*◌, ◌<◌, ◌≤◌, min, ◌≡◌, refl, List, [], ◌∷◌, ◌++◌, map, get_or}
use Rattle.words.specs.Prelude.{sym, ap, ◌∙◌, ⊎_elim, arith}
use Rattle.words.specs.{Limits.trade_words}
use Rattle.differences.specs.{Lines.Line, Lines.line, Lines.points, Lines.trades, Lines.first_point, Lines.equity_line, Lines.word_line, Lines.word_lines}
use Rattle.differences.specs.{Lines.surplus, Lines.differences_from, Lines.differences, Truth.exchanged, Laws.Counted.line_same, Laws.Counted.line_other}
use Rattle.differences.specs.{Laws.Counted.equity_some, Laws.Counted.equity_none, Laws.Counted.surplus_none, Laws.Counted.surplus_some}
use Rattle.differences.specs.{Laws.First.same_or, Laws.First.first_exchanged, Laws.Told.below_or}
use Rattle.std.proofs.lemmas.List.{map-append}

either_way : (m n : ℕ) → min m n ≡ min n m
either_way m n = omega arith

point_exchanged : (a b : List ℕ) (k n : ℕ) → equity_line b a k n ≡ map exchanged (equity_line a b k n)
point_exchanged a b k n = ⊎_elim
    (λ (h : k < n). equity_some b a k n h ∙ sym (ap (map exchanged) (equity_some a b k n h)))
    (λ (h : n ≤ k). equity_none b a k n h ∙ sym (ap (map exchanged) (equity_none a b k n h)))
    (below_or k n)

word_exchanged : (a b : List ℕ) (k : ℕ) → word_line b a k ≡ map exchanged (word_line a b k)
word_exchanged a b k = ⊎_elim
    (λ (e : get_or a k 0 ≡ get_or b k 0). line_same b a k (sym e) ∙ sym (ap (map exchanged) (line_same a b k e)))
    (λ (d : get_or a k 0 ≡ get_or b k 0 → ⊥). line_other b a k (λ s. d (sym s)) ∙ sym (ap (map exchanged) (line_other a b k d)))
    (same_or (get_or a k 0) (get_or b k 0))

words_exchanged : (a b : List ℕ) (n : ℕ) → word_lines b a n ≡ map exchanged (word_lines a b n)
unfolding word_lines
words_exchanged a b zero = refl
words_exchanged a b (suc n) =
    ap (λ (x : List Line). x ++ word_line b a n) (words_exchanged a b n) ∙ ap (λ (x : List Line). map exchanged (word_lines a b n) ++ x) (word_exchanged a b n)
    ∙ sym (map-append exchanged (word_lines a b n) (word_line a b n))

counts_exchanged : (sort m n : ℕ) → surplus sort n m ≡ map exchanged (surplus sort m n)
counts_exchanged sort m n = ⊎_elim
    (λ (e : m ≡ n). surplus_none sort n m (sym e) ∙ sym (ap (map exchanged) (surplus_none sort m n e)))
    (λ (d : m ≡ n → ⊥). surplus_some sort n m (λ s. d (sym s)) ∙ ap (λ (z : ℕ). line sort z 0 n m ∷ []) (either_way n m)
    ∙ sym (ap (map exchanged) (surplus_some sort m n d)))
    (same_or m n)

-- four parts, each exchanged
four : (ks bs cs ds ws xs ys zs : List Line) → ws ≡ map exchanged ks → xs ≡ map exchanged bs → ys ≡ map exchanged cs → zs ≡ map exchanged ds
    → ws ++ xs ++ ys ++ zs ≡ map exchanged (ks ++ bs ++ cs ++ ds)
four ks bs cs ds ws xs ys zs p q r s =
    ap (λ (v : List Line). v ++ xs ++ ys ++ zs) p ∙ ap (λ (v : List Line). map exchanged ks ++ v ++ ys ++ zs) q
    ∙ ap (λ (v : List Line). map exchanged ks ++ map exchanged bs ++ v ++ zs) r
    ∙ ap (λ (v : List Line). map exchanged ks ++ map exchanged bs ++ map exchanged cs ++ v) s
    ∙ ap (λ (v : List Line). v ++ map exchanged cs ++ map exchanged ds) (sym (map-append exchanged ks bs))
    ∙ ap (λ (v : List Line). v ++ map exchanged ds) (sym (map-append exchanged (ks ++ bs) cs)) ∙ sym (map-append exchanged (ks ++ bs ++ cs) ds)

-- from whichever point and however many words
from_exchanged : (e t e' t' : List ℕ) (k shared n : ℕ)
    → differences_from e' t' e t k shared n ≡ map exchanged (differences_from e t e' t' k shared n)
unfolding differences_from
from_exchanged e t e' t' k shared n =
    four (equity_line e e' k shared) (word_lines t t' n) (surplus 3 (trades t) (trades t')) (surplus 4 (points e) (points e')) _ _ _ _
    (point_exchanged e e' k shared) (words_exchanged t t' n) (counts_exchanged 3 (trades t) (trades t')) (counts_exchanged 4 (points e) (points e'))

pub runs_exchanged : (e t e' t' : List ℕ) → differences e' t' e t ≡ map exchanged (differences e t e' t')
unfolding differences
runs_exchanged e t e' t' =
    let shared = min (points e) (points e') in
    let both = trade_words * min (trades t') (trades t) in
    ap (λ (z : ℕ). differences_from e' t' e t (first_point e' e 0 z) z both) (either_way (points e') (points e))
    ∙ ap (λ (z : ℕ). differences_from e' t' e t z shared both) (first_exchanged e e' shared 0)
    ∙ ap (λ (z : ℕ). differences_from e' t' e t (first_point e e' 0 shared) shared (trade_words * z)) (either_way (trades t') (trades t))
    ∙ from_exchanged e t e' t' (first_point e e' 0 shared) shared (trade_words * min (trades t) (trades t'))
