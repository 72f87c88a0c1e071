-- The words of a record, written part by part. Assumes nothing.
use Rattle.words.specs.Prelude.{◌≡◌, ap, ◌∙◌, List, [], ◌∷◌, ◌++◌, append-nil, ℕ, ◌+◌, ◌≤◌, arith, length, drop, set, replicate}
use Rattle.words.specs.Prelude.{length-append, length-drop, length-take-le, take_at, drop-append-add, set_at}
use Rattle.words.specs.{Words.overwrite, Laws.Overwrite.overwrite_fits}
use Rattle.totals.specs.{Exact.sum_size, Totals.total_words, Totals.sum_words}

-- counts, sum and float over 43 zeros
pub filled : (c s : List ℕ) (f : ℕ) → length c ≡ 8 → length s ≡ 34
    → set (overwrite (overwrite (replicate 43 0) 0 c) 8 s) 42 f ≡ c ++ s ++ (f ∷ [])
filled c s f p q =
    ap (λ (l : List ℕ). set (overwrite l 8 s) 42 f) one ∙ ap (λ (l : List ℕ). set l 42 f) two ∙ set_at (c ++ s) 0 [] f 42 all
  where
    all : length (c ++ s) ≡ 42
    all = length-append c s ∙ omega arith

    one : overwrite (replicate 43 0) 0 c ≡ c ++ replicate 35 0
    one =
        let n : 0 + length c ≡ 8 = omega arith in
        overwrite_fits (replicate 43 0) 0 c (omega arith) ∙ ap (λ (k : ℕ). c ++ drop k (replicate 43 0)) n

    two : overwrite (c ++ replicate 35 0) 8 s ≡ c ++ s ++ (0 ∷ [])
    two =
        let room : length (c ++ replicate 35 0) ≡ length c + 35 = length-append c (replicate 35 0) in
        let n : 8 + length s ≡ length c + 34 = omega arith in
        overwrite_fits (c ++ replicate 35 0) 8 s (omega arith)
        ∙ ap (λ (l : List ℕ). l ++ s ++ drop (8 + length s) (c ++ replicate 35 0)) (take_at c (replicate 35 0) 8 p)
        ∙ ap (λ (k : ℕ). c ++ s ++ drop k (c ++ replicate 35 0)) n
        ∙ ap (λ (l : List ℕ). c ++ s ++ l) (drop-append-add c (replicate 35 0) 34)

-- 34 words over 34 zeros
pub copied : (w : List ℕ) → length w ≡ 34 → overwrite (replicate 34 0) 0 w ≡ w
copied w e =
    let n : 0 + length w ≡ 34 = omega arith in
    overwrite_fits (replicate 34 0) 0 w (omega arith) ∙ ap (λ (k : ℕ). w ++ drop k (replicate 34 0)) n ∙ append-nil w

-- the sum in totals is of 34 words
pub sum_long : (totals : List ℕ) → total_words ≤ length totals → length (sum_words totals) ≡ sum_size
unfolding sum_words
sum_long totals h = length-take-le 34 (drop 8 totals) (omega (arith, length-drop 8 totals, h))
