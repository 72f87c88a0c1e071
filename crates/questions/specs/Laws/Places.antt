-- The places of the questions: each has the lines of its own question, as a single question would leave them, and nothing else is touched.
use Rattle.std.specs.Prelude.{ℕ, zero, suc, ◌+◌, ◌-◌, ◌*◌, ◌<◌, ◌≤◌, ◌≡◌, refl, List, [], ◌∷◌, ◌++◌, length, take, drop, get_or}
use Rattle.words.specs.Prelude.{sym, ap, ◌∙◌, subst, ⊎_elim, append_assoc, arith}
use Rattle.words.specs.Prelude.{length-append, length-take-le, length-drop, take-add, take-append-drop, drop_at, drop-drop}
use Rattle.words.specs.Prelude.{drop-append-add, get_or_at, get_or-take, List·get_or-append}
use Rattle.words.specs.{Words.overwrite, Laws.Overwrite.overwrite_fits, Laws.Overwrite.overwrite-length, Laws.Numbers.less_or_not}
use Rattle.chain.specs.{Chain.ChainLine, Lines.line_from, Lines.line_words, Lines.chain_words, Lines.put_lines, Laws.Lines.lines_put}
use Rattle.questions.specs.{Over.place_words, Over.lines_over, Over.counts_over}
use Rattle.std.proofs.lemmas.List.{take-append-le, drop-append-le}
use Rattle.std.proofs.Math.Seq.{take-append-add}

-- a line is eight words
chain_long : (ls : List ChainLine) → length (chain_words ls) ≡ 8 * length ls
unfolding chain_words line_words line_from
chain_long [] = refl
chain_long (l ∷ ls) = omega (arith, chain_long ls)

-- ---- a write into a list, looked at by its parts
module _ (list : List ℕ) (at : ℕ) (w : List ℕ) (fits : at + length w ≤ length list) where
  own_end : length (take at list ++ w) ≡ at + length w
  own_end = length-append (take at list) w ∙ ap (λ (n : ℕ). n + length w) (length-take-le at list (omega arith))

  -- past it the list is as it was
  past_write : (m : ℕ) → drop (at + length w + m) (overwrite list at w) ≡ drop (at + length w + m) list
  past_write m =
      ap (drop (at + length w + m)) (overwrite_fits list at w fits)
      ∙ ap (λ (n : ℕ). drop (n + m) (take at list ++ w ++ drop (at + length w) list)) (sym own_end)
      ∙ drop-append-add (take at list ++ w) (drop (at + length w) list) m
      ∙ drop-drop m (at + length w) list

  -- and before it
  before_write : (m b : ℕ) → b + m ≤ at → take m (drop b (overwrite list at w)) ≡ take m (drop b list)
  before_write m b l =
      let front : length (take at list) ≡ at = length-take-le at list (omega arith) in
      let kept : (rest : List ℕ) → take m (drop b (take at list ++ rest)) ≡ take m (drop b (take at list)) =
      λ rest. ap (take m) (drop-append-le b (take at list) rest (omega arith))
      ∙ take-append-le m (drop b (take at list)) rest (omega (arith, length-drop b (take at list))) in
      ap (λ (x : List ℕ). take m (drop b x)) (overwrite_fits list at w fits ∙ append_assoc (take at list) w (drop (at + length w) list))
      ∙ kept (w ++ drop (at + length w) list)
      ∙ sym (kept (drop at list))
      ∙ ap (λ (x : List ℕ). take m (drop b x)) (take-append-drop at list)

  -- where it stands: its words, and then what stood there
  at_write : (m : ℕ) → take (length w + m) (drop at (overwrite list at w)) ≡ w ++ drop (length w) (take (length w + m) (drop at list))
  at_write m =
      let front : length (take at list) ≡ at = length-take-le at list (omega arith) in
      let long : length (take (length w) (drop at list)) ≡ length w = length-take-le (length w) (drop at list) (omega (arith, length-drop at list)) in
      ap (λ (x : List ℕ). take (length w + m) (drop at x))
      (overwrite_fits list at w fits ∙ append_assoc (take at list) w (drop (at + length w) list))
      ∙ ap (take (length w + m)) (drop_at (take at list) (w ++ drop (at + length w) list) at front)
      ∙ take-append-add w (drop (at + length w) list) m
      ∙ ap (λ (x : List ℕ). w ++ x) (ap (take m) (sym (drop-drop (length w) at list))
      ∙ sym (drop_at (take (length w) (drop at list)) (take m (drop (length w) (drop at list))) (length w) long)
      ∙ ap (drop (length w)) (sym (take-add (length w) m (drop at list))))

-- ---- the place of question i
unfoldable pub place : ℕ → List ℕ → List ℕ
place i lines = take place_words (drop (place_words * i) lines)

-- A place as it is written, as a part of the list: the lines from its beginning on, and what stood past them.
pub place_written : (ls : List ChainLine) → length ls ≤ 32 → (list : List ℕ) (at k : ℕ) → k ≡ place_words → at + place_words ≤ length list
    → (x : List ℕ) → x ≡ put_lines (take k (drop at list)) 0 ls → take at list ++ (x ++ drop k (drop at list)) ≡ overwrite list at (chain_words ls)
place_written ls short list at k wide fits x put =
    let tail : List ℕ = drop at list in
    let w : List ℕ = chain_words ls in
    let long : length w ≡ 8 * length ls = chain_long ls in
    let room : length (take k tail) ≡ k = length-take-le k tail (omega (arith, length-drop at list)) in
    let from : 8 * (0 + length ls) ≡ length w = omega arith in
    let written : x ≡ w ++ drop (length w) (take k tail) =
    put ∙ lines_put ls (take k tail) 0 (omega arith) ∙ ap (λ (n : ℕ). w ++ drop n (take k tail)) from in
    let rest : drop (length w) (take k tail) ++ drop k tail ≡ drop (at + length w) list =
    sym (drop-append-le (length w) (take k tail) (drop k tail) (omega arith))
    ∙ ap (drop (length w)) (take-append-drop k tail)
    ∙ drop-drop (length w) at list in
    ap (λ (y : List ℕ). take at list ++ (y ++ drop k tail)) written
    ∙ ap (λ (y : List ℕ). take at list ++ y) (append_assoc w (drop (length w) (take k tail)) (drop k tail))
    ∙ ap (λ (y : List ℕ). take at list ++ (w ++ y)) rest
    ∙ sym (append_assoc (take at list) w (drop (at + length w) list))
    ∙ sym (overwrite_fits list at w (omega arith))

-- the list keeps its length
pub lines_long : (each : ℕ → List ChainLine) (lines : List ℕ) (n : ℕ) → length (lines_over each n lines) ≡ length lines
unfolding lines_over
lines_long each lines zero = refl
lines_long each lines (suc n) = overwrite-length _ _ _ ∙ lines_long each lines n

module _ (each : ℕ → List ChainLine) (short : (i : ℕ) → length (each i) ≤ 32) (lines : List ℕ) where
  fits_done : (n : ℕ) → place_words * suc n ≤ length lines → place_words * n + length (chain_words (each n)) ≤ length (lines_over each n lines)
  fits_done n fits = omega (arith, lines_long each lines n, chain_long (each n), short n)

  -- WHAT STANDS PAST the places is as it was.
  pub past_places : (n : ℕ) → place_words * n ≤ length lines → drop (place_words * n) (lines_over each n lines) ≡ drop (place_words * n) lines
  unfolding lines_over
  past_places zero fits = refl
  past_places (suc n) fits =
      let w : List ℕ = chain_words (each n) in
      let done : List ℕ = lines_over each n lines in
      let m : ℕ = place_words - length w in
      let past : place_words * n + length w + m ≡ place_words * suc n = omega (arith, chain_long (each n), short n) in
      let next : place_words * n + place_words ≡ place_words * suc n = omega arith in
      ap (λ (k : ℕ). drop k (overwrite done (place_words * n) w)) (sym past)
      ∙ past_write done (place_words * n) w (fits_done n fits) m
      ∙ ap (λ (k : ℕ). drop k done) (past ∙ sym next)
      ∙ sym (drop-drop place_words (place_words * n) done)
      ∙ ap (drop place_words) (past_places n (omega arith))
      ∙ drop-drop place_words (place_words * n) lines
      ∙ ap (λ (k : ℕ). drop k lines) next

  -- the last place
  last_place : (n : ℕ) → place_words * suc n ≤ length lines
      → place n (lines_over each (suc n) lines) ≡ chain_words (each n) ++ drop (8 * length (each n)) (place n lines)
  unfolding lines_over place
  last_place n fits =
      let w : List ℕ = chain_words (each n) in
      let done : List ℕ = lines_over each n lines in
      let m : ℕ = place_words - length w in
      let whole : length w + m ≡ place_words = omega (arith, chain_long (each n), short n) in
      ap (λ (k : ℕ). take k (drop (place_words * n) (overwrite done (place_words * n) w))) (sym whole)
      ∙ at_write done (place_words * n) w (fits_done n fits) m
      ∙ ap (λ (k : ℕ). w ++ drop (length w) (take k (drop (place_words * n) done))) whole
      ∙ ap (λ (x : List ℕ). w ++ drop (length w) (take place_words x)) (past_places n (omega arith))
      ∙ ap (λ (k : ℕ). w ++ drop k (take place_words (drop (place_words * n) lines))) (chain_long (each n))

  -- an earlier one
  earlier_place : (n i : ℕ) → place_words * suc n ≤ length lines → i < n → place i (lines_over each (suc n) lines) ≡ place i (lines_over each n lines)
  unfolding lines_over place
  earlier_place n i fits l =
      before_write (lines_over each n lines) (place_words * n) (chain_words (each n)) (fits_done n fits) place_words (place_words * i) (omega arith)

  -- A PLACE: its question's lines, and what stood past them.
  pub place_after : (n : ℕ) → place_words * n ≤ length lines → (i : ℕ) → i < n
      → place i (lines_over each n lines) ≡ chain_words (each i) ++ drop (8 * length (each i)) (place i lines)
  place_after zero fits i l = absurd (omega arith)
  place_after (suc n) fits i l =
      ⊎_elim (λ below. earlier_place n i fits below ∙ place_after n (omega arith) i below)
      (λ last.
      let same : n ≡ i = omega arith in
      subst (λ (k : ℕ). place k (lines_over each (suc n) lines) ≡ chain_words (each k) ++ drop (8 * length (each k)) (place k lines)) same (last_place n fits))
      (less_or_not i n)

-- ---- the counts
count_same : (list : List ℕ) (at x : ℕ) → at < length list → get_or (overwrite list at (x ∷ [])) at 0 ≡ x
count_same list at x l =
    ap (λ (y : List ℕ). get_or y at 0) (overwrite_fits list at (x ∷ []) (omega arith) ∙ append_assoc (take at list) (x ∷ []) (drop (at + 1) list))
    ∙ get_or_at (take at list) x (drop (at + 1) list) 0 at (length-take-le at list (omega arith))

count_other : (list : List ℕ) (at x i : ℕ) → at < length list → i < at → get_or (overwrite list at (x ∷ [])) i 0 ≡ get_or list i 0
count_other list at x i l k =
    let front : length (take at list) ≡ at = length-take-le at list (omega arith) in
    ap (λ (y : List ℕ). get_or y i 0) (overwrite_fits list at (x ∷ []) (omega arith) ∙ append_assoc (take at list) (x ∷ []) (drop (at + 1) list))
    ∙ List·get_or-append (take at list) (x ∷ drop (at + 1) list) 0 i (omega arith)
    ∙ get_or-take at list i 0 k

module _ (each : ℕ → List ChainLine) (counts : List ℕ) where
  pub counts_long : (n : ℕ) → length (counts_over each n counts) ≡ length counts
  unfolding counts_over
  counts_long zero = refl
  counts_long (suc n) = overwrite-length _ _ _ ∙ counts_long n

  -- A COUNT: how many lines its question has.
  pub count_after : (n : ℕ) → n ≤ length counts → (i : ℕ) → i < n → get_or (counts_over each n counts) i 0 ≡ length (each i)
  unfolding counts_over
  count_after zero fits i l = absurd (omega arith)
  count_after (suc n) fits i l =
      ⊎_elim (λ below. count_other (counts_over each n counts) n (length (each n)) i (omega (arith, counts_long n)) below ∙ count_after n (omega arith) i below)
      (λ last.
      let same : n ≡ i = omega arith in
      subst (λ (k : ℕ). get_or (overwrite (counts_over each n counts) n (length (each n) ∷ [])) k 0 ≡ length (each k)) same
      (count_same (counts_over each n counts) n (length (each n)) (omega (arith, counts_long n))))
      (less_or_not i n)

  -- WHAT STANDS PAST the counts is as it was.
  pub past_counts : (n : ℕ) → n ≤ length counts → drop n (counts_over each n counts) ≡ drop n counts
  unfolding counts_over
  past_counts zero fits = refl
  past_counts (suc n) fits =
      let done : List ℕ = counts_over each n counts in
      let past : n + 1 + 0 ≡ suc n = omega arith in
      let next : n + 1 ≡ suc n = omega arith in
      ap (λ (k : ℕ). drop k (overwrite done n (length (each n) ∷ []))) (sym past)
      ∙ past_write done n (length (each n) ∷ []) (omega (arith, counts_long n)) 0
      ∙ ap (λ (k : ℕ). drop k done) (past ∙ sym next)
      ∙ sym (drop-drop 1 n done)
      ∙ ap (drop 1) (past_counts n (omega arith))
      ∙ drop-drop 1 n counts
      ∙ ap (λ (k : ℕ). drop k counts) next
