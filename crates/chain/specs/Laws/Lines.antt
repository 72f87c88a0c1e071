-- Lines written one after the other are the words of the lines, and what stood past them. Assumes nothing.
use Rattle.std.specs.Prelude.{ℕ, suc, ◌+◌, ◌*◌, ◌≤◌, ◌≡◌, refl, List, [], ◌∷◌, ◌++◌, length, take, drop}
use Rattle.words.specs.Prelude.{sym, ap, ◌∙◌, append_assoc, append-nil, arith}
use Rattle.words.specs.Prelude.{length-append, length-take, length-drop, take-append-drop, take_at, drop_at, drop-drop}
use Rattle.words.specs.{Words.overwrite, Laws.Overwrite.overwrite_fits}
use Rattle.chain.specs.{Chain.ChainLine, Lines.line_from, Lines.line_words, Lines.chain_words, Lines.put_lines}

line_long : (l : ChainLine) → length (line_words l) ≡ 8
unfolding line_words line_from
line_long l = refl

-- one line, and then those after it
one_put : (list w : List ℕ) (at m : ℕ) (rest : List ℕ) → length w ≡ 8 → 8 * at + 8 ≤ length list
    → take (8 * (at + 1)) (overwrite list (8 * at) w) ++ rest ++ drop (8 * (at + 1 + m)) (overwrite list (8 * at) w)
    ≡ take (8 * at) list ++ (w ++ rest) ++ drop (8 * (at + 1 + m)) list
one_put list w at m rest eight fits =
    let before = take (8 * at) list in
    let long : length before ≡ 8 * at = length-take (8 * at) list ∙ omega arith in
    let own : length (before ++ w) ≡ 8 * (at + 1) = length-append before w ∙ omega arith in
    let next : 8 * at + length w ≡ 8 * (at + 1) = omega arith in
    let wrote : overwrite list (8 * at) w ≡ before ++ w ++ drop (8 * (at + 1)) list =
    overwrite_fits list (8 * at) w (omega arith) ∙ ap (λ (k : ℕ). before ++ w ++ drop k list) next in
    let first : take (8 * (at + 1)) (before ++ w ++ drop (8 * (at + 1)) list) ≡ before ++ w =
    take_at (before ++ w) (drop (8 * (at + 1)) list) (8 * (at + 1)) own in
    let past : 8 * (at + 1 + m) ≡ 8 * (at + 1) + 8 * m = omega arith in
    let last : drop (8 * (at + 1 + m)) (before ++ w ++ drop (8 * (at + 1)) list) ≡ drop (8 * (at + 1 + m)) list =
    ap (λ (k : ℕ). drop k (before ++ w ++ drop (8 * (at + 1)) list)) past
    ∙ sym (drop-drop (8 * m) (8 * (at + 1)) (before ++ w ++ drop (8 * (at + 1)) list))
    ∙ ap (drop (8 * m)) (drop_at (before ++ w) (drop (8 * (at + 1)) list) (8 * (at + 1)) own)
    ∙ drop-drop (8 * m) (8 * (at + 1)) list
    ∙ ap (λ (k : ℕ). drop k list) (sym past) in
    rw (wrote, first, last, append_assoc before w rest)

overwritten_long : (list w : List ℕ) (at : ℕ) → length w ≡ 8 → 8 * at + 8 ≤ length list → length (overwrite list (8 * at) w) ≡ length list
overwritten_long list w at eight fits =
    let wrote = overwrite_fits list (8 * at) w (omega arith) in
    ap length wrote ∙ simp (length-append, length-take, length-drop) (omega arith)

-- LINES PUT one after the other, from line `at` on, where the list has that many.
pub lines_put : (ls : List ChainLine) (list : List ℕ) (at : ℕ) → 8 * (at + length ls) ≤ length list
    → put_lines list at ls ≡ take (8 * at) list ++ chain_words ls ++ drop (8 * (at + length ls)) list
unfolding put_lines chain_words
lines_put [] list at fits =
    let same : at + 0 ≡ at = omega arith in
    rw (same, append-nil (take (8 * at) list)) (sym (take-append-drop (8 * at) list))
lines_put (l ∷ ls) list at fits =
    let w = line_words l in
    let places : at + 1 + length ls ≡ at + suc (length ls) = omega arith in
    lines_put ls (overwrite list (8 * at) w) (at + 1) (omega (arith, overwritten_long list w at (line_long l) (omega arith)))
    ∙ one_put list w at (length ls) (chain_words ls) (line_long l) (omega arith)
    ∙ ap (λ (k : ℕ). take (8 * at) list ++ (w ++ chain_words ls) ++ drop (8 * k) list) places
