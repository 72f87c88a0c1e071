-- READ BACK: lines that were written into a room are read there as they were, and past them the room is as it was. Assumes nothing.
use Rattle.std.specs.Prelude.{ℕ, ◌+◌, ◌*◌, ◌≤◌, ◌≡◌, refl, List, [], ◌∷◌, ◌++◌, length, drop}
use Rattle.words.specs.Prelude.{sym, ap, subst, ◌∙◌, zero-add, drop_at}
use Rattle.words.specs.{Words.overwrite, Laws.Overwrite.overwrite_fits}
use Rattle.differences.specs.{Lines.Line, Lines.words_of, Lines.line_words, Truth.lines_in, Laws.Written.words_length}

read_back : (ls : List Line) (rest : List ℕ) → lines_in (length ls) (words_of ls ++ rest) ≡ ls
unfolding lines_in words_of
read_back [] rest = refl
read_back (l ∷ ls) rest = ap (λ (ks : List Line). l ∷ ks) (read_back ls rest)

module _ (room : List ℕ) (ls : List Line) (fits : line_words * length ls ≤ length room) where
  at_start : overwrite room 0 (words_of ls) ≡ words_of ls ++ drop (line_words * length ls) room
  at_start =
      let many : 0 + length (words_of ls) ≡ line_words * length ls = zero-add (length (words_of ls)) ∙ words_length ls in
      overwrite_fits room 0 (words_of ls) (subst (λ (n : ℕ). n ≤ length room) (sym many) fits) ∙ ap (λ (n : ℕ). words_of ls ++ drop n room) many

  pub lines_back : lines_in (length ls) (overwrite room 0 (words_of ls)) ≡ ls
  lines_back = ap (lines_in (length ls)) at_start ∙ read_back ls (drop (line_words * length ls) room)

  pub rest_kept : drop (line_words * length ls) (overwrite room 0 (words_of ls)) ≡ drop (line_words * length ls) room
  rest_kept = ap (drop (line_words * length ls)) at_start ∙ drop_at (words_of ls) (drop (line_words * length ls) room) (line_words * length ls) (words_length ls)
