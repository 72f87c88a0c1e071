-- What the comparison answers and leaves, from what was counted: one law for each way out.
use Rattle.std.specs.Prelude.{Ok, Result, ℕ}
use Rattle.std.specs.Prelude.{Err}
use Rattle.words.specs.Prelude.{ℕ, ◌+◌, ◌*◌, ◌≤◌, min, ◌≡◌, sym, ap, ◌∙◌, true, false, List, arith, leb-true, leb, length}
use Rattle.words.specs.{Limits.trade_words, Words.overwrite}
use Rattle.differences.specs.{Lines.Line, Lines.points, Lines.trades}
use Rattle.differences.specs.{Lines.first_point, Lines.word_lines, Lines.differences_from, Lines.differences, Lines.words_of, Compared.Comparison}
use Rattle.differences.specs.{Compared.written, Laws.Counted.few_lines, Laws.Counted.all_lines}
use Rattle.differences.specs.{Laws.Written.none_written, Laws.Written.no_lines}
use Rattle.words.specs.{declared.refusal.Refusal.Refusal}

abbrev told : ℕ → List ℕ → Comparison
told n room = record { answer = Ok n; room = room }

-- what the code counts before it writes a line: points and trades that both have, the first point apart, the lines of one word each, and the words apart
pub record Counted (e t e' t' : List ℕ) (p n k few words : ℕ) : Type 0 where
  pub shared : p ≡ min (points e) (points e')
  pub short : n ≡ min (trades t) (trades t')
  pub first : k ≡ first_point e e' 0 p
  pub other : few ≡ few_lines e t e' t' k p
  pub apart : words ≡ length (word_lines t t' (trade_words * n))

module _ {e t e' t' : List ℕ} {p n k few words : ℕ} (got : Counted e t e' t' p n k few words) (room : List ℕ) where
  same : differences e t e' t' ≡ differences_from e t e' t' k p (trade_words * n)
  unfolding differences
  same = rw (← got.shared, ← got.short, ← got.first)

  many : length (differences_from e t e' t' k p (trade_words * n)) ≡ few + words
  many = all_lines e t e' t' k p (trade_words * n) ∙ rw (← got.other, ← got.apart)

  count : length (differences e t e' t') ≡ few + words
  count = ap length same ∙ many

  pub refuses : leb (5 * (few + words)) (length room) ≡ false → (r : Result ℕ Refusal) → r ≡ Err (Refusal.Room 15)
      → written (differences e t e' t') room ≡ record { answer = r; room = room }
  unfolding written
  refuses h r said = simp (count, h, said)

  module _ (h : leb (5 * (few + words)) (length room) ≡ true) where
    pub lines_fit : 5 * (few + words) ≤ length room
    lines_fit = leb-true (5 * (few + words)) (length room) h

    pub all_fit : 5 * length (differences_from e t e' t' k p (trade_words * n)) ≤ length room
    all_fit = omega (arith, many, lines_fit)

    pub writes : (after : List ℕ) → after ≡ overwrite room 0 (words_of (differences_from e t e' t' k p (trade_words * n)))
        → written (differences e t e' t') room ≡ told (few + words) after
    unfolding written
    writes after w = simp (many, h, same, w)

    pub nothing : few + words ≡ 0 → written (differences e t e' t') room ≡ told 0 room
    nothing z =
        let kept : room ≡ overwrite room 0 (words_of (differences_from e t e' t' k p (trade_words * n))) =
        sym (ap (λ (ls : List Line). overwrite room 0 (words_of ls)) (no_lines _ (many ∙ z)) ∙ none_written room 0 (omega arith)) in
        writes room kept ∙ ap (λ (m : ℕ). told m room) z
