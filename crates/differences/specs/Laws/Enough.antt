-- ENOUGH: a room of five words for each word of a trade that both have, and fifteen more, holds the lines of any two runs. Assumes nothing.
use Rattle.std.specs.Prelude.{ℕ, ◌+◌, ◌*◌, ◌≤◌, min, ◌≡◌, true, List, length, Ok}
use Rattle.words.specs.Prelude.{le-leb, arith}
use Rattle.words.specs.{Limits.trade_words, Words.overwrite}
use Rattle.differences.specs.{Lines.points, Lines.trades, Lines.first_point}
use Rattle.differences.specs.{Lines.differences, Lines.line_words, Lines.words_of, Compared.whole, Compared.written, Compared.compared}
use Rattle.differences.specs.{Truth.enough_words, Laws.Counted.few_lines, Laws.Counted.all_lines, Laws.Counted.lines_most, Laws.Counted.equity_most}
use Rattle.differences.specs.{Laws.Counted.surplus_most}

module _ (e t e' t' : List ℕ) where
  few_most : (k shared : ℕ) → few_lines e t e' t' k shared ≤ 3
  unfolding few_lines
  few_most k shared = omega (arith, equity_most e e' k shared, surplus_most 3 (trades t) (trades t'), surplus_most 4 (points e) (points e'))

  -- at most a line for each word of a trade that both have, and three more
  pub differences_most : length (differences e t e' t') ≤ trade_words * min (trades t) (trades t') + 3
  unfolding differences
  differences_most =
      let shared = min (points e) (points e') in
      let k = first_point e e' 0 shared in
      let n = trade_words * min (trades t) (trades t') in
      most n _ _ _ (all_lines e t e' t' k shared n) (few_most k shared) (lines_most t t' n)
    where
      most : (n few words all : ℕ) → all ≡ few + words → few ≤ 3 → words ≤ n → all ≤ n + 3
      most n few words all e f w = omega arith

  -- ENOUGH. Of lists of whole records the lines are written.
  pub always_written : (room : List ℕ) → whole e t ≡ true → whole e' t' ≡ true → enough_words (min (trades t) (trades t')) ≤ length room
      → compared e t e' t' room
      ≡ record { answer = Ok (length (differences e t e' t')); room = overwrite room 0 (words_of (differences e t e' t')) }
  unfolding compared written
  always_written room h i l =
      simp (h, i, le-leb (line_words * length (differences e t e' t')) (length room) (holds _ _ _ differences_most l))
    where
      holds : (n m r : ℕ) → n ≤ 10 * m + 3 → 5 * (10 * m + 3) ≤ r → 5 * n ≤ r
      holds n m r most l = omega arith
