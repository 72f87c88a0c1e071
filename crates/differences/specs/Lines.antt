-- What differs between two runs, as lines. Definitions only.
use Rattle.std.specs.Prelude.{ℕ, zero, suc, ◌+◌, ◌*◌, ◌/◌, ◌%◌, min, cond, List, [], ◌∷◌, ◌++◌, eqb, ltb, get_or, length}
use Rattle.words.specs.{Limits.point_words, Limits.trade_words}

-- decided: a line is five words: its sort, a number, a word, the first run's and the second run's
pub record Line : Type 0 where
  pub sort : ℕ
  pub number : ℕ
  pub word : ℕ
  pub first : ℕ
  pub second : ℕ

abbrev pub line : ℕ → ℕ → ℕ → ℕ → ℕ → Line
line sort number word first second = record { sort = sort; number = number; word = word; first = first; second = second }

abbrev pub line_words : ℕ
line_words = 5

-- ---- records of a list

abbrev pub points : List ℕ → ℕ
points equity = length equity / point_words

abbrev pub trades : List ℕ → ℕ
trades list = length list / trade_words

-- the equity of point k: its second word, the first is its time
abbrev pub equity_at : List ℕ → ℕ → ℕ
equity_at equity k = get_or equity (point_words * k + 1) 0

-- word w of trade x
abbrev pub trade_word : List ℕ → ℕ → ℕ → ℕ
trade_word list x w = get_or list (trade_words * x + w) 0

-- ---- sort 1: "the first bar whose equity bits differ"

-- the first of n points from k on whose equity differs, or k + n
unfoldable pub first_point : List ℕ → List ℕ → ℕ → ℕ → ℕ
first_point a b k zero = k
first_point a b k (suc n) = cond (eqb (equity_at a k) (equity_at b k)) (first_point a b (suc k) n) k

-- a line where it is one of the n points
unfoldable pub equity_line : List ℕ → List ℕ → ℕ → ℕ → List Line
equity_line a b k n = cond (ltb k n) (line 1 k 1 (equity_at a k) (equity_at b k) ∷ []) []

-- ---- sort 2: "every trade number whose words differ with the words that do"

-- the line of word k of two lists of trades, where it differs
unfoldable pub word_line : List ℕ → List ℕ → ℕ → List Line
word_line a b k = cond (eqb (get_or a k 0) (get_or b k 0)) [] (line 2 (k / trade_words) (k % trade_words) (get_or a k 0) (get_or b k 0) ∷ [])

-- those of the first n words
unfoldable pub word_lines : List ℕ → List ℕ → ℕ → List Line
word_lines a b zero = []
word_lines a b (suc n) = word_lines a b n ++ word_line a b n

-- ---- sorts 3 and 4: "the surplus of the longer trade list and of the longer equity list"

-- where the counts differ: from which record on, and how many each has
unfoldable pub surplus : ℕ → ℕ → ℕ → List Line
surplus sort m n = cond (eqb m n) [] (line sort (min m n) 0 m n ∷ [])

-- ---- all of them, in the request's order

-- where k is the first of `shared` points that differs, and n words of the trades are compared
unfoldable pub differences_from : List ℕ → List ℕ → List ℕ → List ℕ → ℕ → ℕ → ℕ → List Line
differences_from equity list otherEquity otherList k shared n =
    equity_line equity otherEquity k shared
    ++ word_lines list otherList n
    ++ surplus 3 (trades list) (trades otherList)
    ++ surplus 4 (points equity) (points otherEquity)

-- "a shorter list is compared as far as it goes" (decided)
unfoldable pub differences : List ℕ → List ℕ → List ℕ → List ℕ → List Line
differences equity list otherEquity otherList =
    let shared = min (points equity) (points otherEquity) in
    differences_from equity list otherEquity otherList (first_point equity otherEquity 0 shared) shared (trade_words * min (trades list) (trades otherList))

-- their words, one line after another
unfoldable pub words_of : List Line → List ℕ
words_of [] = []
words_of (l ∷ ls) = (l.sort ∷ l.number ∷ l.word ∷ l.first ∷ l.second ∷ []) ++ words_of ls
