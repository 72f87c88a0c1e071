-- What may be said of two runs, and what a list of lines must be to say all of it and nothing else. Definitions only.
use Rattle.std.specs.Prelude.{ℕ, zero, suc, ◌+◌, ◌*◌, ◌<◌, ◌≤◌, min, ◌≡◌, List, [], ◌∷◌, drop, get_or, length}
use Rattle.words.specs.Prelude.{List-as-Memᴰ}
use Rattle.words.specs.{Limits.trade_words}
use Rattle.differences.specs.{Lines.Line, Lines.line, Lines.points, Lines.trades, Lines.equity_at, Lines.trade_word, Lines.line_words}

-- the lines that are true of two runs
pub data Says (e t e' t' : List ℕ) (l : Line) : Type 0 where
  -- "the first bar whose equity bits differ": a point that both have, and all before it are equal
  equity : (k : ℕ) → k < min (points e) (points e') → (equity_at e k ≡ equity_at e' k → ⊥) → ((j : ℕ) → j < k → equity_at e j ≡ equity_at e' j)
      → l ≡ line 1 k 1 (equity_at e k) (equity_at e' k) → Says e t e' t' l
  -- "every trade number whose words differ with the words that do": trade x, that both have, and its word w
  trade : (x w : ℕ) → x < min (trades t) (trades t') → w < trade_words → (trade_word t x w ≡ trade_word t' x w → ⊥)
      → l ≡ line 2 x w (trade_word t x w) (trade_word t' x w) → Says e t e' t' l
  -- "the surplus of the longer trade list"
  more_trades : (trades t ≡ trades t' → ⊥) → l ≡ line 3 (min (trades t) (trades t')) 0 (trades t) (trades t') → Says e t e' t' l
  -- "and of the longer equity list"
  more_points : (points e ≡ points e' → ⊥) → l ≡ line 4 (min (points e) (points e')) 0 (points e) (points e') → Says e t e' t' l

-- two lines that tell of the same place
pub record SamePlace (k l : Line) : Type 0 where
  pub sort : k.sort ≡ l.sort
  pub number : k.number ≡ l.number
  pub word : k.word ≡ l.word

-- no place is told twice
pub data Once : List Line → Type 0 where
  none : Once []
  first : {l : Line} {ls : List Line} → ((k : Line) → List-as-Memᴰ k ls → SamePlace l k → ⊥) → Once ls → Once (l ∷ ls)

-- "nothing that is equal is listed, nothing unequal is left out", and no line stands twice
pub record AllAndOnly (e t e' t' : List ℕ) (ls : List Line) : Type 0 where
  pub only : (l : Line) → List-as-Memᴰ l ls → Says e t e' t' l
  pub all : (l : Line) → Says e t e' t' l → List-as-Memᴰ l ls
  pub once : Once ls

-- the first n lines that stand in a room, read as its header has them: five words each, one after another
unfoldable pub lines_in : ℕ → List ℕ → List Line
lines_in zero room = []
lines_in (suc n) room = line (get_or room 0 0) (get_or room 1 0) (get_or room 2 0) (get_or room 3 0) (get_or room 4 0) ∷ lines_in n (drop line_words room)

-- the answer of n lines and the room as it is left: those lines stand at its start, and nothing past them is touched
pub record Answered (e t e' t' room : List ℕ) (n : ℕ) (after : List ℕ) : Type 0 where
  pub fits : line_words * n ≤ length room
  pub so : AllAndOnly e t e' t' (lines_in n after)
  pub rest : drop (line_words * n) after ≡ drop (line_words * n) room
  pub long : length after ≡ length room

-- a room that is always enough, by the trades of the shorter list (`YSH_DIFFERENCES_WORDS`): a line for each word of a trade, and three more
abbrev pub enough_words : ℕ → ℕ
enough_words shorter = line_words * (trade_words * shorter + 3)

-- two runs that differ in nothing that a line tells: their trades, and the equity of their points
pub record Equal (e t e' t' : List ℕ) : Type 0 where
  pub list : t ≡ t'
  pub many : points e ≡ points e'
  pub same : (k : ℕ) → k < points e → equity_at e k ≡ equity_at e' k

-- a line with the two runs exchanged
abbrev pub exchanged : Line → Line
exchanged l = line l.sort l.number l.word l.second l.first
