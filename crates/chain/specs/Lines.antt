-- The words of a line, and of a list of lines. Definitions only.
use Rattle.std.specs.Prelude.{ℕ, ◌+◌, ◌*◌, Bool, cond, List, [], ◌∷◌, ◌++◌, length, get_or, Float, None, Option, Some}
use Rattle.words.specs.{Words.overwrite}
use Rattle.floats.specs.{Floats.word_of}
use Rattle.chain.specs.{declared.shown.Detail.Detail}
use Rattle.chain.specs.{Chain.Shown, Chain.link, Chain.values, Chain.missing, Chain.at_first_bar}
use Rattle.chain.specs.{Chain.too_few_bars, Chain.position, Chain.since_entry, Chain.no_entry, Chain.ChainLine}

-- a value's word; one that is missing, which a line of values never has, would be 0
unfoldable pub value_word : Option Float → ℕ
value_word None = 0
value_word (Some x) = word_of x

unfoldable pub value_words : List (Option Float) → List ℕ
value_words [] = []
value_words (v ∷ vs) = value_word v ∷ value_words vs

-- Decided: "sort, how many of the next four are used, four words (0 where unused)".
unfoldable pub detail : ℕ → List ℕ → Detail
detail sort ws =
    record { sort = sort; used = length ws; first = get_or ws 0 0; second = get_or ws 1 0; third = get_or ws 2 0; fourth = get_or ws 3 0 }

-- Decided: the sorts by number.
unfoldable pub detail_of : Shown → Detail
detail_of link = detail 0 []
detail_of (values vs) = detail 1 (value_words vs)
detail_of (missing node back) = detail 2 (node ∷ back ∷ [])
detail_of at_first_bar = detail 3 []
detail_of too_few_bars = detail 4 []
detail_of position = detail 5 []
detail_of (since_entry bars) = detail 6 (bars ∷ [])
detail_of no_entry = detail 7 []

-- the missing leaf where there is one, else what is given
unfoldable pub leaf_or : Option (ℕ × ℕ) → Detail → Detail
leaf_or (Some (node, back)) d = detail 2 (node ∷ back ∷ [])
leaf_or None d = d

-- Decided: "a line is eight words: node, answer (0 or 1), sort, how many of the next four are used, four words".
abbrev pub line_length : ℕ
line_length = 8

unfoldable pub line_from : ℕ → Bool → Detail → List ℕ
line_from node answer d = node ∷ cond answer 1 0 ∷ d.sort ∷ d.used ∷ d.first ∷ d.second ∷ d.third ∷ d.fourth ∷ []

unfoldable pub line_words : ChainLine → List ℕ
line_words l = line_from l.node l.answer (detail_of l.shows)

unfoldable pub chain_words : List ChainLine → List ℕ
chain_words [] = []
chain_words (l ∷ ls) = line_words l ++ chain_words ls

-- ---- as the code writes them: one line after the other, from line `at` of the list on
unfoldable pub put_lines : List ℕ → ℕ → List ChainLine → List ℕ
put_lines list at [] = list
put_lines list at (l ∷ ls) = put_lines (overwrite list (line_length * at) (line_words l)) (at + 1) ls
