-- A room filled from a line, and a part of a room. Definitions only.
use Rattle.std.specs.Prelude.{ℕ, ◌+◌, ◌-◌, ◌*◌, ◌/◌, ◌%◌, ◌^◌, cond, List, [], ◌∷◌, ltb, length, take, drop, get_or}

-- those from one place up to another; none where there are not as many
unfoldable pub part_of : {A : Type 0} → List A → ℕ → ℕ → List A
part_of xs from to = cond (ltb to from) [] (cond (ltb (length xs) to) [] (take (to - from) (drop from xs)))

-- a room whose places from `at` on have, up to place n, what f gives; its other places are as they were
unfoldable pub laid : (ℕ → ℕ) → ℕ → ℕ → List ℕ → List ℕ
laid f at n [] = []
laid f at n (x ∷ xs) = cond (ltb at n) (f at) x ∷ laid f (at + 1) n xs

-- how many a line lends, in its second word; and its words after that, 0 past its end
abbrev pub lent : List ℕ → ℕ
lent line = get_or line 1 0

abbrev pub word_in : List ℕ → ℕ → ℕ
word_in line i = get_or line (2 + i) 0

-- byte i of these words, eight each, in the order of their digits: the first is the highest
unfoldable pub byte_in : List ℕ → ℕ → ℕ
byte_in line i = word_in line (i / 8) / 2 ^ (56 - 8 * (i % 8)) % 256

-- "Fills a room with the words of a line after its second, as many as that one says; zeros where they end before."
unfoldable pub filled : List ℕ → List ℕ → List ℕ
filled room line = laid (word_in line) 0 (lent line) room

unfoldable pub filled_bytes : List ℕ → List ℕ → List ℕ
filled_bytes room line = laid (byte_in line) 0 (lent line) room
