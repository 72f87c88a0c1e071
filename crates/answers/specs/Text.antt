-- Bytes put into a room one after another, and numbers in decimal. Definitions only.
use Rattle.std.specs.Prelude.{◌≡◌, cond, List, [], ◌∷◌, ◌++◌, ℕ, zero, suc, ◌+◌, ◌/◌, ◌%◌, ◌≤◌, ltb, leb, length, take, drop}

-- a count of the room's first bytes, all of which it has
abbrev pub IsPrefixLen : ℕ → List ℕ → Type 0
IsPrefixLen n room = (n ≤ length room) × (n ≡ length (take n room))

-- the room with bytes over it from `at` on, where they fit
unfoldable pub put : List ℕ → ℕ → List ℕ → List ℕ
put room at bytes = cond (leb (at + length bytes) (length room)) (take at room ++ bytes ++ drop (at + length bytes) room) room

-- the place just past them; `at` itself where they do not fit
unfoldable pub next : List ℕ → ℕ → List ℕ → ℕ
next room at bytes = cond (leb (at + length bytes) (length room)) (at + length bytes) at

-- how many decimal digits n takes, at most k more than one
unfoldable pub places : ℕ → ℕ → ℕ
places zero n = 1
places (suc k) n = cond (ltb n 10) 1 (places k (n / 10) + 1)

-- the code of a digit below 16: `0` to `9`, then `a` to `f`
abbrev pub digit_code : ℕ → ℕ
digit_code d = cond (ltb d 10) (48 + d) (87 + d)

-- the last k digits of n in a base, the highest first
abbrev pub last_digits : ℕ → ℕ → ℕ → List ℕ
last_digits base zero n = []
last_digits base (suc k) n = last_digits base k (n / base) ++ (digit_code (n % base) ∷ [])

-- a number in decimal, with no zeros in front: a word takes 20 digits at the most
unfoldable pub decimal : ℕ → List ℕ
unfolding places
decimal n = last_digits 10 (places 19 n) n
