-- Floats as whole multiples of 2 ^ -1074, and whole numbers in two's complement. Definitions only.
use Rattle.std.specs.Prelude.{Bool, true, false, cond, List, ℕ, suc, ◌+◌, ◌-◌, ◌%◌, ◌^◌, ℤ, pos, negsuc, neg_ℤ, leb, ltb, Float}
use Rattle.words.specs.Prelude.{binary64}
use Rattle.floats.specs.{Root.units_of}
use Rattle.totals.specs.{Number.number_of, Number.words_of, Number.place}
use Rattle.std.specs.Float.Ieee as Ieee

-- x, or -x where `down`
abbrev pub step : Bool → ℕ → ℤ
step false x = pos x
step true x = neg_ℤ (pos x)

-- how many times 2 ^ -1074 a finite float's word is: the highest bit is its sign
unfoldable pub units_in : ℕ → ℤ
units_in w = step (leb (2 ^ 63) w) (units_of (w % 2 ^ 63))

-- "The nearest float to it, ties to even, is shown beside it: zero as +0, and infinity where IEEE 754 rounds to it."
unfoldable pub nearest_to : ℤ → Float
nearest_to (pos n) = Ieee.round binary64 false n (2 ^ 1074)
nearest_to (negsuc n) = Ieee.round binary64 true (suc n) (2 ^ 1074)

-- ---- two's complement: a whole number, negative or not, as a number below m ..

unfoldable pub residue : ℕ → ℤ → ℕ
residue m (pos a) = a % m
residue m (negsuc a) = m - 1 - a % m

-- .. and the whole number that it stands for
unfoldable pub signed : ℕ → ℕ → ℤ
signed m n = cond (ltb (n + n) m) (pos n) (negsuc (m - 1 - n))

-- "in fixed words": Decided: 34, so that 2 ^ 32 - 1 of the largest floats fit
abbrev pub sum_size : ℕ
sum_size = 34

-- the whole number that 34 words are ..
unfoldable pub number_in : List ℕ → ℤ
number_in ws = signed (place sum_size) (number_of ws)

-- .. and the 34 words of a whole number
unfoldable pub words_for : ℤ → List ℕ
words_for z = words_of sum_size (residue (place sum_size) z)
