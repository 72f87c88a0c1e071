-- Worked examples: the float at its edges, and three trades whose float sum depends on the order. Assumes nothing.
use Rattle.std.specs.Prelude.{◌≡◌, refl, List, [], ◌∷◌, ℕ, ◌+◌, ◌-◌, ◌^◌, ℤ, pos, neg_ℤ}
use Rattle.words.specs.Prelude.{to_bits}
use Rattle.words.specs.Prelude.{round, of_bits}
use Rattle.floats.specs.{Floats.word_of, Floats.float_of, Floats.◌⊕◌, Root.units_of}
use Rattle.totals.specs.{Exact.nearest_to, Exact.units_in, Trades.Trade, Trades.trade, Trades.pnl_sum}
use Rattle.std.specs.Float.Ieee as Ieee

-- the word of the float nearest to a sum
abbrev shown : ℤ → ℕ
shown z = word_of (nearest_to z)

-- "zero as +0"
zero_shown : shown (pos 0) ≡ 0
unfolding nearest_to round to_bits
zero_shown = refl

-- the least subnormal, either sign
least_shown : shown (pos 1) ≡ 1
unfolding nearest_to round to_bits
least_shown = refl

least_below : shown (neg_ℤ (pos 1)) ≡ 0x8000_0000_0000_0001
unfolding nearest_to round to_bits
least_below = refl

-- "ties to even": 2^53 + 1 and 2^53 + 3 units lie half way between two floats; the first goes down to 2^53, the second up to 2^53 + 4
tie_down : shown (pos (2 ^ 53 + 1)) ≡ 0x0020_0000_0000_0000
unfolding nearest_to round to_bits
tie_down = refl

tie_up : shown (pos (2 ^ 53 + 3)) ≡ 0x0020_0000_0000_0002
unfolding nearest_to round to_bits
tie_up = refl

-- "infinity where IEEE 754 rounds to it": from 2^1024 - 2^970 on, in units of 2^-1074; one unit less is the largest float
infinite : shown (pos (2 ^ 2098 - 2 ^ 2044)) ≡ 0x7ff0_0000_0000_0000
unfolding nearest_to round to_bits
infinite = refl

largest : shown (pos (2 ^ 2098 - 2 ^ 2044 - 1)) ≡ 0x7fef_ffff_ffff_ffff
unfolding nearest_to round to_bits
largest = refl

infinite_below : shown (neg_ℤ (pos (2 ^ 2098 - 2 ^ 2044))) ≡ 0xfff0_0000_0000_0000
unfolding nearest_to round to_bits
infinite_below = refl

largest_below : shown (neg_ℤ (pos (2 ^ 2098 - 2 ^ 2044 - 1))) ≡ 0xffef_ffff_ffff_ffff
unfolding nearest_to round to_bits
largest_below = refl

-- ---- three trades: pnl of 2^53, 1 and -2^53

abbrev large : ℕ
large = 0x4340_0000_0000_0000

abbrev one : ℕ
one = 0x3ff0_0000_0000_0000

abbrev minus : ℕ
minus = 0xc340_0000_0000_0000

-- added as floats in one order they make 0, in another 1 ..
floats_one_way : word_of (float_of large ⊕ float_of one ⊕ float_of minus) ≡ 0
unfolding Ieee.add Ieee.sum round of_bits to_bits
floats_one_way = refl

floats_other_way : word_of (float_of large ⊕ float_of minus ⊕ float_of one) ≡ one
unfolding Ieee.add Ieee.sum round of_bits to_bits
floats_other_way = refl

-- .. and exactly 1, in either
abbrev three : List Trade
three = trade large 1 ∷ trade one 1 ∷ trade minus 2 ∷ []

exactly : shown (pnl_sum three) ≡ one
unfolding nearest_to pnl_sum units_in units_of round to_bits
exactly = refl

abbrev turned : List Trade
turned = trade large 1 ∷ trade minus 2 ∷ trade one 1 ∷ []

exactly_turned : pnl_sum turned ≡ pnl_sum three
unfolding pnl_sum units_in units_of
exactly_turned = refl
