-- Refusal 11: the new bar.
use Rattle.std.specs.Prelude.{ℕ, zero, suc, ◌+◌, ◌/◌, ◌%◌, ◌^◌, Bool, true, false, cond, ◌&&◌, List, [], ◌∷◌, get_or, ltb, eqb, None, Option, Some}
use Rattle.words.specs.{Limits.most_slots}
use Rattle.floats.specs.{Floats.finite, Floats.float_of}
use Rattle.portfolio.specs.{declared.Candle.Candle}
use Rattle.execution.specs.{declared.costs.Funding.Funding}
use Rattle.records.specs.{Bar.candle_of, Bar.funding_of}
use Rattle.refusals.specs.{Lines.Line, Lines.line}
use Rattle.words.specs.declared.refusal.Refusal.TheVariants as Refusal

-- "present slot not finite, or a slot bit at or above K": of bit k, the lowest of m. The word of an absent slot is not
-- looked at.
unfoldable pub bit_fine : ℕ → List ℕ → ℕ → ℕ → Bool
bit_fine K bar m k = cond (eqb (m % 2) 1) (cond (ltb k K) (finite (float_of (get_or bar (7 + k) 0))) false) true

-- bit k of the mask
abbrev pub slot_fine : ℕ → List ℕ → ℕ → Bool
slot_fine K bar k = bit_fine K bar (get_or bar 6 0 / 2 ^ k) k

-- of each number below n
unfoldable pub every : ℕ → (ℕ → Bool) → Bool
every zero f = true
every (suc n) f = every n f && f n

-- the mask is a word: 64 bits
unfoldable pub slots_fine : ℕ → List ℕ → Bool
slots_fine K bar = every most_slots (slot_fine K bar)

-- "mark, rate .. not finite"
abbrev pub funding_fine : Option Funding → Bool
funding_fine None = true
funding_fine (Some funding) = finite funding.mark && finite funding.rate

-- "a price, volume .. not finite"
abbrev pub candle_fine : Candle → Bool
candle_fine k = finite k.«open» && finite k.high && finite k.low && finite k.close && finite k.volume

-- "11: in the new bar, not in kept rows: a price, volume, mark, rate or present slot not finite, or a slot bit at or above
-- K"; the place is bars seen. Funding is checked where it is supplied, be it switched on or off.
unfoldable pub bar_lines : ℕ → List ℕ → ℕ → List Line
bar_lines K bar seen =
    line (candle_fine (candle_of bar)) (Refusal.Bar seen)
    ∷ line (slots_fine K bar) (Refusal.Bar seen)
    ∷ line (funding_fine (funding_of K bar)) (Refusal.Bar seen)
    ∷ []
