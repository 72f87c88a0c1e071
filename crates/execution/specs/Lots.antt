-- Whole lots: "Brokers reject 3.7 contracts. Sizing gains a lot." Definitions only.
use Rattle.std.specs.Prelude.{Bool, true, false, cond, Float, Option, None, Some}
use Rattle.floats.specs.{Floats.◌⊗◌, Floats.◌⊘◌, Floats.◌≼◌, Floats.zero, Floats.one, Floor.as_u64, Floor.two_to53, Sums.counted}
use Rattle.execution.specs.{declared.lots.Quantity.Quantity, declared.lots.Quantity.TheVariants.Nothing}
use Rattle.execution.specs.{declared.lots.Quantity.TheVariants.TooLarge, declared.lots.Quantity.TheVariants.Of}
use Rattle.std.specs.Float.Ieee as Ieee

-- "k the largest whole number at most qty/lot as floats compute it; a quotient of 2^53 or more is turned away. A k of 0 or less, or a
-- quotient that is NaN, means no order."
unfoldable pub whole_lots : Float → Float → Quantity
whole_lots lot quotient =
    cond (two_to53 ≼ quotient) TooLarge
    (cond (one ≼ quotient) (Of (counted (as_u64 quotient) ⊗ lot)) Nothing)

-- "The quantity becomes k·lot"; "A lot of 0 means as before."
unfoldable pub in_lots : Float → Float → Quantity
in_lots lot qty = cond (Ieee.eq lot zero) (Of qty) (whole_lots lot (qty ⊘ lot))

-- "This applies after the leverage cap": to what `size` gives
unfoldable pub size_in_lots : Float → Option Float → Quantity
size_in_lots lot None = Nothing
size_in_lots lot (Some qty) = in_lots lot qty

-- ---- of a quantity

abbrev pub is_too_large : Quantity → Bool
is_too_large Nothing = false
is_too_large TooLarge = true
is_too_large (Of qty) = false

abbrev pub or_zero : Quantity → Float
or_zero Nothing = zero
or_zero TooLarge = zero
or_zero (Of qty) = qty
