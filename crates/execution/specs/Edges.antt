-- Both sides of the edges of this crate, proved of its definitions.
use Rattle.std.specs.Prelude.{◌≡◌, refl, true, false, ℕ, pos, negsuc, Float, None, Some}
use Rattle.words.specs.Prelude.{binary64, fin}
use Rattle.floats.specs.{Floats.◌⊗◌, Floats.◌⊘◌, Floor.as_u64, Sums.counted}
use Rattle.portfolio.specs.{declared.Candle.Candle, Trade.stop_loss}
use Rattle.execution.specs.{Size.capped, Lots.whole_lots, Lots.in_lots, Intrabar.fall_to, Intrabar.fill_under, Intrabar.fill_over, Intrabar.fired}
use Rattle.execution.specs.{Intrabar.first_of, Intrabar.long_exit, Intrabar.intrabar_exit}
use Rattle.execution.specs.{declared.terms.Risk.Risk}
use Rattle.std.specs.Float.Ieee as Ieee
use Rattle.floats.specs.Floats as Floats
use Rattle.execution.specs.declared.lots.Quantity.TheVariants as Quantity
use Rattle.execution.specs.{Supplied.touches}

abbrev pub num : ℕ → Float
num n = Ieee.of_int binary64 (pos n)

-- 75.5
abbrev pub seventy_five_and_a_half : Float
seventy_five_and_a_half = fin false 151 (negsuc 0)

-- a stop of 25% and nothing else
abbrev pub stop_only : Risk
stop_only = record {
  stop_loss_pct = Some (num 25);
  trailing_stop_pct = None;
  take_profit_pct = None;
  max_leverage = None;
  max_position_pct = None;
  liquidation = false;
}

-- "★8 Long from 100, stop 25%: open 70, low 68 fills 70; open 80, low 75 fills 75; low 75.5, no exit." Whatever the rest
-- of the bar and the favourable extreme are.
module _ (time : ℕ) (high close volume extreme : Float) where
  abbrev pub bar : Float → Float → Candle
  bar first low = record { time = time; «open» = first; high = high; low = low; close = close; volume = volume }

  pub stop_edges : (intrabar_exit (bar (num 70) (num 68)) stop_only (num 100) extreme true ≡ touches (num 70) stop_loss)
      × (intrabar_exit (bar (num 80) (num 75)) stop_only (num 100) extreme true ≡ touches (num 75) stop_loss)
      × (intrabar_exit (bar (num 80) seventy_five_and_a_half) stop_only (num 100) extreme true ≡ None)
  unfolding intrabar_exit long_exit first_of fired fill_under fall_to fill_over Floats.min
      Ieee.of_int Ieee.of_bits Ieee.is_nan Ieee.lt Ieee.le Ieee.sub Ieee.mul Ieee.div
  stop_edges = (refl, refl, refl)

-- "Letting a NaN size through the cap as NaN (it becomes the cap)."
pub nan_capped : (qty price most : Float) → Ieee.is_nan (qty ⊗ price) ≡ true → capped qty price most ≡ most ⊘ price
unfolding Floats.min
nan_capped qty price most e = rw e

-- 0.1
abbrev tenth : Float
tenth = Floats.float_of 0x3fb9_9999_9999_999a

-- Taken literally, "and again after the partial-fill cap" can lose a lot: 4.35 holds 43 lots of 0.1, and 43 · 0.1 holds 42 by its float quotient.
pub a_lot_lost : (in_lots tenth (Floats.float_of 0x4011_6666_6666_6666) ≡ Quantity.Of (num 43 ⊗ tenth))
    × (in_lots tenth (num 43 ⊗ tenth) ≡ Quantity.Of (num 42 ⊗ tenth))
unfolding in_lots whole_lots counted as_u64 Ieee.to_unsigned Ieee.of_int Ieee.of_bits Ieee.eq Ieee.le Ieee.lt Ieee.mul Ieee.div
a_lot_lost = (refl, refl)
