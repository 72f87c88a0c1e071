-- "Letting a NaN size through the cap as NaN (it becomes the cap)": of `size` itself. And where `size` gives a NaN all the same.
use Rattle.std.specs.Prelude.{◌≡◌, refl, false, Float, None, Option, Some}
use Rattle.words.specs.Prelude.{nan}
use Rattle.floats.specs.{Floats.◌⊘◌, Floats.◌≼◌, Floats.float_of, Floats.zero, Floats.one}
use Rattle.execution.specs.{declared.terms.Risk.Risk, declared.terms.Sizing.Sizing, declared.terms.Sizing.TheVariants.FixedQty}
use Rattle.execution.specs.{declared.terms.Slippage.TheVariants.FixedBps, Costs.slippage_rate, Costs.fill_price, Size.wanted, Size.at_most}
use Rattle.execution.specs.{Size.max_notional, Size.capped_qty, Size.size}
use Rattle.std.specs.Float.Ieee as Ieee
use Rattle.floats.specs.Floats as Floats

-- A SIZE THAT IS NOT A NUMBER BECOMES THE CAP: where the sizing asks for a NaN, at a price and with an equity above 0 (or a NaN), `size` gives the most that a
-- position may be worth, over the price.
pub nan_becomes_the_cap : (sizing : Sizing) (r : Risk) (equity price : Float) (rv : Option Float) → price ≼ zero ≡ false → equity ≼ zero ≡ false
    → wanted sizing r.stop_loss_pct equity price rv ≡ Some nan → size sizing r equity price rv ≡ Some (max_notional r equity ⊘ price)
unfolding size capped_qty Floats.min Ieee.is_nan Ieee.le Ieee.lt Ieee.eq Ieee.mul
nan_becomes_the_cap sizing r equity price rv p q e = rw (p, q, e)

-- 1e300, 1e10, 1e308 and 1e5
abbrev cash : Float
cash = float_of 0x7e37_e43c_8800_759c

abbrev leverage : Float
leverage = float_of 0x4202_a05f_2000_0000

abbrev raw : Float
raw = float_of 0x7fe1_ccf3_85eb_c8a0

abbrev points : Float
points = float_of 0x40f8_6a00_0000_0000

abbrev leveraged : Risk
leveraged = record {
  stop_loss_pct = None;
  trailing_stop_pct = None;
  take_profit_pct = None;
  max_leverage = Some leverage;
  max_position_pct = None;
  liquidation = false;
}

-- A cap that is infinite over a price that is infinite is a NaN: one contract, with a cash of 1e300 and a leverage of 1e10, at 1e308 and 100,000 basis
-- points of slippage. (No position is entered with it: see Ordered.)
pub a_nan_size : size (FixedQty one) leveraged cash (fill_price raw one (slippage_rate (FixedBps points) zero zero)) None ≡ Some nan
unfolding size capped_qty wanted max_notional at_most slippage_rate Floats.min Ieee.is_nan Ieee.le Ieee.lt Ieee.eq Ieee.mul Ieee.div Ieee.add Ieee.of_bits
a_nan_size = refl
