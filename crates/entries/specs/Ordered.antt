-- What an entry comes to: the quantity that is entered is above EPS, and so never a NaN. For every lot, 0 included.
use Rattle.std.specs.Prelude.{◌≡◌, refl, Bool, true, false, cond, ℕ, Float}
use Rattle.words.specs.Prelude.{sym, arith}
use Rattle.floats.specs.{Floats.◌⊗◌, Floats.◌≺◌, Floats.eps}
use Rattle.rows.specs.{History.History}
use Rattle.portfolio.specs.{declared.Candle.Candle, declared.Portfolio.Portfolio, Portfolio.entered}
use Rattle.execution.specs.{Costs.slippage_rate, Costs.fill_price, Costs.fee_rate, Lots.is_too_large, Lots.or_zero, Fills.direction, Fills.volatility_for}
use Rattle.execution.specs.{Fills.quantity, Fills.probe_qty, Fills.within_volume, Fills.entry_with, Fills.execute_entry, declared.fills.Entry.Entry}
use Rattle.execution.specs.{declared.fills.Entry.TheVariants.NoEntry, declared.fills.Entry.TheVariants.Entered, declared.lots.Quantity.Quantity}
use Rattle.execution.specs.{declared.lots.Quantity.TheVariants.Nothing, declared.lots.Quantity.TheVariants.TooLarge, declared.lots.Quantity.TheVariants.Of}
use Rattle.execution.specs.{declared.level.Side.Side, declared.terms.Terms.Terms}

-- The price of the fill: the raw price, with the slippage of the quantity that is probed.
unfoldable pub fill_of : Side → Float → Terms → Candle → Portfolio → History → Float
fill_of side raw terms k p h =
    fill_price raw (direction side)
    (slippage_rate terms.slippage (or_zero (probe_qty terms.slippage terms p.cash raw (volatility_for terms.sizing h))) k.volume)

-- What is ordered at that price: the size in lots, within the partial-fill cap where that is on.
unfoldable pub ordered_at : Float → Terms → Candle → Portfolio → History → Quantity
ordered_at fill terms k p h = within_volume terms (quantity terms p.cash fill (volatility_for terms.sizing h)) k.volume

-- An entry of a quantity: ordered at the fill's price, above EPS, and with the side's sign.
pub record Entering (side : Side) (raw : Float) (terms : Terms) (k : Candle) (p : Portfolio) (h : History) (q : Portfolio) (fill : Float) : Type 0 where
  pub base : Float
  pub at : fill ≡ fill_of side raw terms k p h
  pub ordered : ordered_at fill terms k p h ≡ Of base
  pub some : eps ≺ base ≡ true
  pub signed : q.qty ≡ direction side ⊗ base

module _ (side : Side) (raw bps : Float) (terms : Terms) (k : Candle) (p : Portfolio) (h : History) where
  by_booking : (w : Quantity) → ordered_at (fill_of side raw terms k p h) terms k p h ≡ w → (q : Portfolio) (fill : Float)
      → entry_with (direction side) w (fill_of side raw terms k p h) bps k p ≡ Entered q fill → Entering side raw terms k p h q fill
  unfolding entry_with entered
  by_booking Nothing o q fill e = absurd (let z : ◌≡◌ {A = ℕ} 0 1 = cc in omega arith)
  by_booking TooLarge o q fill e = absurd (let z : ◌≡◌ {A = ℕ} 0 1 = cc in omega arith)
  by_booking (Of base) o q fill e = go (eps ≺ base) refl e
    where
      at : Float
      at = fill_of side raw terms k p h

      opened : Portfolio
      opened = entered p (direction side ⊗ base) at k.time (base ⊗ at ⊗ fee_rate bps)

      go : (b : Bool) → eps ≺ base ≡ b → cond b (Entered opened at) NoEntry ≡ Entered q fill → Entering side raw terms k p h q fill
      go true some e =
          let same : opened ≡ q = cc in
          let price : at ≡ fill = cc in
          record { base = base; at = sym price; ordered = rw (← price) o; some = some; signed = rw (← same) }
      go false some e = absurd (let z : ◌≡◌ {A = ℕ} 0 1 = cc in omega arith)

  -- WHAT IS ENTERED
  pub entering : (q : Portfolio) (fill : Float) → execute_entry side raw bps terms k p h ≡ Entered q fill → Entering side raw terms k p h q fill
  unfolding execute_entry fill_of ordered_at
  entering q fill e = go (is_too_large (probe_qty terms.slippage terms p.cash raw (volatility_for terms.sizing h))) e
    where
      go : (large : Bool)
          → cond large Entry.TooLarge (entry_with (direction side) (ordered_at (fill_of side raw terms k p h) terms k p h) (fill_of side raw terms k p h) bps k p)
          ≡ Entered q fill → Entering side raw terms k p h q fill
      go true e = absurd (let z : ◌≡◌ {A = ℕ} 0 1 = cc in omega arith)
      go false e = by_booking (ordered_at (fill_of side raw terms k p h) terms k p h) refl q fill e
