-- `execute_entry` and `execute_exit`. Definitions only, each under what the Rust writes.
use Rattle.std.specs.Prelude.{Bool, true, false, cond, ℕ, Float, None, Option, Some}
use Rattle.floats.specs.{Floats.◌⊗◌, Floats.◌≺◌, Floats.min, Floats.eps, Floats.one}
use Rattle.rows.specs.{History.History}
use Rattle.portfolio.specs.{declared.Candle.Candle, declared.Portfolio.Portfolio, Portfolio.in_position, Portfolio.is_long, Portfolio.entered}
use Rattle.execution.specs.{Size.size, Lots.in_lots, Lots.size_in_lots, Lots.is_too_large, Lots.or_zero, Volatility.realized_vol, Costs.slippage_rate}
use Rattle.execution.specs.{Costs.fill_price, Costs.fee_rate, Costs.closed, declared.fills.Entry.Entry, declared.fills.Entry.TheVariants.NoEntry}
use Rattle.execution.specs.{declared.fills.Entry.TheVariants.TooLarge, declared.fills.Entry.TheVariants.Entered}
use Rattle.execution.specs.{declared.lots.Quantity.Quantity, declared.lots.Quantity.TheVariants.Nothing}
use Rattle.execution.specs.{declared.lots.Quantity.TheVariants.Of, declared.level.Side.Side, declared.level.Side.TheVariants.Long}
use Rattle.execution.specs.{declared.level.Side.TheVariants.Short, declared.terms.Sizing.Sizing, declared.terms.Sizing.TheVariants.FixedFraction}
use Rattle.execution.specs.{declared.terms.Sizing.TheVariants.FixedQty, declared.terms.Sizing.TheVariants.FixedCash}
use Rattle.execution.specs.{declared.terms.Sizing.TheVariants.VolTarget, declared.terms.Sizing.TheVariants.RiskPerTrade}
use Rattle.execution.specs.{declared.terms.Slippage.Slippage, declared.terms.Slippage.TheVariants.FixedBps}
use Rattle.execution.specs.{declared.terms.Slippage.TheVariants.VolumeImpact, declared.terms.Terms.Terms}
use Rattle.std.specs.Float.Ieee as Ieee
use Rattle.portfolio.specs.{declared.Closed.Closed}

-- `let dir = match side { Side::Long => 1.0, Side::Short => -1.0 };`
unfoldable pub direction : Side → Float
direction Long = one
direction Short = Ieee.neg one

-- `let rv = match sizing { Sizing::VolTarget { lookback, .. } => realized_vol(history, lookback), _ => None };`
unfoldable pub volatility_for : Sizing → History → Option Float
volatility_for (VolTarget target lookback) h = realized_vol h lookback
volatility_for (FixedFraction fraction) h = None
volatility_for (FixedQty qty) h = None
volatility_for (FixedCash cash) h = None
volatility_for (RiskPerTrade pct) h = None
volatility_for Sizing.Unknown h = None

-- `size(spec, equity, price, rv)?`, in lots (request 5)
unfoldable pub quantity : Terms → Float → Float → Option Float → Quantity
quantity terms cash price rv = size_in_lots terms.lot (size terms.sizing terms.risk cash price rv)

-- `let probe_qty = match slippage { Slippage::VolumeImpact { .. } => size(..)?.unwrap_or(0.0), _ => 0.0 };`. "volume slippage probes the
-- quantity in lots"
unfoldable pub probe_qty : Slippage → Terms → Float → Float → Option Float → Quantity
probe_qty (VolumeImpact coef) terms cash raw rv = quantity terms cash raw rv
probe_qty (FixedBps bps) terms cash raw rv = Nothing
probe_qty Slippage.Unknown terms cash raw rv = Nothing

-- `let base = if partial_fills { base.min(max_participation * volume) } else { base };`. "and again after the partial-fill cap where that
-- is on"
unfoldable pub within_volume : Terms → Quantity → Float → Quantity
within_volume terms Nothing volume = Nothing
within_volume terms Quantity.TooLarge volume = Quantity.TooLarge
within_volume terms (Of base) volume =
    cond terms.partial_fills (in_lots terms.lot (min base (terms.max_participation ⊗ volume))) (Of base)

-- `if base > 0.0 { let fee = base * fill * rate;  pf.enter(dir * base, fill, candle.time, fee); .. }`, where request 7 puts EPS for 0:
-- "an entry whose quantity is at most EPS takes cash but counts as flat .. such an entry is now dropped"
unfoldable pub entry_with : Float → Quantity → Float → Float → Candle → Portfolio → Entry
entry_with dir Nothing fill bps k p = NoEntry
entry_with dir Quantity.TooLarge fill bps k p = TooLarge
entry_with dir (Of base) fill bps k p =
    cond (eps ≺ base)
    (Entered (entered p (dir ⊗ base) fill k.time (base ⊗ fill ⊗ fee_rate bps)) fill)
    NoEntry

-- `execute_entry`: from flat, so that the equity is the cash; at a raw price, with a fee of so many basis points. "too large a quotient gives
-- 16", in the probe too.
unfoldable pub execute_entry : Side → Float → Float → Terms → Candle → Portfolio → History → Entry
execute_entry side raw bps terms k p h =
    let dir = direction side in
    let rv = volatility_for terms.sizing h in
    let probe = probe_qty terms.slippage terms p.cash raw rv in
    let fill = fill_price raw dir (slippage_rate terms.slippage (or_zero probe) k.volume) in
    cond (is_too_large probe) TooLarge
    (entry_with dir (within_volume terms (quantity terms p.cash fill rv) k.volume) fill bps k p)

-- whether an entry is turned away: its quantity is too large
abbrev pub is_turned_away : Entry → Bool
is_turned_away NoEntry = false
is_turned_away TooLarge = true
is_turned_away (Entered p fill) = false

-- `let dir = if pf.is_long() { -1.0 } else { 1.0 };`: a long sells, a short buys
unfoldable pub exit_direction : Portfolio → Float
exit_direction p = cond (is_long p) (Ieee.neg one) one

-- `execute_exit`: `if !pf.in_position() { return; }`
unfoldable pub execute_exit : ℕ → Float → Terms → Candle → Portfolio → Option Closed
execute_exit reason raw terms k p =
    cond (in_position p)
    (Some (closed p (fill_price raw (exit_direction p) (slippage_rate terms.slippage p.qty k.volume)) k.time terms.taker_bps reason))
    None
