-- An entry as the Rust has it, with no lots: what `execute_entry` is with a lot of 0 (WholeLots, `no_lots`). Definitions only, each under what
-- the Rust writes.
use Rattle.std.specs.Prelude.{cond, Float, None, Option, Some, unwrap_or}
use Rattle.floats.specs.{Floats.◌⊗◌, Floats.min, Floats.zero}
use Rattle.rows.specs.{History.History}
use Rattle.portfolio.specs.{declared.Candle.Candle, declared.Portfolio.Portfolio}
use Rattle.execution.specs.{Size.size, Costs.slippage_rate, Costs.fill_price, Fills.direction, Fills.volatility_for, Fills.entry_with}
use Rattle.execution.specs.{declared.fills.Entry.Entry, declared.fills.Entry.TheVariants.NoEntry}
use Rattle.execution.specs.{declared.level.Side.Side}
use Rattle.execution.specs.{declared.terms.Slippage.Slippage, declared.terms.Slippage.TheVariants.FixedBps}
use Rattle.execution.specs.{declared.terms.Slippage.TheVariants.VolumeImpact, declared.terms.Slippage.TheVariants.Unknown, declared.terms.Terms.Terms}
use Rattle.execution.specs.declared.lots.Quantity.TheVariants as Quantity

-- `let probe_qty = match slippage { Slippage::VolumeImpact { .. } => size(..)?.unwrap_or(0.0), _ => 0.0 };`
unfoldable pub rust_probe : Slippage → Terms → Float → Float → Option Float → Float
rust_probe (VolumeImpact coef) terms cash raw rv = unwrap_or (size terms.sizing terms.risk cash raw rv) zero
rust_probe (FixedBps bps) terms cash raw rv = zero
rust_probe Unknown terms cash raw rv = zero

-- `if let Some(base) = size(..)? { let base = if partial_fills { base.min(max_participation * volume) } else { base }; .. }`
unfoldable pub rust_fill : Option Float → Float → Float → Float → Terms → Candle → Portfolio → Entry
rust_fill None dir fill bps terms k p = NoEntry
rust_fill (Some base) dir fill bps terms k p =
    entry_with dir (Quantity.Of (cond terms.partial_fills (min base (terms.max_participation ⊗ k.volume)) base)) fill bps k p

-- `execute_entry`
unfoldable pub rust_entry : Side → Float → Float → Terms → Candle → Portfolio → History → Entry
rust_entry side raw bps terms k p h =
    let dir = direction side in
    let rv = volatility_for terms.sizing h in
    let probe = rust_probe terms.slippage terms p.cash raw rv in
    let fill = fill_price raw dir (slippage_rate terms.slippage probe k.volume) in
    rust_fill (size terms.sizing terms.risk p.cash fill rv) dir fill bps terms k p
