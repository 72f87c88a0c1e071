-- `size`: the quantity of an entry, without its sign. Definitions only, each under what the Rust writes.
use Rattle.std.specs.Prelude.{cond, Float, None, Option, Some, unwrap_or}
use Rattle.floats.specs.{Floats.◌⊗◌, Floats.◌⊘◌, Floats.◌≼◌, Floats.min, Floats.zero, Floats.one, Floats.hundred}
use Rattle.execution.specs.{declared.terms.Risk.Risk, declared.terms.Sizing.Sizing}
use Rattle.execution.specs.{declared.terms.Sizing.TheVariants.FixedFraction, declared.terms.Sizing.TheVariants.FixedQty}
use Rattle.execution.specs.{declared.terms.Sizing.TheVariants.FixedCash, declared.terms.Sizing.TheVariants.VolTarget}
use Rattle.execution.specs.{declared.terms.Sizing.TheVariants.RiskPerTrade, declared.terms.Sizing.TheVariants.Unknown}

-- `let stop = risk.stop_loss_pct.ok_or_else(..)?`: the Rust's error, which refusal 12 keeps out, is no order here (added).
-- `if stop <= 0.0 { return Ok(None); }  (equity * risk_pct / 100.0) / (price * stop / 100.0)`
unfoldable pub by_risk : Float → Option Float → Float → Float → Option Float
by_risk pct None equity price = None
by_risk pct (Some stop) equity price =
    cond (stop ≼ zero) None (Some ((equity ⊗ pct ⊘ hundred) ⊘ (price ⊗ stop ⊘ hundred)))

-- `let Some(rv) = realized_vol else { return Ok(None); };  (equity * target_vol / rv) / price`
unfoldable pub by_volatility : Float → Option Float → Float → Float → Option Float
by_volatility target None equity price = None
by_volatility target (Some rv) equity price = Some (equity ⊗ target ⊘ rv ⊘ price)

-- `let qty = match sizing { .. }`. A kind that the papers do not name gives no order (added).
unfoldable pub wanted : Sizing → Option Float → Float → Float → Option Float → Option Float
wanted (FixedFraction fraction) stop equity price rv = Some (equity ⊗ fraction ⊘ price)
wanted (FixedCash cash) stop equity price rv = Some (cash ⊘ price)
wanted (FixedQty qty) stop equity price rv = Some qty
wanted (RiskPerTrade pct) stop equity price rv = by_risk pct stop equity price
wanted (VolTarget target lookback) stop equity price rv = by_volatility target rv equity price
wanted Unknown stop equity price rv = None

-- `if let Some(max_pct) = risk.max_position_pct { max_notional = max_notional.min(equity * max_pct / 100.0); }`
unfoldable pub at_most : Float → Option Float → Float → Float
at_most most None equity = most
at_most most (Some pct) equity = min most (equity ⊗ pct ⊘ hundred)

-- `let mut max_notional = equity * risk.max_leverage.unwrap_or(1.0);`, then the position's cap
unfoldable pub max_notional : Risk → Float → Float
max_notional r equity = at_most (equity ⊗ unwrap_or r.max_leverage one) r.max_position_pct equity

-- `(qty * price).min(max_notional) / price`. "Letting a NaN size through the cap as NaN (it becomes the cap)": `min` hands
-- back its other side.
abbrev pub capped : Float → Float → Float → Float
capped qty price most = min (qty ⊗ price) most ⊘ price

-- `if qty <= 0.0 { return Ok(None); }`, then the cap
unfoldable pub capped_qty : Option Float → Risk → Float → Float → Option Float
capped_qty None r equity price = None
capped_qty (Some qty) r equity price = cond (qty ≼ zero) None (Some (capped qty price (max_notional r equity)))

-- `if price <= 0.0 || equity <= 0.0 { return Ok(None); }`
unfoldable pub size : Sizing → Risk → Float → Float → Option Float → Option Float
size sizing r equity price rv =
    cond (price ≼ zero) None
    (cond (equity ≼ zero) None
    (capped_qty (wanted sizing r.stop_loss_pct equity price rv) r equity price))
