-- Exits inside a bar: levels, then liquidation. Definitions only, each under what the Rust writes.
use Rattle.std.specs.Option.{option_or}
use Rattle.std.specs.Prelude.{Bool, cond, ℕ, Float, None, Option, Some}
use Rattle.floats.specs.{Floats.◌⊕◌, Floats.◌⊖◌, Floats.◌⊗◌, Floats.◌⊘◌, Floats.◌≺◌, Floats.◌≼◌, Floats.min, Floats.max, Floats.zero, Floats.one}
use Rattle.floats.specs.{Floats.hundred}
use Rattle.portfolio.specs.{declared.Candle.Candle, declared.Portfolio.Portfolio, Portfolio.in_position, Portfolio.is_long, Trade.stop_loss, Trade.trailing_stop}
use Rattle.portfolio.specs.{Trade.take_profit, Trade.liquidation}
use Rattle.execution.specs.{Costs.closed}
use Rattle.execution.specs.{declared.terms.Risk.Risk, declared.terms.Terms.Terms}
use Rattle.execution.specs.{declared.intrabar.Trigger.Trigger}
use Rattle.std.specs.Float.Ieee as Ieee
use Rattle.execution.specs.{Supplied.touches}
use Rattle.portfolio.specs.{declared.Closed.Closed}

-- "The favourable extreme takes this bar first": `if is_long { extreme.max(high) } else { extreme.min(low) }`
unfoldable pub favourable : Candle → Float → Bool → Float
favourable k extreme long = cond long (max extreme k.high) (min extreme k.low)

-- "Intrabar: only in a position"
unfoldable pub extreme_with : Candle → Portfolio → Float → Float
extreme_with k p extreme = cond (in_position p) (favourable k extreme (is_long p)) extreme

-- `if candle.low <= level { return Some((level.min(candle.open), ..)); }`: where the bar opens beyond the level, at the open
unfoldable pub fall_to : Float → Float → Float → Option Float
fall_to level first low = cond (low ≼ level) (Some (min level first)) None

-- `if candle.high >= level { return Some((level.max(candle.open), ..)); }`
unfoldable pub rise_to : Float → Float → Float → Option Float
rise_to level first high = cond (level ≼ high) (Some (max level first)) None

-- `if let Some(p) = .. { let level = base * (1.0 - p / 100.0); .. }`
unfoldable pub fill_under : Candle → Float → Option Float → Option Float
fill_under k base None = None
fill_under k base (Some p) = fall_to (base ⊗ (one ⊖ p ⊘ hundred)) k.«open» k.low

-- `if let Some(p) = .. { let level = base * (1.0 + p / 100.0); .. }`
unfoldable pub fill_over : Candle → Float → Option Float → Option Float
fill_over k base None = None
fill_over k base (Some p) = rise_to (base ⊗ (one ⊕ p ⊘ hundred)) k.«open» k.high

-- `return Some((.., reason))`
unfoldable pub fired : Option Float → ℕ → Option Trigger
fired None reason = None
fired (Some price) reason = touches price reason

-- the stop before the trailing stop, and that before the target
unfoldable pub first_of : Option Float → Option Float → Option Float → Option Trigger
first_of stop trail take = option_or (option_or (fired stop stop_loss) (fired trail trailing_stop)) (fired take take_profit)

-- `if is_long { .. }`
unfoldable pub long_exit : Candle → Risk → Float → Float → Option Trigger
long_exit k r entry extreme =
    first_of (fill_under k entry r.stop_loss_pct)
    (fill_under k extreme r.trailing_stop_pct)
    (fill_over k entry r.take_profit_pct)

-- `else { .. }`: a short's stops stand above, its target below
unfoldable pub short_exit : Candle → Risk → Float → Float → Option Trigger
short_exit k r entry extreme =
    first_of (fill_over k entry r.stop_loss_pct)
    (fill_over k extreme r.trailing_stop_pct)
    (fill_under k entry r.take_profit_pct)

-- `intrabar_exit`: `if entry <= 0.0 { return None; }`
unfoldable pub intrabar_exit : Candle → Risk → Float → Float → Bool → Option Trigger
intrabar_exit k r entry extreme long =
    cond (entry ≼ zero) None (cond long (long_exit k r entry extreme) (short_exit k r entry extreme))

-- `let p_liq = -self.pf.cash / self.pf.qty;`
unfoldable pub bankruptcy_price : Portfolio → Float
bankruptcy_price p = Ieee.neg p.cash ⊘ p.qty

-- `let breached = if is_long { candle.low <= p_liq } else { candle.high >= p_liq };`
unfoldable pub breached : Candle → Float → Bool → Bool
breached k price long = cond long (k.low ≼ price) (price ≼ k.high)

-- `if p_liq > 0.0 && breached`
unfoldable pub liquidated : Candle → Portfolio → Option Trigger
liquidated k p =
    let price = bankruptcy_price p in
    cond (zero ≺ price) (cond (breached k price (is_long p)) (touches price liquidation) None) None

-- "if no exit fires, liquidation where switched on"
unfoldable pub or_liquidated : Option Trigger → Candle → Risk → Portfolio → Option Trigger
or_liquidated (Some trigger) k r p = touches trigger.price trigger.reason
or_liquidated None k r p = cond r.liquidation (liquidated k p) None

-- what ends the open position inside the bar
unfoldable pub touched : Candle → Risk → Portfolio → Float → Option Trigger
touched k r p extreme = or_liquidated (intrabar_exit k r p.entry_price extreme (is_long p)) k r p

-- "without slippage"
unfoldable pub closed_by : Option Trigger → Candle → Terms → Portfolio → Option Closed
closed_by None k terms p = None
closed_by (Some trigger) k terms p = Some (closed p trigger.price k.time terms.taker_bps trigger.reason)

-- `apply_intrabar_exits`, with the favourable extreme that has taken this bar
unfoldable pub apply_intrabar_exits : Candle → Terms → Portfolio → Float → Option Closed
apply_intrabar_exits k terms p extreme =
    cond (in_position p) (closed_by (touched k terms.risk p extreme) k terms p) None
