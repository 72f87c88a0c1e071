-- Entries away from the market (request 1). Definitions only, under the request's sentences; beside them what the Rust's `level_fill` writes.
use Rattle.std.specs.Prelude.{cond, Float, None, Option, Some}
use Rattle.floats.specs.{Floats.◌⊕◌, Floats.◌⊗◌, Floats.◌⊘◌, Floats.◌≼◌, Floats.min, Floats.max, Floats.one, Floats.hundred}
use Rattle.portfolio.specs.{declared.Candle.Candle}
use Rattle.execution.specs.{declared.level.Side.Side, declared.level.Side.TheVariants.Long}
use Rattle.execution.specs.{declared.level.Side.TheVariants.Short, declared.level.Entries.Entries, declared.level.OrderType.OrderType}
use Rattle.execution.specs.{declared.level.OrderType.TheVariants.Market as MarketType, declared.level.OrderType.TheVariants.Limit as LimitType}
use Rattle.execution.specs.{declared.level.OrderType.TheVariants.Stop as StopType, declared.level.OrderType.TheVariants.StopLimit as StopLimitType}
use Rattle.execution.specs.{declared.level.OrderType.TheVariants.Unknown, declared.level.OrderKind.OrderKind}
use Rattle.execution.specs.{declared.level.OrderKind.TheVariants.Market, declared.level.OrderKind.TheVariants.Limit}
use Rattle.execution.specs.{declared.level.OrderKind.TheVariants.Stop, declared.level.OrderKind.TheVariants.StopLimit}

-- "the level is the deciding bar's close times (1 + pct/100)"
unfoldable pub level_from : Float → Float → Float
level_from close pct = close ⊗ (one ⊕ pct ⊘ hundred)

-- "Settings gain an order kind and two percentages: the level is the deciding bar's close times (1 + pct/100), the second is a stop-limit's limit."
unfoldable pub entry_trigger : Entries → Float → OrderKind
entry_trigger e close = trigger_of e.order_type (level_from close e.level_pct) (level_from close e.limit_pct)
  where
    trigger_of : OrderType → Float → Float → OrderKind
    trigger_of MarketType level limit = Market
    trigger_of LimitType level limit = Limit level
    trigger_of StopType level limit = Stop level
    trigger_of StopLimitType level limit = StopLimit level limit
    trigger_of Unknown level limit = Market

-- "Only a pure limit pays the maker fee." `let maker_fill = matches!(trigger, Some((_, LevelKind::Limit)));`
unfoldable pub fee_bps : OrderKind → Float → Float → Float
fee_bps Market maker taker = taker
fee_bps (Limit level) maker taker = maker
fee_bps (Stop level) maker taker = taker
fee_bps (StopLimit stop limit) maker taker = taker

-- ".. fills if low ≤ level, at min(open, level)": `(c.low <= trigger).then(|| c.open.min(trigger))`
unfoldable pub reached_below : Float → Candle → Option Float
reached_below level k = cond (k.low ≼ level) (Some (min k.«open» level)) None

-- ".. if high ≥ level, at max(open, level)": `(c.high >= trigger).then(|| c.open.max(trigger))`
unfoldable pub reached_above : Float → Candle → Option Float
reached_above level k = cond (level ≼ k.high) (Some (max k.«open» level)) None

-- "A long stop-limit that reaches its stop fills at the stop's price if that is no worse than the limit, else at the limit if low ≤ limit,
-- else works on unchanged". The Rust: `(c.high >= trigger && c.low <= limit).then(|| limit.min(c.open.max(trigger)))`, which wants
-- low ≤ limit of a stop's price within the limit too, and of two equal zeros takes the limit's.
unfoldable pub no_dearer_than : Float → Option Float → Candle → Option Float
no_dearer_than limit None k = None
no_dearer_than limit (Some price) k = cond (price ≼ limit) (Some price) (cond (k.low ≼ limit) (Some limit) None)

-- "a short mirrors"
unfoldable pub no_cheaper_than : Float → Option Float → Candle → Option Float
no_cheaper_than limit None k = None
no_cheaper_than limit (Some price) k = cond (limit ≼ price) (Some price) (cond (limit ≼ k.high) (Some limit) None)

-- "A long limit fills if low ≤ level ..; a long stop if high ≥ level .."; a market order at the open
unfoldable pub long_fill : OrderKind → Candle → Option Float
long_fill Market k = Some k.«open»
long_fill (Limit level) k = reached_below level k
long_fill (Stop level) k = reached_above level k
long_fill (StopLimit stop limit) k = no_dearer_than limit (reached_above stop k) k

-- "a short mirrors"
unfoldable pub short_fill : OrderKind → Candle → Option Float
short_fill Market k = Some k.«open»
short_fill (Limit level) k = reached_above level k
short_fill (Stop level) k = reached_below level k
short_fill (StopLimit stop limit) k = no_cheaper_than limit (reached_below stop k) k

-- the raw price of the fill; absent: "works on unchanged"
unfoldable pub level_fill : Side → OrderKind → Candle → Option Float
level_fill Long kind k = long_fill kind k
level_fill Short kind k = short_fill kind k
