-- An entry away from the market (request 1) fills exactly where the bar reaches it, and this is said of the raw price, before slippage. For any level and
-- any bar, NaN and infinities too.
use Rattle.std.specs.Prelude.{◌≡◌, refl, Bool, true, false, cond, ◌⊎◌, Float, None, Option, Some}
use Rattle.words.specs.Prelude.{is_nan}
use Rattle.floats.specs.{Floats.◌≼◌, Floats.min, Floats.max, Laws.Order.numbers, Laws.Order.min_is, Laws.Order.max_is, Laws.Order.min_first}
use Rattle.floats.specs.{Laws.Order.min_second, Laws.Order.max_first, Laws.Order.max_second}
use Rattle.portfolio.specs.{declared.Candle.Candle}
use Rattle.execution.specs.{declared.level.Side.TheVariants.Long, declared.level.Side.TheVariants.Short}
use Rattle.execution.specs.{declared.level.OrderKind.TheVariants.Limit, declared.level.OrderKind.TheVariants.Stop}
use Rattle.execution.specs.{declared.level.OrderKind.TheVariants.StopLimit, Level.reached_below, Level.reached_above, Level.no_dearer_than, Level.no_cheaper_than}
use Rattle.execution.specs.{Level.long_fill, Level.short_fill, Level.level_fill}

-- Filled, at a price of which this is so, where a test says yes; not filled where it says no.
pub data FillsWhen (P : Float → Type 0) : Bool → Option Float → Type 0 where
  fills : (price : Float) → P price → FillsWhen P true (Some price)
  rests : FillsWhen P false None

-- "at min(open, level)": one of the two, at most the level, and at most the open where that is a number
pub record LowerOf (first level price : Float) : Type 0 where
  pub one : (price ≡ first) ⊎ (price ≡ level)
  pub within : price ≼ level ≡ true
  pub open_or_better : is_nan first ≡ false → price ≼ first ≡ true

-- "at max(open, level)"
pub record HigherOf (first level price : Float) : Type 0 where
  pub one : (price ≡ first) ⊎ (price ≡ level)
  pub within : level ≼ price ≡ true
  pub open_or_better : is_nan first ≡ false → first ≼ price ≡ true

by_test : (P : Float → Type 0) (price : Float) (b : Bool) → (b ≡ true → P price) → FillsWhen P b (cond b (Some price) None)
by_test P price true h = fills price (h refl)
by_test P price false h = rests

module _ (k : Candle) (level : Float) where
  lower : is_nan level ≡ false → LowerOf k.«open» level (min k.«open» level)
  lower n = record { one = min_is k.«open» level; within = min_second k.«open» level n; open_or_better = min_first k.«open» level }

  higher : is_nan level ≡ false → HigherOf k.«open» level (max k.«open» level)
  higher n = record { one = max_is k.«open» level; within = max_second k.«open» level n; open_or_better = max_first k.«open» level }

  from_above : FillsWhen (LowerOf k.«open» level) (k.low ≼ level) (reached_below level k)
  unfolding reached_below
  from_above = by_test (LowerOf k.«open» level) (min k.«open» level) (k.low ≼ level) (λ e. lower (numbers k.low level e).1)

  from_below : FillsWhen (HigherOf k.«open» level) (level ≼ k.high) (reached_above level k)
  unfolding reached_above
  from_below = by_test (HigherOf k.«open» level) (max k.«open» level) (level ≼ k.high) (λ e. higher (numbers level k.high e).0)

  -- "A long limit fills if low ≤ level, at min(open, level)", and only then.
  pub long_limit_fills : FillsWhen (LowerOf k.«open» level) (k.low ≼ level) (level_fill Long (Limit level) k)
  unfolding level_fill long_fill
  long_limit_fills = from_above

  -- "a long stop if high ≥ level, at max(open, level)", and only then
  pub long_stop_fills : FillsWhen (HigherOf k.«open» level) (level ≼ k.high) (level_fill Long (Stop level) k)
  unfolding level_fill long_fill
  long_stop_fills = from_below

  -- "a short mirrors"
  pub short_limit_fills : FillsWhen (HigherOf k.«open» level) (level ≼ k.high) (level_fill Short (Limit level) k)
  unfolding level_fill short_fill
  short_limit_fills = from_below

  pub short_stop_fills : FillsWhen (LowerOf k.«open» level) (k.low ≼ level) (level_fill Short (Stop level) k)
  unfolding level_fill short_fill
  short_stop_fills = from_above

-- "A long stop-limit that reaches its stop fills at the stop's price if that is no worse than the limit, else at the limit if low ≤ limit, else works
-- on unchanged": what becomes of a stop's fill, where `fine` says of a price that it is no worse than the limit.
pub data HeldTo (fine : Float → Bool) (limit : Float) (reached : Bool) : Option Float → Option Float → Type 0 where
  not_stopped : HeldTo fine limit reached None None
  at_stop : (price : Float) → fine price ≡ true → HeldTo fine limit reached (Some price) (Some price)
  at_limit : (price : Float) → fine price ≡ false → reached ≡ true → HeldTo fine limit reached (Some price) (Some limit)
  works_on : (price : Float) → fine price ≡ false → reached ≡ false → HeldTo fine limit reached (Some price) None

held : (fine : Float → Bool) (limit price : Float) (reached : Bool)
    → HeldTo fine limit reached (Some price) (cond (fine price) (Some price) (cond reached (Some limit) None))
held fine limit price reached = go (fine price) reached refl refl
  where
    go : (a b : Bool) → fine price ≡ a → reached ≡ b → HeldTo fine limit reached (Some price) (cond a (Some price) (cond b (Some limit) None))
    go true b e f = at_stop price e
    go false true e f = at_limit price e f
    go false false e f = works_on price e f

module _ (k : Candle) (stop limit : Float) where
  dearer : (o : Option Float) → HeldTo (λ price. price ≼ limit) limit (k.low ≼ limit) o (no_dearer_than limit o k)
  unfolding no_dearer_than
  dearer None = not_stopped
  dearer (Some price) = held (λ x. x ≼ limit) limit price (k.low ≼ limit)

  cheaper : (o : Option Float) → HeldTo (λ price. limit ≼ price) limit (limit ≼ k.high) o (no_cheaper_than limit o k)
  unfolding no_cheaper_than
  cheaper None = not_stopped
  cheaper (Some price) = held (λ x. limit ≼ x) limit price (limit ≼ k.high)

  -- A long stop-limit, beside the stop's own fill.
  pub long_stop_limit_fills : HeldTo (λ price. price ≼ limit) limit (k.low ≼ limit) (level_fill Long (Stop stop) k) (level_fill Long (StopLimit stop limit) k)
  unfolding level_fill long_fill
  long_stop_limit_fills = dearer (reached_above stop k)

  -- "a short mirrors"
  pub short_stop_limit_fills : HeldTo (λ price. limit ≼ price) limit (limit ≼ k.high) (level_fill Short (Stop stop) k)
      (level_fill Short (StopLimit stop limit) k)
  unfolding level_fill short_fill
  short_stop_limit_fills = cheaper (reached_below stop k)
