-- What a client may count on of an entry away from the market: it fills only on a bar that reaches its level, and its raw price, before slippage, is no
-- worse than a limit and no better than a stop. Assumes nothing.
use Rattle.std.specs.Prelude.{◌≡◌, refl, Bool, true, false, cond, Float, None, Option, Some}
use Rattle.floats.specs.{Floats.◌≼◌, Floats.min, Floats.max, Laws.Order.numbers, Laws.Order.itself, Laws.Order.min_second, Laws.Order.max_second}
use Rattle.portfolio.specs.{declared.Candle.Candle}
use Rattle.execution.specs.{declared.level.Side.TheVariants.Long, declared.level.Side.TheVariants.Short}
use Rattle.execution.specs.{declared.level.OrderKind.TheVariants.Limit, declared.level.OrderKind.TheVariants.Stop}
use Rattle.execution.specs.{declared.level.OrderKind.TheVariants.StopLimit, Level.reached_below, Level.reached_above, Level.no_dearer_than}
use Rattle.execution.specs.{Level.no_cheaper_than, Level.long_fill, Level.short_fill, Level.level_fill}

-- so of the price, where there is a fill
unfoldable pub WhereFilled : (Float → Type 0) → Option Float → Type 0
WhereFilled P None = Unit {0}
WhereFilled P (Some price) = P price

-- a price that is given on a test alone
on_test : (P : Float → Type 0) (b : Bool) (price : Float) → (b ≡ true → P price) → WhereFilled P (cond b (Some price) None)
unfolding WhereFilled
on_test P true price h = h refl
on_test P false price h = tt

module _ (k : Candle) (level : Float) where
  -- filled from above: the bar came down to the level, and the price is at most it
  from_above : WhereFilled (λ price. (k.low ≼ level ≡ true) × (price ≼ level ≡ true)) (reached_below level k)
  unfolding reached_below
  from_above =
      on_test (λ price. (k.low ≼ level ≡ true) × (price ≼ level ≡ true)) (k.low ≼ level) (min k.«open» level)
      (λ e. (e, min_second k.«open» level (numbers k.low level e).1))

  -- filled from below: the bar came up to the level, and the price is at least it
  from_below : WhereFilled (λ price. (level ≼ k.high ≡ true) × (level ≼ price ≡ true)) (reached_above level k)
  unfolding reached_above
  from_below =
      on_test (λ price. (level ≼ k.high ≡ true) × (level ≼ price ≡ true)) (level ≼ k.high) (max k.«open» level)
      (λ e. (e, max_second k.«open» level (numbers level k.high e).0))

  -- A long limit fills only on a bar whose low is at most its level, and at a raw price of at most its level.
  pub long_limit : WhereFilled (λ price. (k.low ≼ level ≡ true) × (price ≼ level ≡ true)) (level_fill Long (Limit level) k)
  unfolding level_fill long_fill
  long_limit = from_above

  -- A short limit fills only on a bar whose high is at least its level, and at a raw price of at least its level.
  pub short_limit : WhereFilled (λ price. (level ≼ k.high ≡ true) × (level ≼ price ≡ true)) (level_fill Short (Limit level) k)
  unfolding level_fill short_fill
  short_limit = from_below

  -- A long stop fills only on a bar whose high is at least its level, and at a raw price of at least its level.
  pub long_stop : WhereFilled (λ price. (level ≼ k.high ≡ true) × (level ≼ price ≡ true)) (level_fill Long (Stop level) k)
  unfolding level_fill long_fill
  long_stop = from_below

  -- A short stop fills only on a bar whose low is at most its level, and at a raw price of at most its level.
  pub short_stop : WhereFilled (λ price. (k.low ≼ level ≡ true) × (price ≼ level ≡ true)) (level_fill Short (Stop level) k)
  unfolding level_fill short_fill
  short_stop = from_above

-- ---- a stop-limit

-- held to a limit: what is so of the stop's price is so of the fill, and the fill is no worse than the limit
held_to : (S : Type 0) (fine : Float → Bool) (price limit : Float) (reached : Bool) → S → (reached ≡ true → fine limit ≡ true)
    → WhereFilled (λ x. S × (fine x ≡ true)) (cond (fine price) (Some price) (cond reached (Some limit) None))
unfolding WhereFilled
held_to S fine price limit reached h ok = go (fine price) reached refl refl
  where
    go : (a b : Bool) → fine price ≡ a → reached ≡ b → WhereFilled (λ x. S × (fine x ≡ true)) (cond a (Some price) (cond b (Some limit) None))
    go true b e f = (h, e)
    go false true e f = (h, ok f)
    go false false e f = tt

module _ (k : Candle) (limit : Float) (S : Type 0) where
  within : (o : Option Float) → WhereFilled (λ price. S) o → WhereFilled (λ price. S × (price ≼ limit ≡ true)) (no_dearer_than limit o k)
  unfolding WhereFilled no_dearer_than
  within None h = tt
  within (Some price) h = held_to S (λ x. x ≼ limit) price limit (k.low ≼ limit) h (λ f. itself limit (numbers k.low limit f).1)

  above : (o : Option Float) → WhereFilled (λ price. S) o → WhereFilled (λ price. S × (limit ≼ price ≡ true)) (no_cheaper_than limit o k)
  unfolding WhereFilled no_cheaper_than
  above None h = tt
  above (Some price) h = held_to S (λ x. limit ≼ x) price limit (limit ≼ k.high) h (λ f. itself limit (numbers limit k.high f).0)

-- what is so of a price with more is so with less
first_of : (S : Type 0) (P : Float → Type 0) (o : Option Float) → WhereFilled (λ price. S × P price) o → WhereFilled (λ price. S) o
unfolding WhereFilled
first_of S P None h = tt
first_of S P (Some price) h = h.0

module _ (k : Candle) (stop limit : Float) where
  -- A long stop-limit fills only on a bar whose high reaches its stop, and at a raw price of at most its limit.
  pub long_stop_limit : WhereFilled (λ price. (stop ≼ k.high ≡ true) × (price ≼ limit ≡ true)) (level_fill Long (StopLimit stop limit) k)
  unfolding level_fill long_fill
  long_stop_limit =
      within k limit (stop ≼ k.high ≡ true) (reached_above stop k)
      (first_of (stop ≼ k.high ≡ true) (λ price. stop ≼ price ≡ true) (reached_above stop k) (from_below k stop))

  -- A short stop-limit fills only on a bar whose low reaches its stop, and at a raw price of at least its limit.
  pub short_stop_limit : WhereFilled (λ price. (k.low ≼ stop ≡ true) × (limit ≼ price ≡ true)) (level_fill Short (StopLimit stop limit) k)
  unfolding level_fill short_fill
  short_stop_limit =
      above k limit (k.low ≼ stop ≡ true) (reached_below stop k)
      (first_of (k.low ≼ stop ≡ true) (λ price. price ≼ stop ≡ true) (reached_below stop k) (from_above k stop))
