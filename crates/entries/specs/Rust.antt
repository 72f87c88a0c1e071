-- The Rust's own entry, which drops a quantity of 0 or less where ours drops one of at most EPS (request 7): with a lot of 0 the two are the same, but for
-- such dust.
use Rattle.std.specs.Prelude.{◌≡◌, refl, ◌⊎◌, Bool, true, false, cond, Float, None, Option, Some}
use Rattle.words.specs.Prelude.{is_nan}
use Rattle.words.specs.Prelude.{sym, ◌∙◌, inl, inr, true≢false}
use Rattle.floats.specs.{Floats.◌⊗◌, Floats.◌≺◌, Floats.◌≼◌, Floats.min, Floats.eps, Floats.zero, Laws.Order.not-below, Laws.Order.not_above}
use Rattle.floats.specs.{Laws.Order.numbers, Laws.Order.in_turn}
use Rattle.rows.specs.{History.History}
use Rattle.portfolio.specs.{declared.Candle.Candle, declared.Portfolio.Portfolio, Portfolio.entered}
use Rattle.execution.specs.{Costs.slippage_rate, Costs.fill_price, Costs.fee_rate, Size.size, Fills.direction, Fills.volatility_for, Fills.entry_with}
use Rattle.execution.specs.{Fills.execute_entry, RustEntry.rust_probe, RustEntry.rust_fill, RustEntry.rust_entry, WholeLots.no_lots, declared.fills.Entry.Entry}
use Rattle.execution.specs.{declared.fills.Entry.TheVariants.NoEntry, declared.fills.Entry.TheVariants.Entered}
use Rattle.execution.specs.{declared.level.Side.Side}
use Rattle.execution.specs.{declared.terms.Terms.Terms}
use Rattle.std.specs.Float.Ieee as Ieee

-- `let base = if partial_fills { base.min(max_participation * volume) } else { base };`
unfoldable pub base_of : Terms → Float → Float → Float
base_of terms volume base = cond terms.partial_fills (min base (terms.max_participation ⊗ volume)) base

-- `if base > 0.0 { let fee = base * fill * rate;  pf.enter(dir * base, fill, candle.time, fee); .. }`
unfoldable pub the_rust_fills : Option Float → Float → Float → Float → Terms → Candle → Portfolio → Entry
the_rust_fills None dir fill bps terms k p = NoEntry
the_rust_fills (Some base) dir fill bps terms k p =
    cond (zero ≺ base_of terms k.volume base)
    (Entered (entered p (dir ⊗ base_of terms k.volume base) fill k.time (base_of terms k.volume base ⊗ fill ⊗ fee_rate bps)) fill)
    NoEntry

-- the price of its fill, and `execute_entry`
unfoldable pub the_rusts_fill : Side → Float → Terms → Candle → Portfolio → History → Float
the_rusts_fill side raw terms k p h =
    fill_price raw (direction side)
    (slippage_rate terms.slippage (rust_probe terms.slippage terms p.cash raw (volatility_for terms.sizing h)) k.volume)

unfoldable pub the_rusts_entry : Side → Float → Float → Terms → Candle → Portfolio → History → Entry
the_rusts_entry side raw bps terms k p h =
    the_rust_fills (size terms.sizing terms.risk p.cash (the_rusts_fill side raw terms k p h) (volatility_for terms.sizing h))
    (direction side) (the_rusts_fill side raw terms k p h) bps terms k p

-- dust: a quantity above 0 and at most EPS
pub data Dust (terms : Terms) (volume : Float) : Option Float → Type 0 where
  dust : (base : Float) → zero ≺ base_of terms volume base ≡ true → eps ≺ base_of terms volume base ≡ false → Dust terms volume (Some base)

above_at_most : (x y : Float) → x ≺ y ≡ true → x ≼ y ≡ true
unfolding Ieee.le
above_at_most x y h = rw h

zero_number : is_nan zero ≡ false
unfolding Ieee.is_nan Ieee.of_bits
zero_number = refl

zero_under_eps : zero ≼ eps ≡ true
unfolding Ieee.le Ieee.lt Ieee.eq Ieee.of_bits
zero_under_eps = refl

-- what is above EPS is above 0
some_above : (x : Float) → eps ≺ x ≡ true → zero ≺ x ≡ true
some_above x e = go (zero ≺ x) refl
  where
    go : (b : Bool) → zero ≺ x ≡ b → b ≡ true
    go true f = refl
    go false f =
        let x-number : is_nan x ≡ false = (numbers eps x (above_at_most eps x e)).1 in
        let under : x ≼ zero ≡ true = not-below x zero x-number zero_number f in
        absurd (true≢false (sym e ∙ not_above x eps (in_turn x zero eps under zero_under_eps)))

module _ (terms : Terms) (none : Ieee.eq terms.lot zero ≡ true) (side : Side) (raw bps : Float) (k : Candle) (p : Portfolio) (h : History) where
  fills_alike : (sized : Option Float) (fill : Float)
      → (rust_fill sized (direction side) fill bps terms k p ≡ the_rust_fills sized (direction side) fill bps terms k p) ⊎ Dust terms k.volume sized
  unfolding rust_fill the_rust_fills entry_with base_of
  fills_alike None fill = inl refl
  fills_alike (Some base) fill = go (zero ≺ base_of terms k.volume base) (eps ≺ base_of terms k.volume base) refl refl
    where
      b : Float
      b = base_of terms k.volume base

      opened : Portfolio
      opened = entered p (direction side ⊗ b) fill k.time (b ⊗ fill ⊗ fee_rate bps)

      go : (some more : Bool) → zero ≺ b ≡ some → eps ≺ b ≡ more
          → (cond more (Entered opened fill) NoEntry ≡ cond some (Entered opened fill) NoEntry) ⊎ Dust terms k.volume (Some base)
      go true true e f = inl refl
      go true false e f = inr (dust base e f)
      go false true e f = inl (absurd (true≢false (sym (some_above b f) ∙ e)))
      go false false e f = inl refl

  -- THE RUST'S ENTRY, but for dust.
  pub the_rusts_entry_lem : (execute_entry side raw bps terms k p h ≡ the_rusts_entry side raw bps terms k p h)
      ⊎ Dust terms k.volume (size terms.sizing terms.risk p.cash (the_rusts_fill side raw terms k p h) (volatility_for terms.sizing h))
  unfolding rust_entry the_rusts_entry the_rusts_fill
  the_rusts_entry_lem = go (fills_alike (size terms.sizing terms.risk p.cash (the_rusts_fill side raw terms k p h) (volatility_for terms.sizing h))
      (the_rusts_fill side raw terms k p h))
    where
      go : {A : Type 0} → (rust_entry side raw bps terms k p h ≡ the_rusts_entry side raw bps terms k p h) ⊎ A
          → (execute_entry side raw bps terms k p h ≡ the_rusts_entry side raw bps terms k p h) ⊎ A
      go (inl e) = inl (no_lots terms none side raw bps k p h ∙ e)
      go (inr d) = inr d
