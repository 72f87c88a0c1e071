-- What whole lots come to: with a lot of 0 an entry is the Rust's, and with any other every quantity that is entered is k·lot.
use Rattle.std.specs.Prelude.{◌≡◌, refl, Bool, true, false, cond, ℕ, Float, Option, unwrap_or, None, Some}
use Rattle.words.specs.Prelude.{ap, subst, ◌∙◌, arith}
use Rattle.floats.specs.{Floats.◌⊗◌, Floats.◌⊘◌, Floats.◌≺◌, Floats.◌≼◌, Floats.min, Floats.eps, Floats.zero, Floats.one, Floor.as_u64, Floor.two_to53}
use Rattle.floats.specs.{Laws.Floor.Counts, Laws.Floor.counts, Sums.counted}
use Rattle.rows.specs.{History.History}
use Rattle.portfolio.specs.{declared.Candle.Candle, declared.Portfolio.Portfolio, Portfolio.entered}
use Rattle.execution.specs.{Costs.slippage_rate, Costs.fill_price, Costs.fee_rate, Size.size, Lots.whole_lots, Lots.in_lots}
use Rattle.execution.specs.{Lots.size_in_lots, Lots.is_too_large, Lots.or_zero, Fills.direction, Fills.volatility_for, Fills.quantity, Fills.probe_qty}
use Rattle.execution.specs.{Fills.within_volume, Fills.entry_with, Fills.execute_entry, Fills.is_turned_away, RustEntry.rust_probe, RustEntry.rust_fill}
use Rattle.execution.specs.{RustEntry.rust_entry, declared.fills.Entry.Entry, declared.fills.Entry.TheVariants.NoEntry}
use Rattle.execution.specs.{declared.fills.Entry.TheVariants.Entered, declared.lots.Quantity.Quantity}
use Rattle.execution.specs.{declared.lots.Quantity.TheVariants.Nothing, declared.lots.Quantity.TheVariants.TooLarge}
use Rattle.execution.specs.{declared.lots.Quantity.TheVariants.Of, declared.level.Side.Side, declared.terms.Slippage.Slippage}
use Rattle.execution.specs.{declared.terms.Slippage.TheVariants.FixedBps, declared.terms.Slippage.TheVariants.VolumeImpact}
use Rattle.execution.specs.{declared.terms.Slippage.TheVariants.Unknown, declared.terms.Terms.Terms}
use Rattle.std.specs.Float.Ieee as Ieee

-- ---- a lot of 0

-- the Rust turns none away
quantity_booked : (dir base fill bps : Float) (k : Candle) (p : Portfolio) → is_turned_away (entry_with dir (Of base) fill bps k p) ≡ false
unfolding entry_with
quantity_booked dir base fill bps k p =
    by_test (eps ≺ base) (entered p (dir ⊗ base) fill k.time (base ⊗ fill ⊗ fee_rate bps))
  where
    by_test : (some : Bool) (q : Portfolio) → is_turned_away (cond some (Entered q fill) NoEntry) ≡ false
    by_test true q = refl
    by_test false q = refl

rust_fills : (sized : Option Float) (dir fill bps : Float) (terms : Terms) (k : Candle) (p : Portfolio)
    → is_turned_away (rust_fill sized dir fill bps terms k p) ≡ false
unfolding rust_fill
rust_fills None dir fill bps terms k p = refl
rust_fills (Some base) dir fill bps terms k p = quantity_booked dir _ fill bps k p

module _ (terms : Terms) (none : Ieee.eq terms.lot zero ≡ true) where
  unchanged : (qty : Float) → in_lots terms.lot qty ≡ Of qty
  unfolding in_lots
  unchanged qty = rw none

  probe_as_before : (slippage : Slippage) (cash raw : Float) (rv : Option Float)
      → (is_too_large (probe_qty slippage terms cash raw rv) ≡ false) × (or_zero (probe_qty slippage terms cash raw rv) ≡ rust_probe slippage terms cash raw rv)
  unfolding probe_qty quantity rust_probe size_in_lots
  probe_as_before (FixedBps bps) cash raw rv = (refl, refl)
  probe_as_before Unknown cash raw rv = (refl, refl)
  probe_as_before (VolumeImpact coef) cash raw rv = sized (size terms.sizing terms.risk cash raw rv)
    where
      sized : (o : Option Float) → (is_too_large (size_in_lots terms.lot o) ≡ false) × (or_zero (size_in_lots terms.lot o) ≡ unwrap_or o zero)
      sized None = (refl, refl)
      sized (Some qty) = rw (unchanged qty) (refl, refl)

  fill_as_before : (sized : Option Float) (dir fill bps : Float) (k : Candle) (p : Portfolio)
      → entry_with dir (within_volume terms (size_in_lots terms.lot sized) k.volume) fill bps k p ≡ rust_fill sized dir fill bps terms k p
  unfolding size_in_lots within_volume entry_with rust_fill
  fill_as_before None dir fill bps k p = refl
  fill_as_before (Some qty) dir fill bps k p = rw (unchanged qty) (by_switch terms.partial_fills)
    where
      by_switch : (on : Bool) → entry_with dir (cond on (in_lots terms.lot (min qty (terms.max_participation ⊗ k.volume))) (Of qty)) fill bps k p
          ≡ entry_with dir (Of (cond on (min qty (terms.max_participation ⊗ k.volume)) qty)) fill bps k p
      by_switch true = rw (unchanged _)
      by_switch false = refl

  -- WITH A LOT OF 0 an entry is the Rust's.
  pub no_lots : (side : Side) (raw bps : Float) (k : Candle) (p : Portfolio) (h : History)
      → execute_entry side raw bps terms k p h ≡ rust_entry side raw bps terms k p h
  unfolding execute_entry rust_entry quantity
  no_lots side raw bps k p h =
      let probe = probe_as_before terms.slippage p.cash raw (volatility_for terms.sizing h) in
      rw (probe.0, probe.1) (fill_as_before _ _ _ bps k p)

  -- and none is turned away
  pub none_turned_away : (side : Side) (raw bps : Float) (k : Candle) (p : Portfolio) (h : History)
      → is_turned_away (execute_entry side raw bps terms k p h) ≡ false
  unfolding rust_entry
  none_turned_away side raw bps k p h = ap is_turned_away (no_lots side raw bps k p h) ∙ rust_fills _ _ _ bps terms k p

-- ---- any other lot

-- q is k·lot, where k is the largest whole number at most some quantity's quotient by the lot, from 1 to below 2^53 and exact as a float.
pub record InWholeLots (lot q : Float) : Type 0 where
  pub qty : Float
  pub k : ℕ
  pub counts : Counts (qty ⊘ lot) k
  pub made : q ≡ counted k ⊗ lot

-- a quantity that is entered: such a q with the side's sign
pub record EntersLots (lot dir qty : Float) : Type 0 where
  pub q : Float
  pub whole : InWholeLots lot q
  pub made : qty ≡ dir ⊗ q

module _ (lot : Float) (some : Ieee.eq lot zero ≡ false) where
  in_lots_lem : (qty q : Float) → in_lots lot qty ≡ Of q → InWholeLots lot q
  unfolding in_lots whole_lots
  in_lots_lem qty q e = go (two_to53 ≼ (qty ⊘ lot)) (one ≼ (qty ⊘ lot)) refl refl (rw some at e)
    where
      go : (large counted-at : Bool) → two_to53 ≼ (qty ⊘ lot) ≡ large → one ≼ (qty ⊘ lot) ≡ counted-at
          → cond large TooLarge (cond counted-at (Of (counted (as_u64 (qty ⊘ lot)) ⊗ lot)) Nothing) ≡ Of q → InWholeLots lot q
      go true b l h e = absurd (let z : ◌≡◌ {A = ℕ} 0 1 = cc in omega arith)
      go false false l h e = absurd (let z : ◌≡◌ {A = ℕ} 0 1 = cc in omega arith)
      go false true l h e = record { qty = qty; k = as_u64 (qty ⊘ lot); counts = counts (qty ⊘ lot) h l; made = cc }

  -- a size in lots
  sized_in_lots : (o : Option Float) (q : Float) → size_in_lots lot o ≡ Of q → InWholeLots lot q
  unfolding size_in_lots
  sized_in_lots None q e = absurd (let z : ◌≡◌ {A = ℕ} 0 1 = cc in omega arith)
  sized_in_lots (Some qty) q e = in_lots_lem qty q e

-- what the partial-fill cap leaves is in lots where the size is
within_in_lots : (terms : Terms) (volume : Float) → Ieee.eq terms.lot zero ≡ false → (w : Quantity) (q : Float)
    → ((b : Float) → w ≡ Of b → InWholeLots terms.lot b) → within_volume terms w volume ≡ Of q → InWholeLots terms.lot q
unfolding within_volume
within_in_lots terms volume some Nothing q sized e = absurd (let z : ◌≡◌ {A = ℕ} 0 1 = cc in omega arith)
within_in_lots terms volume some TooLarge q sized e = absurd (let z : ◌≡◌ {A = ℕ} 0 1 = cc in omega arith)
within_in_lots terms volume some (Of b) q sized e = by_switch terms.partial_fills e
  where
    by_switch : (on : Bool) → cond on (in_lots terms.lot (min b (terms.max_participation ⊗ volume))) (Of b) ≡ Of q → InWholeLots terms.lot q
    by_switch true e = in_lots_lem terms.lot some _ q e
    by_switch false e = sized q e

-- what is entered is what was ordered, with its sign
booked_qty : (dir : Float) (w : Quantity) (fill bps : Float) (k : Candle) (p q : Portfolio) (at : Float) (P : Float → Type 0)
    → ((b : Float) → w ≡ Of b → P (dir ⊗ b)) → entry_with dir w fill bps k p ≡ Entered q at → P q.qty
unfolding entry_with entered
booked_qty dir Nothing fill bps k p q at P each e = absurd (let z : ◌≡◌ {A = ℕ} 0 1 = cc in omega arith)
booked_qty dir TooLarge fill bps k p q at P each e = absurd (let z : ◌≡◌ {A = ℕ} 0 1 = cc in omega arith)
booked_qty dir (Of b) fill bps k p q at P each e = by_test (eps ≺ b) e
  where
    opened : Portfolio
    opened = entered p (dir ⊗ b) fill k.time (b ⊗ fill ⊗ fee_rate bps)

    by_test : (some : Bool) → cond some (Entered opened fill) NoEntry ≡ Entered q at → P q.qty
    by_test true e = let same : opened ≡ q = cc in subst (λ (x : Portfolio). P x.qty) same (each b refl)
    by_test false e = absurd (let z : ◌≡◌ {A = ℕ} 0 1 = cc in omega arith)

-- WITH ANY OTHER LOT every quantity that is entered is k·lot for a whole k from 1 to below 2^53.
pub entered-in_lots : (side : Side) (raw bps : Float) (terms : Terms) (k : Candle) (p q : Portfolio) (h : History) (fill : Float)
    → Ieee.eq terms.lot zero ≡ false → execute_entry side raw bps terms k p h ≡ Entered q fill → EntersLots terms.lot (direction side) q.qty
unfolding execute_entry quantity
entered-in_lots side raw bps terms k p q h fill some e =
    let rv = volatility_for terms.sizing h in
    let probe = probe_qty terms.slippage terms p.cash raw rv in
    by_probe (is_too_large probe) (fill_price raw (direction side) (slippage_rate terms.slippage (or_zero probe) k.volume)) e
  where
    ordered : Float → Quantity
    ordered price =
        within_volume terms (size_in_lots terms.lot (size terms.sizing terms.risk p.cash price (volatility_for terms.sizing h))) k.volume

    by_probe : (large : Bool) (price : Float) → cond large Entry.TooLarge (entry_with (direction side) (ordered price) price bps k p) ≡ Entered q fill
        → EntersLots terms.lot (direction side) q.qty
    by_probe true price e = absurd (let z : ◌≡◌ {A = ℕ} 0 1 = cc in omega arith)
    by_probe false price e =
        booked_qty (direction side) (ordered price) price bps k p q fill (EntersLots terms.lot (direction side))
        (λ b t. record {
          q = b;
          whole = within_in_lots terms k.volume some _ b (sized_in_lots terms.lot some _) t;
          made = refl;
        }) e
