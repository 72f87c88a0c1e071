-- Whole lots (request 5): with a lot that is not 0 what is entered is k·lot of the size that `size` gives at the fill, or of the lesser of that and the
-- share of the volume; and which entries are turned away, exactly.
use Rattle.std.specs.Prelude.{◌≡◌, refl, Bool, true, false, cond, ℕ, Float, Option, None, Some}
use Rattle.words.specs.Prelude.{sym, ap, ◌∙◌, true≢false, arith}
use Rattle.floats.specs.{Floats.◌⊗◌, Floats.◌⊘◌, Floats.◌≺◌, Floats.◌≼◌, Floats.min, Floats.eps, Floats.zero, Floats.one, Floor.as_u64, Floor.two_to53}
use Rattle.floats.specs.{Laws.Floor.Counts, Laws.Floor.counts, Sums.counted}
use Rattle.rows.specs.{History.History}
use Rattle.portfolio.specs.{declared.Candle.Candle, declared.Portfolio.Portfolio}
use Rattle.execution.specs.{Size.size, Lots.whole_lots, Lots.in_lots, Lots.size_in_lots, Lots.is_too_large, Fills.direction, Fills.volatility_for}
use Rattle.execution.specs.{Fills.quantity, Fills.probe_qty, Fills.within_volume, Fills.entry_with, Fills.execute_entry, Fills.is_turned_away}
use Rattle.execution.specs.{WholeLots.none_turned_away, declared.fills.Entry.Entry, declared.fills.Entry.TheVariants.NoEntry}
use Rattle.execution.specs.{declared.fills.Entry.TheVariants.Entered, declared.lots.Quantity.Quantity}
use Rattle.execution.specs.{declared.lots.Quantity.TheVariants.Nothing, declared.lots.Quantity.TheVariants.TooLarge, declared.lots.Quantity.TheVariants.Of}
use Rattle.execution.specs.{declared.level.Side.Side, declared.terms.Slippage.Slippage, declared.terms.Slippage.TheVariants.FixedBps}
use Rattle.execution.specs.{declared.terms.Slippage.TheVariants.VolumeImpact, declared.terms.Slippage.TheVariants.Unknown, declared.terms.Terms.Terms}
use Rattle.entries.specs.{Ordered.fill_of, Ordered.ordered_at, Ordered.entering}
use Rattle.std.specs.Float.Ieee as Ieee

-- "The quantity becomes k·lot, k the largest whole number at most qty/lot as floats compute it": q is that of qty, k from 1 to below 2^53 and exact as a float.
pub record LotsOf (lot qty q : Float) : Type 0 where
  pub k : ℕ
  pub counts : Counts (qty ⊘ lot) k
  pub made : q ≡ counted k ⊗ lot

-- the share of the volume that an entry may take
abbrev pub share_of : Terms → Float → Float
share_of terms volume = terms.max_participation ⊗ volume

-- "This applies after the leverage cap and again after the partial-fill cap where that is on": q is what is ordered of the size that `size` gave.
pub data Orders (terms : Terms) (volume : Float) (sized : Option Float) : Float → Type 0 where
  the_size : (qty q : Float) → sized ≡ Some qty → terms.partial_fills ≡ false → LotsOf terms.lot qty q → Orders terms volume sized q
  the_lesser : (qty base q : Float) → sized ≡ Some qty → terms.partial_fills ≡ true → LotsOf terms.lot qty base
      → LotsOf terms.lot (min base (share_of terms volume)) q → Orders terms volume sized q

-- "a quotient of 2^53 or more"
abbrev pub TooMany : Float → Float → Type 0
TooMany lot qty = two_to53 ≼ (qty ⊘ lot) ≡ true

-- one of an entry's quotients is so large: the probe's, where slippage is by volume; the size's at the fill; or that of the lesser of it and the share
pub data TurnsAway (terms : Terms) (volume : Float) (probed sized : Option Float) : Type 0 where
  in_probe : (coef qty : Float) → terms.slippage ≡ VolumeImpact coef → probed ≡ Some qty → TooMany terms.lot qty
      → TurnsAway terms volume probed sized
  in_size : (qty : Float) → sized ≡ Some qty → TooMany terms.lot qty → TurnsAway terms volume probed sized
  in_share : (qty base : Float) → sized ≡ Some qty → in_lots terms.lot qty ≡ Of base → terms.partial_fills ≡ true
      → TooMany terms.lot (min base (share_of terms volume)) → TurnsAway terms volume probed sized

-- ---- a quantity in lots

module _ (lot : Float) (some : Ieee.eq lot zero ≡ false) where
  -- what a quantity in lots is
  data InLots (qty : Float) : Quantity → Type 0 where
    none : InLots qty Nothing
    too_many : TooMany lot qty → InLots qty TooLarge
    lots : (q : Float) → LotsOf lot qty q → InLots qty (Of q)

  in_lots_lem : (qty : Float) → InLots qty (in_lots lot qty)
  unfolding in_lots whole_lots
  in_lots_lem qty = rw some (go (two_to53 ≼ (qty ⊘ lot)) (one ≼ (qty ⊘ lot)) refl refl)
    where
      go : (large counted-at : Bool) → two_to53 ≼ (qty ⊘ lot) ≡ large → one ≼ (qty ⊘ lot) ≡ counted-at
          → InLots qty (cond large TooLarge (cond counted-at (Of (counted (as_u64 (qty ⊘ lot)) ⊗ lot)) Nothing))
      go true b l h = too_many l
      go false true l h = lots _ (record { k = as_u64 (qty ⊘ lot); counts = counts (qty ⊘ lot) h l; made = refl })
      go false false l h = none

  lots_are : (qty base : Float) → in_lots lot qty ≡ Of base → LotsOf lot qty base
  lots_are qty base e = go (in_lots_lem qty) e
    where
      go : {w : Quantity} → InLots qty w → w ≡ Of base → LotsOf lot qty base
      go none e = absurd (let z : ◌≡◌ {A = ℕ} 0 1 = cc in omega arith)
      go (too_many l) e = absurd (let z : ◌≡◌ {A = ℕ} 0 1 = cc in omega arith)
      go (lots q m) e = let same : q ≡ base = cc in rw (← same) m

  large_are : (qty : Float) → in_lots lot qty ≡ TooLarge → TooMany lot qty
  large_are qty e = go (in_lots_lem qty) e
    where
      go : {w : Quantity} → InLots qty w → w ≡ TooLarge → TooMany lot qty
      go none e = absurd (let z : ◌≡◌ {A = ℕ} 0 1 = cc in omega arith)
      go (too_many l) e = l
      go (lots q m) e = absurd (let z : ◌≡◌ {A = ℕ} 0 1 = cc in omega arith)

  large_lots : (qty : Float) → TooMany lot qty → in_lots lot qty ≡ TooLarge
  unfolding in_lots whole_lots
  large_lots qty l = rw (some, l)

-- ---- what is ordered of a size

module _ (terms : Terms) (volume : Float) (some : Ieee.eq terms.lot zero ≡ false) where
  ordered_of : (sized : Option Float) (q : Float) → within_volume terms (size_in_lots terms.lot sized) volume ≡ Of q → Orders terms volume sized q
  unfolding size_in_lots within_volume
  ordered_of None q e = absurd (let z : ◌≡◌ {A = ℕ} 0 1 = cc in omega arith)
  ordered_of (Some qty) q e = go (in_lots terms.lot qty) refl e
    where
      switched : (base : Float) → in_lots terms.lot qty ≡ Of base → (on : Bool) → terms.partial_fills ≡ on
          → cond on (in_lots terms.lot (min base (share_of terms volume))) (Of base) ≡ Of q → Orders terms volume (Some qty) q
      switched base m true p e = the_lesser qty base q refl p (lots_are terms.lot some qty base m) (lots_are terms.lot some _ q e)
      switched base m false p e = let same : base ≡ q = cc in the_size qty q refl p (lots_are terms.lot some qty q (m ∙ ap Of same))

      go : (w : Quantity) → in_lots terms.lot qty ≡ w → within_volume terms w volume ≡ Of q → Orders terms volume (Some qty) q
      go Nothing m e = absurd (let z : ◌≡◌ {A = ℕ} 0 1 = cc in omega arith)
      go TooLarge m e = absurd (let z : ◌≡◌ {A = ℕ} 0 1 = cc in omega arith)
      go (Of base) m e = switched base m terms.partial_fills refl e

  module _ (probed : Option Float) where
    turned_of : (sized : Option Float) → within_volume terms (size_in_lots terms.lot sized) volume ≡ TooLarge → TurnsAway terms volume probed sized
    unfolding size_in_lots within_volume
    turned_of None e = absurd (let z : ◌≡◌ {A = ℕ} 0 1 = cc in omega arith)
    turned_of (Some qty) e = go (in_lots terms.lot qty) refl e
      where
        switched : (base : Float) → in_lots terms.lot qty ≡ Of base → (on : Bool) → terms.partial_fills ≡ on
            → cond on (in_lots terms.lot (min base (share_of terms volume))) (Of base) ≡ TooLarge → TurnsAway terms volume probed (Some qty)
        switched base m true p e = in_share qty base refl m p (large_are terms.lot some _ e)
        switched base m false p e = absurd (let z : ◌≡◌ {A = ℕ} 0 1 = cc in omega arith)

        go : (w : Quantity) → in_lots terms.lot qty ≡ w → within_volume terms w volume ≡ TooLarge → TurnsAway terms volume probed (Some qty)
        go Nothing m e = absurd (let z : ◌≡◌ {A = ℕ} 0 1 = cc in omega arith)
        go TooLarge m e = in_size qty refl (large_are terms.lot some qty m)
        go (Of base) m e = switched base m terms.partial_fills refl e

  -- a probe that is too large is one by volume
  probed_of : (cash raw : Float) (rv sized : Option Float) (slippage : Slippage) → terms.slippage ≡ slippage
      → is_too_large (probe_qty slippage terms cash raw rv) ≡ true → TurnsAway terms volume (size terms.sizing terms.risk cash raw rv) sized
  unfolding probe_qty quantity size_in_lots
  probed_of cash raw rv sized (FixedBps bps) s e = absurd (true≢false (sym e))
  probed_of cash raw rv sized Unknown s e = absurd (true≢false (sym e))
  probed_of cash raw rv sized (VolumeImpact coef) s e = of_size (size terms.sizing terms.risk cash raw rv) e
    where
      of_lots : (qty : Float) (w : Quantity) → in_lots terms.lot qty ≡ w → is_too_large w ≡ true → TurnsAway terms volume (Some qty) sized
      of_lots qty Nothing m e = absurd (true≢false (sym e))
      of_lots qty (Of q) m e = absurd (true≢false (sym e))
      of_lots qty TooLarge m e = in_probe coef qty s refl (large_are terms.lot some qty m)

      of_size : (o : Option Float) → is_too_large (size_in_lots terms.lot o) ≡ true → TurnsAway terms volume o sized
      of_size None e = absurd (true≢false (sym e))
      of_size (Some qty) e = of_lots qty (in_lots terms.lot qty) refl e

-- ---- an entry

module _ (side : Side) (raw bps : Float) (terms : Terms) (k : Candle) (p : Portfolio) (h : History) where
  -- what `size` gives for the probe, at the raw price, and at the fill
  abbrev pub probed_size : Option Float
  probed_size = size terms.sizing terms.risk p.cash raw (volatility_for terms.sizing h)

  abbrev pub size_at : Float → Option Float
  size_at fill = size terms.sizing terms.risk p.cash fill (volatility_for terms.sizing h)

  -- A quantity that is entered at a fill: what is ordered of the size there, with the side's sign.
  pub record EntersLots (q : Portfolio) (fill : Float) : Type 0 where
    pub base : Float
    pub at : fill ≡ fill_of side raw terms k p h
    pub orders : Orders terms k.volume (size_at fill) base
    pub signed : q.qty ≡ direction side ⊗ base

  -- ENTERED IN LOTS: with a lot that is not 0.
  pub entered_lots : Ieee.eq terms.lot zero ≡ false → (q : Portfolio) (fill : Float) → execute_entry side raw bps terms k p h ≡ Entered q fill
      → EntersLots q fill
  unfolding ordered_at quantity
  entered_lots some q fill e =
      let t = entering side raw bps terms k p h q fill e in
      record { base = t.base; at = t.at; orders = ordered_of terms k.volume some (size_at fill) t.base t.ordered; signed = t.signed }

  large_turned : ordered_at (fill_of side raw terms k p h) terms k p h ≡ TooLarge → is_turned_away (execute_entry side raw bps terms k p h) ≡ true
  unfolding execute_entry fill_of ordered_at entry_with
  large_turned e = rw e (either (is_too_large (probe_qty terms.slippage terms p.cash raw (volatility_for terms.sizing h))))
    where
      either : (b : Bool) → is_turned_away (cond b Entry.TooLarge Entry.TooLarge) ≡ true
      either true = refl
      either false = refl

  -- TURNED AWAY where one of its quotients is 2^53 or more, the lot not being 0 ..
  pub turned_away_if : Ieee.eq terms.lot zero ≡ false → TurnsAway terms k.volume probed_size (size_at (fill_of side raw terms k p h))
      → is_turned_away (execute_entry side raw bps terms k p h) ≡ true
  turned_away_if some (in_probe coef qty s e l) = unfold execute_entry probe_qty quantity size_in_lots in rw (s, e, large_lots terms.lot some qty l)
  turned_away_if some (in_size qty e l) = large_turned (unfold ordered_at quantity size_in_lots within_volume in rw (e, large_lots terms.lot some qty l))
  turned_away_if some (in_share qty base e m on l) =
      large_turned (unfold ordered_at quantity size_in_lots within_volume in rw (e, m, on, large_lots terms.lot some (min base (share_of terms k.volume)) l))

  -- .. and only there
  pub turned_away_only_if : is_turned_away (execute_entry side raw bps terms k p h) ≡ true
      → (Ieee.eq terms.lot zero ≡ false) × TurnsAway terms k.volume probed_size (size_at (fill_of side raw terms k p h))
  unfolding execute_entry fill_of quantity
  turned_away_only_if e = lotted (Ieee.eq terms.lot zero) refl
    where
      rv : Option Float
      rv = volatility_for terms.sizing h

      fill : Float
      fill = fill_of side raw terms k p h

      booked_large : (w : Quantity) → within_volume terms (size_in_lots terms.lot (size_at fill)) k.volume ≡ w
          → is_turned_away (entry_with (direction side) w fill bps k p) ≡ true → Ieee.eq terms.lot zero ≡ false
          → TurnsAway terms k.volume probed_size (size_at fill)
      booked_large Nothing m e some = absurd (true≢false (sym (unfold entry_with in e)))
      booked_large TooLarge m e some = turned_of terms k.volume some probed_size (size_at fill) m
      booked_large (Of base) m e some = absurd (true≢false (sym e ∙ quantity_stays base))
        where
          quantity_stays : (b : Float) → is_turned_away (entry_with (direction side) (Of b) fill bps k p) ≡ false
          quantity_stays b = unfold entry_with in either (eps ≺ b) _
            where
              either : (c : Bool) (x : Portfolio) → is_turned_away (cond c (Entered x fill) NoEntry) ≡ false
              either true x = refl
              either false x = refl

      probed : (large : Bool) → is_too_large (probe_qty terms.slippage terms p.cash raw rv) ≡ large
          → is_turned_away (cond large Entry.TooLarge
          (entry_with (direction side) (within_volume terms (size_in_lots terms.lot (size_at fill)) k.volume) fill bps k p)) ≡ true
          → Ieee.eq terms.lot zero ≡ false → TurnsAway terms k.volume probed_size (size_at fill)
      probed true l e some = probed_of terms k.volume some p.cash raw rv (size_at fill) terms.slippage refl l
      probed false l e some = booked_large _ refl e some

      lotted : (b : Bool) → Ieee.eq terms.lot zero ≡ b
          → (Ieee.eq terms.lot zero ≡ false) × TurnsAway terms k.volume probed_size (size_at fill)
      lotted true n = absurd (true≢false (sym e ∙ none_turned_away terms n side raw bps k p h))
      lotted false n = (n, probed (is_too_large (probe_qty terms.slippage terms p.cash raw rv)) refl e n)
