-- "One bar", what it does to the account: the fill, the exits inside the bar, funding.
use Rattle.std.specs.Prelude.{ℕ, ◌-◌, false, cond, List, ltb, Float, None, Option, Some}
use Rattle.rows.specs.{History.History}
use Rattle.portfolio.specs.{declared.Candle.Candle, Portfolio.worsened, Trade.signal}
use Rattle.execution.specs.{declared.fills.Entry.Entry, declared.fills.Entry.TheVariants.NoEntry, declared.fills.Entry.TheVariants.TooLarge}
use Rattle.execution.specs.{declared.fills.Entry.TheVariants.Entered}
use Rattle.execution.specs.{declared.level.Side.Side, declared.level.Side.TheVariants.Long}
use Rattle.execution.specs.{declared.level.Side.TheVariants.Short}
use Rattle.execution.specs.{declared.level.OrderKind.OrderKind, Level.level_fill, Level.fee_bps, Costs.charge_funding}
use Rattle.execution.specs.{Fills.execute_entry, Fills.execute_exit, Fills.is_turned_away, Intrabar.extreme_with, Intrabar.apply_intrabar_exits}
use Rattle.records.specs.{declared.state.Order.Order, declared.state.Order.TheVariants.Idle, declared.state.Order.TheVariants.EnterLong}
use Rattle.records.specs.{declared.state.Order.TheVariants.EnterShort, declared.state.Order.TheVariants.Exit as ExitOrder, declared.state.Position.Position}
use Rattle.records.specs.{declared.settings.Settings.Settings, Bar.funding_of}
use Rattle.engine.specs.{declared.account.Due.Due, declared.account.Due.TheVariants.Waits, declared.account.Due.TheVariants.Enters}
use Rattle.engine.specs.{declared.account.Due.TheVariants.Leaves, declared.account.Filled.Filled, declared.account.Left.Left}
use Rattle.portfolio.specs.{declared.Closed.Closed}

-- ---- a position that is left

-- `pf.exit(..);  entry_bar = None;`
unfoldable pub leaving : Position → Option Closed → Position
leaving p None = p
leaving p (Some c) = record { portfolio = c.portfolio; entered = None; extreme = p.extreme }

-- ---- fill

-- `execute_entry`: where it opens a position, `entry_bar = Some(bar);  extreme = fill;`. "An entry that sizes to nothing is dropped."
unfoldable pub entering : Position → Entry → ℕ → Position
entering p NoEntry number = p
entering p TooLarge number = p
entering p (Entered portfolio fill) number = record { portfolio = portfolio; entered = Some number; extreme = fill }

-- nothing happens but to the order
abbrev pub waiting : Order → Position → Filled
waiting order p = record { order = order; position = p; «exit» = None; turned_away = false }

-- at the raw price that the order's kind gives, "with the rate of `slippage_rate`"; "Realized volatility reads the rows before this bar."
-- Decided: an order filled or dropped no longer works.
unfoldable pub entry_filled : Side → OrderKind → Float → Settings → Position → Candle → History → ℕ → Filled
entry_filled side kind price s p k before number =
    let bps = fee_bps kind s.entries.maker_bps s.terms.taker_bps in
    let e = execute_entry side price bps s.terms k p.portfolio before in
    record { order = Idle; position = entering p e number; «exit» = None; turned_away = is_turned_away e }

-- an open position takes this bar. Request 6: "the least favourable price from the entry bar on .. up to and with the closing bar"
unfoldable pub facing : Position → Candle → Position
facing p k = record { portfolio = worsened p.portfolio k; entered = p.entered; extreme = p.extreme }

-- "Exit only if |qty| > EPS."
unfoldable pub exit_filled : Settings → Position → Candle → Filled
exit_filled s p k =
    let q = facing p k in
    let x = execute_exit signal k.«open» s.terms k q.portfolio in
    record { order = Idle; position = leaving q x; «exit» = x; turned_away = false }

-- What is due at a bar: an entry where it is reached, at its price; ".. else works on unchanged"
unfoldable pub due_if_reached : Side → OrderKind → Order → Option Float → Due
due_if_reached side kind order None = Waits order
due_if_reached side kind order (Some price) = Enters side kind price

-- "Fill: a delay above 0 counts down by 1; otherwise at the open", or where the bar reaches the level
unfoldable pub due_of : Order → Candle → Due
due_of Idle k = Waits Idle
due_of (EnterLong n kind) k = cond (ltb 0 n) (Waits (EnterLong (n - 1) kind)) (due_if_reached Long kind (EnterLong n kind) (level_fill Long kind k))
due_of (EnterShort n kind) k = cond (ltb 0 n) (Waits (EnterShort (n - 1) kind)) (due_if_reached Short kind (EnterShort n kind) (level_fill Short kind k))
due_of (ExitOrder n) k = cond (ltb 0 n) (Waits (ExitOrder (n - 1))) Leaves

-- and what is due is done
unfoldable pub done_of : Due → Settings → Position → Candle → History → ℕ → Filled
done_of (Waits order) s p k before number = waiting order p
done_of (Enters side kind price) s p k before number = entry_filled side kind price s p k before number
done_of Leaves s p k before number = exit_filled s p k

unfoldable pub filled : Settings → Order → Position → Candle → History → ℕ → Filled
filled s order p k before number = done_of (due_of order k) s p k before number

-- ---- exits inside the bar

-- "Intrabar: only in a position, as `intrabar_exit`, without slippage. The favourable extreme takes this bar first; if no
-- exit fires, liquidation where switched on."
unfoldable pub intrabar : Settings → Position → Candle → Left
intrabar s p k =
    let q = facing p k in
    let extreme = extreme_with k q.portfolio q.extreme in
    let x = apply_intrabar_exits k s.terms q.portfolio extreme in
    record { position = leaving (record { portfolio = q.portfolio; entered = q.entered; extreme = extreme }) x; «exit» = x }

-- ---- funding

-- "Funding: in a position, if switched on, qty·mark·rate leaves cash; nothing if not supplied (added)."
unfoldable pub charged : Settings → Position → List ℕ → Position
charged s p bar = record {
  portfolio = charge_funding s.funding (funding_of s.slots bar) p.portfolio;
  entered = p.entered;
  extreme = p.extreme;
}
