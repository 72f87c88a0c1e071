-- The engine before request 6: these same definitions with the two words of the open trade left out. Definitions only.
use Rattle.std.specs.Prelude.{ℕ, List, [], ◌∷◌, ◌++◌, None, Option, Some}
use Rattle.floats.specs.{Floats.zero}
use Rattle.portfolio.specs.{declared.Portfolio.Portfolio, declared.Trade.Trade}
use Rattle.records.specs.{declared.settings.Settings.Settings, declared.state.Position.Position}
use Rattle.engine.specs.{Record.row_of, Whole.Account, Whole.Asked, Whole.Taken, Whole.taken, Whole.Ledger, Whole.whole_end}
use Rattle.portfolio.specs.{declared.Closed.Closed}

-- ---- without the funding paid and the least favourable price

unfoldable pub forget : Portfolio → Portfolio
forget p = record {
  cash = p.cash;
  qty = p.qty;
  entry_price = p.entry_price;
  entry_time = p.entry_time;
  entry_fee = p.entry_fee;
  fees_paid = p.fees_paid;
  funding = zero;
  worst = zero;
}

-- what is left of a trade: the eight words of the Rust's record
unfoldable pub forget_trade : Trade → Trade
forget_trade t = record {
  entry_time = t.entry_time;
  exit_time = t.exit_time;
  entry_price = t.entry_price;
  exit_price = t.exit_price;
  qty = t.qty;
  pnl = t.pnl;
  return_pct = t.return_pct;
  reason = t.reason;
  funding = zero;
  worst = zero;
}

unfoldable pub forget_exit : Option Closed → Option Closed
forget_exit None = None
forget_exit (Some c) = Some (record { portfolio = forget c.portfolio; trade = forget_trade c.trade })

unfoldable pub forget_position : Position → Position
forget_position p = record { portfolio = forget p.portfolio; entered = p.entered; extreme = p.extreme }

unfoldable pub forget_account : Account → Account
forget_account a = record { seen = a.seen; order = a.order; position = forget_position a.position; last = a.last }

unfoldable pub forget_trades : List Trade → List Trade
forget_trades [] = []
forget_trades (t ∷ ts) = forget_trade t ∷ forget_trades ts

-- ---- the engine before

-- a bar: nothing comes in by the two words, and nothing is carried on in them
unfoldable pub taken_before : Settings → Asked → Account → List ℕ → List ℕ → Taken
taken_before s asked a rows bar =
    let b = taken s asked (forget_account a) rows bar in
    record { account = forget_account b.account; point = b.point; trades = forget_trades b.trades }

-- bar after bar
unfoldable pub run_before : Settings → Asked → Account → List ℕ → List (List ℕ) → Ledger
run_before s asked a rows [] = record { account = forget_account a; points = []; trades = [] }
run_before s asked a rows (bar ∷ bars) =
    let b = taken_before s asked a rows bar in
    let later = run_before s asked b.account (rows ++ row_of s.slots bar) bars in
    record { account = later.account; points = b.point ∷ later.points; trades = b.trades ++ later.trades }

-- and its end
unfoldable pub end_before : Settings → Ledger → Ledger
end_before s v =
    let e = whole_end s v in
    record { account = forget_account e.account; points = e.points; trades = forget_trades e.trades }
