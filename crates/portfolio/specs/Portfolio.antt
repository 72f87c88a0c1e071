-- The one-position portfolio, each definition under the name of the Rust's function. Definitions only.
use Rattle.std.specs.Prelude.{Bool, cond, ℕ, Float}
use Rattle.floats.specs.{Floats.◌⊕◌, Floats.◌⊖◌, Floats.◌⊗◌, Floats.◌≺◌, Floats.abs, Floats.min, Floats.max, Floats.eps, Floats.zero, Sums.return_pct}
use Rattle.portfolio.specs.{declared.Candle.Candle, declared.Portfolio.Portfolio, declared.Trade.Trade, declared.Closed.Closed}

-- `new`
unfoldable pub fresh : Float → Portfolio
fresh cash = record {
  cash = cash;
  qty = zero;
  entry_price = zero;
  entry_time = 0;
  entry_fee = zero;
  fees_paid = zero;
  funding = zero;
  worst = zero;
}

-- `in_position`: `qty.abs() > f64::EPSILON`. "Flat is where |qty| > EPS is false."
unfoldable pub in_position : Portfolio → Bool
in_position p = eps ≺ abs p.qty

-- `is_long`: `qty > 0.0`
unfoldable pub is_long : Portfolio → Bool
is_long p = zero ≺ p.qty

-- `equity`: `cash + qty * mark`
unfoldable pub equity : Portfolio → Float → Float
equity p mark = p.cash ⊕ p.qty ⊗ mark

-- `apply_funding`: the payment leaves cash and is counted in the fees; request 6: "funding paid during it"
unfoldable pub funded : Portfolio → Float → Portfolio
funded p payment = record {
  cash = p.cash ⊖ payment;
  qty = p.qty;
  entry_price = p.entry_price;
  entry_time = p.entry_time;
  entry_fee = p.entry_fee;
  fees_paid = p.fees_paid ⊕ payment;
  funding = p.funding ⊕ payment;
  worst = p.worst;
}

-- Request 6: "each bar's low for a long or high for a short"
unfoldable pub worse : Candle → Float → Bool → Float
worse k price long = cond long (min price k.low) (max price k.high)

-- the open position's least favourable price takes a bar
unfoldable pub worsened : Portfolio → Candle → Portfolio
worsened p k =
    cond (in_position p)
    (record {
      cash = p.cash;
      qty = p.qty;
      entry_price = p.entry_price;
      entry_time = p.entry_time;
      entry_fee = p.entry_fee;
      fees_paid = p.fees_paid;
      funding = p.funding;
      worst = worse k p.worst (is_long p);
    })
    p

-- `enter`; request 6: "the least favourable price from the entry bar on (the entry fill, ..)"
unfoldable pub entered : Portfolio → Float → Float → ℕ → Float → Portfolio
entered p qty price time fee = record {
  cash = p.cash ⊖ (qty ⊗ price ⊕ fee);
  qty = qty;
  entry_price = price;
  entry_time = time;
  entry_fee = fee;
  fees_paid = p.fees_paid ⊕ fee;
  funding = zero;
  worst = price;
}

-- `exit`: `notional = qty.abs() * entry_price`
unfoldable pub notional : Portfolio → Float
notional p = abs p.qty ⊗ p.entry_price

-- `exit`: `pnl = qty * (price - entry_price) - entry_fee - fee`
unfoldable pub pnl : Portfolio → Float → Float → Float
pnl p price fee = p.qty ⊗ (price ⊖ p.entry_price) ⊖ p.entry_fee ⊖ fee

-- `exit`: the trade that it records, with what request 6 adds
unfoldable pub trade_of : Portfolio → Float → ℕ → Float → ℕ → Trade
trade_of p price time fee reason = record {
  entry_time = p.entry_time;
  exit_time = time;
  entry_price = p.entry_price;
  exit_price = price;
  qty = p.qty;
  pnl = pnl p price fee;
  return_pct = return_pct (pnl p price fee) (notional p);
  reason = reason;
  funding = p.funding;
  worst = p.worst;
}

-- `exit`: the portfolio after it, and the trade. The price and the time of the entry stay, as in the Rust; so do the two words of request 6.
unfoldable pub exited : Portfolio → Float → ℕ → Float → ℕ → Closed
exited p price time fee reason = record {
  portfolio = record {
    cash = p.cash ⊕ (p.qty ⊗ price ⊖ fee);
    qty = zero;
    entry_price = p.entry_price;
    entry_time = p.entry_time;
    entry_fee = zero;
    fees_paid = p.fees_paid ⊕ fee;
    funding = p.funding;
    worst = p.worst;
  };
  trade = trade_of p price time fee reason;
}
