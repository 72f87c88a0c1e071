-- The settings' words: word i is setting i, and word 31 says which optional ones are given. Definitions only.
use Rattle.std.specs.Prelude.{ℕ, ◌/◌, ◌%◌, ◌^◌, Bool, not, cond, List, eqb, Float, None, Option, Some}
use Rattle.floats.specs.{Floats.float_of}
use Rattle.execution.specs.{declared.terms.Risk.Risk, declared.terms.Sizing.Sizing, declared.terms.Sizing.TheVariants.FixedFraction}
use Rattle.execution.specs.{declared.terms.Sizing.TheVariants.FixedQty, declared.terms.Sizing.TheVariants.FixedCash}
use Rattle.execution.specs.{declared.terms.Sizing.TheVariants.VolTarget, declared.terms.Sizing.TheVariants.RiskPerTrade}
use Rattle.execution.specs.{declared.terms.Sizing.TheVariants.Unknown, declared.terms.Slippage.Slippage, declared.terms.Slippage.TheVariants.FixedBps}
use Rattle.execution.specs.{declared.terms.Slippage.TheVariants.VolumeImpact, declared.terms.Slippage.TheVariants.Unknown as UnknownSlippage}
use Rattle.execution.specs.{declared.terms.Terms.Terms, declared.level.Entries.Entries, declared.level.OrderType.OrderType}
use Rattle.execution.specs.{declared.level.OrderType.TheVariants.Market, declared.level.OrderType.TheVariants.Limit}
use Rattle.execution.specs.{declared.level.OrderType.TheVariants.Stop, declared.level.OrderType.TheVariants.StopLimit}
use Rattle.execution.specs.{declared.level.OrderType.TheVariants.Unknown as UnknownType}
use Rattle.words.specs.{Words.word}
use Rattle.records.specs.{declared.settings.Settings.Settings, Fields.float_at}

-- a flag: 0 off, any other word on
unfoldable pub flag_of : ℕ → Bool
flag_of w = not (eqb w 0)

-- an optional level, by the lowest of its bits: given where it is set
unfoldable pub level_of : ℕ → ℕ → Option Float
level_of bits w = cond (eqb (bits % 2) 1) (Some (float_of w)) None

-- 5 sizing kind: 0 fraction, 1 quantity, 2 cash, 3 volatility target, 4 risk; 6 its value; 7 lookback (volatility target only)
unfoldable pub sizing_of : ℕ → ℕ → ℕ → Sizing
sizing_of kind value lookback =
    cond (eqb kind 0) (FixedFraction (float_of value))
    (cond (eqb kind 1) (FixedQty (float_of value))
    (cond (eqb kind 2) (FixedCash (float_of value))
    (cond (eqb kind 3) (VolTarget (float_of value) lookback)
    (cond (eqb kind 4) (RiskPerTrade (float_of value))
    Unknown))))

-- 9 slippage kind: 0 fixed, 1 volume impact; 10 its value (bps, or the impact coefficient)
unfoldable pub slippage_of : ℕ → ℕ → Slippage
slippage_of kind value =
    cond (eqb kind 0) (FixedBps (float_of value))
    (cond (eqb kind 1) (VolumeImpact (float_of value))
    UnknownSlippage)

-- 31 the mask of the optional settings that are given: bit i for setting i
abbrev pub given : List ℕ → ℕ
given ws = word ws 31

-- 12 stop loss, 13 trailing stop, 14 take profit, 15 max leverage, 16 max position, each given where its bit of the mask is set;
-- 17 liquidation on
unfoldable pub risk_of : List ℕ → Risk
risk_of ws = record {
  stop_loss_pct = level_of (given ws / 2 ^ 12) (word ws 12);
  trailing_stop_pct = level_of (given ws / 2 ^ 13) (word ws 13);
  take_profit_pct = level_of (given ws / 2 ^ 14) (word ws 14);
  max_leverage = level_of (given ws / 2 ^ 15) (word ws 15);
  max_position_pct = level_of (given ws / 2 ^ 16) (word ws 16);
  liquidation = flag_of (word ws 17);
}

-- 8 taker fee, bps; 18 partial fills on; 19 participation; 24 lot
unfoldable pub terms_of : List ℕ → Terms
terms_of ws = record {
  sizing = sizing_of (word ws 5) (word ws 6) (word ws 7);
  risk = risk_of ws;
  taker_bps = float_at ws 8;
  slippage = slippage_of (word ws 9) (word ws 10);
  partial_fills = flag_of (word ws 18);
  max_participation = float_at ws 19;
  lot = float_at ws 24;
}

-- 20 order kind of an entry: 0 market, 1 limit, 2 stop, 3 stop-limit
unfoldable pub order_type_of : ℕ → OrderType
order_type_of kind =
    cond (eqb kind 0) Market
    (cond (eqb kind 1) Limit
    (cond (eqb kind 2) Stop
    (cond (eqb kind 3) StopLimit
    UnknownType)))

-- 21 its level, 22 the limit of a stop-limit, both in percent of the deciding close; 23 maker fee, bps
unfoldable pub entries_of : List ℕ → Entries
entries_of ws = record {
  order_type = order_type_of (word ws 20);
  level_pct = float_at ws 21;
  limit_pct = float_at ws 22;
  maker_bps = float_at ws 23;
}

-- 0 K, slots; 1 D, window rows; 2 capital; 3 warmup, bars; 4 delay, bars; 11 funding on
unfoldable pub settings_of : List ℕ → Settings
settings_of ws = record {
  slots = word ws 0;
  depth = word ws 1;
  capital = float_at ws 2;
  warmup = word ws 3;
  delay = word ws 4;
  terms = terms_of ws;
  funding = flag_of (word ws 11);
  entries = entries_of ws;
}
