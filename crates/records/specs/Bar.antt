-- A bar as the caller hands it. Definitions only.
use Rattle.std.specs.Prelude.{ℕ, ◌+◌, cond, List, get_or, eqb, None, Option}
use Rattle.floats.specs.{Floats.float_of}
use Rattle.portfolio.specs.{declared.Candle.Candle}
use Rattle.execution.specs.{declared.costs.Funding.Funding}
use Rattle.records.specs.{Fields.float_at}
use Rattle.execution.specs.{Supplied.supplied}

-- its first six words
unfoldable pub candle_of : List ℕ → Candle
candle_of bar = record {
  time = get_or bar 0 0;
  «open» = float_at bar 1;
  high = float_at bar 2;
  low = float_at bar 3;
  close = float_at bar 4;
  volume = float_at bar 5;
}

-- its last three words; those of mark and rate are not looked at where none is supplied
unfoldable pub funding_of : ℕ → List ℕ → Option Funding
funding_of K bar =
    cond (eqb (get_or bar (7 + K) 0) 0) None
    (supplied (float_of (get_or bar (8 + K) 0)) (float_of (get_or bar (9 + K) 0)))
