-- The state before the first bar.
use Rattle.std.specs.Prelude.{None}
use Rattle.floats.specs.{Floats.zero}
use Rattle.portfolio.specs.{Portfolio.fresh}
use Rattle.records.specs.{declared.state.Order.TheVariants.Idle, declared.settings.Settings.Settings, declared.state.State.State}

-- The Rust's `from_spec`: the capital as cash, and nothing seen, held or ordered.
unfoldable pub fresh_state : Settings → State
fresh_state s = record {
  counts = record { bars_seen = 0; rows_held = 0; equity_points = 0; trades = 0 };
  order = Idle;
  position = record { portfolio = fresh s.capital; entered = None; extreme = zero };
  last = record { time = 0; close = zero };
}
