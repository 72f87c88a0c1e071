-- "One bar": what is decided at the close.
use Rattle.std.specs.Prelude.{ℕ, ◌+◌, Bool, cond, List, ltb, Float}
use Rattle.rows.specs.{History.History, History.history_of, History.last_rows}
use Rattle.rules.specs.{declared.position.PositionState.PositionState}
use Rattle.portfolio.specs.{declared.Portfolio.Portfolio, Portfolio.in_position, Portfolio.is_long}
use Rattle.steps.specs.{Bytes.ops_of, Machine.ran_over}
use Rattle.execution.specs.{declared.level.OrderKind.OrderKind, Level.entry_trigger}
use Rattle.records.specs.{declared.state.Order.Order, declared.state.Order.TheVariants.Idle, declared.state.Order.TheVariants.EnterLong}
use Rattle.records.specs.{declared.state.Order.TheVariants.EnterShort, declared.state.Order.TheVariants.Exit, declared.state.Position.Position}
use Rattle.records.specs.{declared.settings.Settings.Settings, Lent.Lists}

-- what a rule's list of steps answers
unfoldable pub list_says : History → PositionState → List ℕ → Bool
list_says h p list = (ran_over h p (ops_of list)).answer

-- "a rule takes this bar's number from the position state (bars seen, this one counted, less 1)"
unfoldable pub state_at : Position → ℕ → PositionState
state_at p number = record { qty = p.portfolio.qty; entered = p.entered; bars_seen = number + 1 }

-- "Flat: entry, else short entry." "A new order starts with the delay setting."
unfoldable pub opening_order : ℕ → OrderKind → Bool → Bool → Order
opening_order delay kind long short = cond long (EnterLong delay kind) (cond short (EnterShort delay kind) Idle)

-- "Long: exit. Short: short exit."
unfoldable pub closing_order : ℕ → Bool → Order
closing_order delay leave = cond leave (Exit delay) Idle

-- what the four rules answer
pub record Answers : Type 0 where
  pub entry : Bool
  pub «exit» : Bool
  pub short_entry : Bool
  pub short_exit : Bool

unfoldable pub answers_of : History → PositionState → Lists → Answers
answers_of h state ls = record {
  entry = list_says h state ls.entry;
  «exit» = list_says h state ls.«exit»;
  short_entry = list_says h state ls.short_entry;
  short_exit = list_says h state ls.short_exit;
}

-- the order of a bar on which none works
unfoldable pub ordered : ℕ → OrderKind → Portfolio → Answers → Order
ordered delay kind account a =
    cond (in_position account)
    (cond (is_long account) (closing_order delay a.«exit») (closing_order delay a.short_exit))
    (opening_order delay kind a.entry a.short_entry)

-- "nothing on a bar numbered below warmup, nor while an order works"
-- "the level is the deciding bar's close times (1 + pct/100)": an entry keeps its kind and levels from this close
unfoldable pub order_after : Settings → Order → Position → ℕ → Float → Answers → Order
order_after s (EnterLong n kind) p number close a = EnterLong n kind
order_after s (EnterShort n kind) p number close a = EnterShort n kind
order_after s (Exit n) p number close a = Exit n
order_after s Idle p number close a =
    cond (ltb number s.warmup) Idle (ordered s.delay (entry_trigger s.entries close) p.portfolio a)

-- the rows are those held, this bar's the last; a rule reads the last D of them
unfoldable pub decided : Settings → Order → Position → ℕ → Float → List ℕ → Lists → Order
decided s o p number close rows ls =
    order_after s o p number close (answers_of (history_of s.slots (last_rows s.slots s.depth rows)) (state_at p number) ls)
