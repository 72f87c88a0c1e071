-- What holds of a portfolio, and of one that is closed, holds after an exit. Assumes nothing.
use Rattle.std.specs.Prelude.{ℕ, Bool, true, false, cond, Float, None, Option, Some}
use Rattle.portfolio.specs.{declared.Candle.Candle, declared.Closed.Closed, declared.Portfolio.Portfolio, Portfolio.in_position}
use Rattle.execution.specs.{declared.terms.Terms.Terms, declared.intrabar.Trigger.Trigger}
use Rattle.execution.specs.{Costs.closed, Fills.execute_exit, Intrabar.closed_by, Intrabar.apply_intrabar_exits}

-- the portfolio after an exit, where there is one
pub data LeftWith (P : Portfolio → Type 0) : Option Closed → Type 0 where
  stayed : LeftWith P None
  left : (c : Closed) → P c.portfolio → LeftWith P (Some c)

module _ (P : Portfolio → Type 0) where
  pub exit_if : (b : Bool) (x : Option Closed) → LeftWith P x → LeftWith P (cond b x None)
  exit_if true x h = h
  exit_if false x h = stayed

  module _ (closes : (p : Portfolio) (price : Float) (time : ℕ) (bps : Float) (reason : ℕ) → P p → P (closed p price time bps reason).portfolio) where
    -- as a rule asks
    pub executed_leaves : (reason : ℕ) (raw : Float) (terms : Terms) (k : Candle) (p : Portfolio) → P p → LeftWith P (execute_exit reason raw terms k p)
    unfolding execute_exit
    executed_leaves reason raw terms k p h = exit_if (in_position p) _ (left _ (closes p _ k.time terms.taker_bps reason h))

    -- as a level inside the bar asks
    by_trigger : (x : Option Trigger) (k : Candle) (terms : Terms) (p : Portfolio) → P p → LeftWith P (closed_by x k terms p)
    unfolding closed_by
    by_trigger None k terms p h = stayed
    by_trigger (Some trigger) k terms p h = left _ (closes p trigger.price k.time terms.taker_bps trigger.reason h)

    pub inside_leaves : (k : Candle) (terms : Terms) (p : Portfolio) (extreme : Float) → P p → LeftWith P (apply_intrabar_exits k terms p extreme)
    unfolding apply_intrabar_exits
    inside_leaves k terms p extreme h = exit_if (in_position p) _ (by_trigger _ k terms p h)
