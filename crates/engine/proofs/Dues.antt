-- The fill of an order is what is due for it, done.
use Rattle.words.specs.Prelude.{ℕ, ◌≡◌, sym, ap, ◌∙◌}
use Rattle.rows.specs.{History.History}
use Rattle.portfolio.specs.{declared.Candle.Candle}
use Rattle.records.specs.{declared.state.Order.Order, declared.state.Position.Position, declared.settings.Settings.Settings}
use Rattle.engine.specs.{declared.account.Due.Due, declared.account.Filled.Filled, Account.due_of, Account.done_of, Account.filled}

-- where what is due is told and done, the order is filled
pub so_filled : (s : Settings) (p : Position) (k : Candle) (before : History) (number : ℕ) (o : Order) {due told : Due} {r : Filled}
    → due ≡ due_of o k → due ≡ told → r ≡ done_of told s p k before number → r ≡ filled s o p k before number
unfolding filled
so_filled s p k before number o is tells does = does ∙ ap (λ (d : Due). done_of d s p k before number) (sym tells ∙ is)
