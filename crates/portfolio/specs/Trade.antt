-- A completed trade: why it ended, and its words. Definitions only.
use Rattle.std.specs.Prelude.{List, [], ◌∷◌, ℕ}
use Rattle.floats.specs.{Floats.word_of}
use Rattle.portfolio.specs.{declared.Trade.Trade}

-- "Reasons: 1 signal, 2 stop_loss, 3 trailing_stop, 4 take_profit, 5 liquidation, 6 end."
abbrev pub signal : ℕ
signal = 1

abbrev pub stop_loss : ℕ
stop_loss = 2

abbrev pub trailing_stop : ℕ
trailing_stop = 3

abbrev pub take_profit : ℕ
take_profit = 4

abbrev pub liquidation : ℕ
liquidation = 5

abbrev pub end : ℕ
end = 6

-- "A trade takes eight 64-bit words in the Rust record's order."; request 6: "ten: funding paid during it, and the least favourable price"
unfoldable pub words_of_trade : Trade → List ℕ
words_of_trade t =
    t.entry_time
    ∷ t.exit_time
    ∷ word_of t.entry_price
    ∷ word_of t.exit_price
    ∷ word_of t.qty
    ∷ word_of t.pnl
    ∷ word_of t.return_pct
    ∷ t.reason
    ∷ word_of t.funding
    ∷ word_of t.worst
    ∷ []
