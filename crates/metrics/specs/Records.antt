-- Lists of records as they are lent, in 64-bit words, and the floats that the figures read of them. Definitions only.
use Rattle.std.specs.Prelude.{List, [], ◌∷◌, Bool, ◌&&◌, ℕ, zero, suc, ◌/◌, ◌%◌, eqb, length, get_or, drop, Float}
use Rattle.words.specs.{Limits.point_words, Limits.trade_words}
use Rattle.floats.specs.{Floats.float_of}

-- where a point has its equity: its words are time, equity
abbrev pub equity_word : ℕ
equity_word = 1

-- where a trade has its pnl, "in the Rust record's order": entry time, exit time, entry price, exit price, quantity, pnl, return, reason
abbrev pub pnl_word : ℕ
pnl_word = 5

-- word j of each of the first n records of w words
unfoldable pub column : ℕ → ℕ → ℕ → List ℕ → List Float
column zero w j words = []
column (suc n) w j words = float_of (get_or words j 0) ∷ column n w j (drop w words)

-- the equity of each point
unfoldable pub equity_of : List ℕ → List Float
unfolding column
equity_of words = column (length words / point_words) point_words equity_word words

-- the pnl of each trade
unfoldable pub pnls_of : List ℕ → List Float
unfolding column
pnls_of words = column (length words / trade_words) trade_words pnl_word words

-- Both lists are whole records.
unfoldable pub whole : List ℕ → List ℕ → Bool
whole equity trades = eqb (length equity % point_words) 0 && eqb (length trades % trade_words) 0
