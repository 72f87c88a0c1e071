-- Every way to make totals: lists added one after another, totals joined. Definitions only.
use Rattle.std.specs.Prelude.{◌≡◌, List, [], ◌∷◌, ◌++◌, ℕ, ◌%◌, length, replicate, Ok}
use Rattle.words.specs.{Limits.trade_words}
use Rattle.floats.specs.{Floats.word_of}
use Rattle.totals.specs.{Exact.words_for, Exact.nearest_to, Trades.Trade, Trades.trades_of, Trades.pnl_sum}
use Rattle.totals.specs.{Totals.total_words, Totals.with_counts, Totals.add_answer, Totals.add_leaves, Totals.join_answer, Totals.join_leaves}

pub data Way : Type 0 where
  -- 43 zeros
  begin : Way
  -- a list of trades added to totals
  add : Way → List ℕ → Way
  -- totals added to totals
  join : Way → Way → Way

-- the words that it leaves
unfoldable pub made : Way → List ℕ
made begin = replicate total_words 0
made (add w list) = add_leaves (made w) list
made (join v w) = join_leaves (made v) (made w)

-- every call of it does its work
unfoldable pub AllDone : Way → Type 0
AllDone begin = Unit {0}
AllDone (add w list) = AllDone w × (add_answer (made w) list ≡ Ok tt)
AllDone (join v w) = AllDone v × AllDone w × (join_answer (made v) (made w) ≡ Ok tt)

-- the trades that it is about
unfoldable pub trades_in : Way → List Trade
trades_in begin = []
trades_in (add w list) = trades_in w ++ trades_of list
trades_in (join v w) = trades_in v ++ trades_in w

-- its lists are whole records
unfoldable pub WholeLists : Way → Type 0
WholeLists begin = Unit {0}
WholeLists (add w list) = WholeLists w × (length list % trade_words ≡ 0)
WholeLists (join v w) = WholeLists v × WholeLists w

-- THE TOTALS OF TRADES: how many ended by each reason, won, lost; the words of their exact sum; the float nearest to that sum
unfoldable pub totals_of : List Trade → List ℕ
totals_of ts = with_counts (replicate 8 0) ts ++ words_for (pnl_sum ts) ++ (word_of (nearest_to (pnl_sum ts)) ∷ [])
