-- Trades as totals read them. Definitions only.
use Rattle.std.specs.Prelude.{Bool, true, false, cond, ◌&&◌, List, [], ◌∷◌, ℕ, zero, suc, ◌+◌, ◌*◌, ◌/◌, leb, eqb, length, ℤ, pos, ◌+ℤ◌}
use Rattle.words.specs.{Words.word, Limits.trade_words, Limits.most_count}
use Rattle.floats.specs.{Floats.float_of, Floats.finite, Floats.◌≺◌}
use Rattle.totals.specs.{Exact.units_in}
use Rattle.floats.specs.Floats as Floats

pub record Trade : Type 0 where
  pub pnl : ℕ
  pub reason : ℕ

abbrev pub trade : ℕ → ℕ → Trade
trade pnl reason = record { pnl = pnl; reason = reason }

-- trade i of a list: "in the Rust record's order" its word 5 is the pnl, its word 7 the reason
abbrev pub trade_at : ℕ → List ℕ → Trade
trade_at i words = trade (word words (trade_words * i + 5)) (word words (trade_words * i + 7))

-- n trades of a list, from trade i on
unfoldable pub trades_from : ℕ → ℕ → List ℕ → List Trade
trades_from zero i words = []
trades_from (suc n) i words = trade_at i words ∷ trades_from n (i + 1) words

-- all that it has whole
unfoldable pub trades_of : List ℕ → List Trade
trades_of words = trades_from (length words / trade_words) 0 words

-- ---- "17 for a pnl that is not finite or a reason outside 1 to 6, with its trade number"

unfoldable pub acceptable : Trade → Bool
acceptable t = leb 1 t.reason && leb t.reason 6 && finite (float_of t.pnl)

-- the trades before the first that is not acceptable: so many that their count is its number
unfoldable pub good_start : List Trade → List Trade
good_start [] = []
good_start (t ∷ ts) = cond (acceptable t) (t ∷ good_start ts) []

-- Decided: of a list that is too long for any totals, as many are judged as totals can hold: so a trade number has 32 bits.
unfoldable pub judged_count : ℕ → ℕ
judged_count n = cond (leb n most_count) n most_count

-- ---- "trades by reason, wins, losses"

abbrev pub ended_by : ℕ → Trade → Bool
ended_by reason t = eqb t.reason reason

-- as the metrics tell them: a pnl of 0 of either sign is neither
abbrev pub won : Trade → Bool
won t = Floats.zero ≺ float_of t.pnl

abbrev pub lost : Trade → Bool
lost t = float_of t.pnl ≺ Floats.zero

unfoldable pub bit_of : Bool → ℕ
bit_of true = 1
bit_of false = 0

-- how many of the trades are so
unfoldable pub count_of : (Trade → Bool) → List Trade → ℕ
count_of so [] = 0
count_of so (t ∷ ts) = bit_of (so t) + count_of so ts

-- ---- "the sum of all pnl as a whole multiple of 2^-1074"

unfoldable pub pnl_sum : List Trade → ℤ
pnl_sum [] = pos 0
pnl_sum (t ∷ ts) = units_in t.pnl +ℤ pnl_sum ts
