-- The record of totals, and the two calls that keep it. Definitions only.
use Rattle.std.specs.Prelude.{Bool, true, false, cond, List, [], ◌∷◌, ◌++◌, ℕ, ◌+◌, ◌/◌, ◌%◌, ◌≤◌, leb, eqb, length, get_or, take, drop, ℤ, ◌+ℤ◌, Err, Ok, Result}
use Rattle.words.specs.{Words.word, Words.overwrite, Limits.trade_words, Limits.most_count}
use Rattle.floats.specs.{Floats.word_of}
use Rattle.totals.specs.{Exact.number_in, Exact.words_for}
use Rattle.totals.specs.{Exact.nearest_to, Exact.sum_size, Trades.Trade, Trades.trades_from, Trades.trades_of, Trades.good_start, Trades.judged_count}
use Rattle.totals.specs.{Trades.count_of, Trades.ended_by, Trades.won, Trades.lost, Trades.pnl_sum}
use Rattle.words.specs.{declared.refusal.Refusal.Refusal}

-- ---- the record: eight counts, the sum, the float

abbrev pub total_words : ℕ
total_words = 43

abbrev pub count_size : ℕ
count_size = 8

abbrev pub sum_at : ℕ
sum_at = count_size

-- the number of the room that holds totals
abbrev pub totals_room : ℕ
totals_room = 11

-- words 0 to 5: trades that ended by reason 1 to 6; 6 and 7: wins and losses
unfoldable pub counts_of : List ℕ → List ℕ
counts_of totals =
    word totals 0 ∷ word totals 1 ∷ word totals 2 ∷ word totals 3 ∷ word totals 4 ∷ word totals 5 ∷ word totals 6 ∷ word totals 7 ∷ []

-- words 8 to 41: the sum of all pnl
unfoldable pub sum_words : List ℕ → List ℕ
sum_words totals = take sum_size (drop sum_at totals)

-- The 43 words of eight counts and a sum: word 42 is the nearest float's.
unfoldable pub record_of : List ℕ → List ℕ → List ℕ
record_of counts sum = counts ++ sum ++ (word_of (nearest_to (number_in sum)) ∷ [])

-- ---- what is added

-- counts with those of trades
unfoldable pub with_counts : List ℕ → List Trade → List ℕ
with_counts c ts =
    (word c 0 + count_of (ended_by 1) ts) ∷ (word c 1 + count_of (ended_by 2) ts) ∷ (word c 2 + count_of (ended_by 3) ts)
    ∷ (word c 3 + count_of (ended_by 4) ts) ∷ (word c 4 + count_of (ended_by 5) ts) ∷ (word c 5 + count_of (ended_by 6) ts)
    ∷ (word c 6 + count_of won ts) ∷ (word c 7 + count_of lost ts) ∷ []

-- counts with those of other totals
unfoldable pub both_counts : List ℕ → List ℕ → List ℕ
both_counts c d =
    (word c 0 + word d 0) ∷ (word c 1 + word d 1) ∷ (word c 2 + word d 2) ∷ (word c 3 + word d 3)
    ∷ (word c 4 + word d 4) ∷ (word c 5 + word d 5) ∷ (word c 6 + word d 6) ∷ (word c 7 + word d 7) ∷ []

-- a sum's words with so many units more
unfoldable pub sum_with : List ℕ → ℤ → List ℕ
sum_with sum more = words_for (number_in sum +ℤ more)

-- ---- refusals, in their order

-- how many trades counts are of
unfoldable pub traded : List ℕ → ℕ
traded c = word c 0 + word c 1 + word c 2 + word c 3 + word c 4 + word c 5

abbrev pub AllAtMost : ℕ → List ℕ → Type 0
AllAtMost most c = (i : ℕ) → get_or c i 0 ≤ most

unfoldable pub all_small : List ℕ → Bool
all_small [] = true
all_small (c ∷ cs) = cond (leb c most_count) (all_small cs) false

-- Decided: counts that no call writes are 13: one above 4,294,967,295, or more wins and losses than trades.
unfoldable pub counts_fine : List ℕ → Bool
counts_fine c = cond (all_small c) (leb (word c 6 + word c 7) (traded c)) false

-- a line of the order: where it does not hold it is the answer; else what follows decides
abbrev pub unless : Bool → Refusal → Result (Unit {0}) Refusal → Result (Unit {0}) Refusal
unless ok why later = cond ok later (Err why)

-- "after 13, 17 for a pnl that is not finite or a reason outside 1 to 6, with its trade number, then 22 at 0 if the trades would pass 2^32 − 1"
unfoldable pub add_answer : List ℕ → List ℕ → Result (Unit {0}) Refusal
add_answer totals trades =
    let n = length trades / trade_words in
    let good = good_start (trades_from (judged_count n) 0 trades) in
    unless (leb total_words (length totals)) (Refusal.Room totals_room)
    (unless (eqb (length trades % trade_words) 0) Refusal.Records
    (unless (counts_fine (counts_of totals)) Refusal.Records
    (unless (leb (judged_count n) (length good)) (Refusal.Trade (length good))
    (unless (leb (traded (counts_of totals) + n) most_count) Refusal.Total (Ok tt)))))

unfoldable pub join_answer : List ℕ → List ℕ → Result (Unit {0}) Refusal
join_answer totals other =
    unless (leb total_words (length totals)) (Refusal.Room totals_room)
    (unless (eqb (length other) total_words) Refusal.Records
    (unless (counts_fine (counts_of totals)) Refusal.Records
    (unless (counts_fine (counts_of other)) Refusal.Records
    (unless (leb (traded (counts_of totals) + traded (counts_of other)) most_count) Refusal.Total (Ok tt)))))

-- ---- what a call leaves: "the totals stay as they were" beside a refusal

abbrev pub left : Result (Unit {0}) Refusal → List ℕ → List ℕ → List ℕ
left (Ok _) before after = after
left (Err why) before after = before

unfoldable pub add_leaves : List ℕ → List ℕ → List ℕ
add_leaves totals trades =
    left (add_answer totals trades) totals
    (overwrite totals 0 (record_of (with_counts (counts_of totals) (trades_of trades)) (sum_with (sum_words totals) (pnl_sum (trades_of trades)))))

unfoldable pub join_leaves : List ℕ → List ℕ → List ℕ
join_leaves totals other =
    left (join_answer totals other) totals
    (overwrite totals 0 (record_of (both_counts (counts_of totals) (counts_of other)) (sum_with (sum_words totals) (number_in (sum_words other)))))
