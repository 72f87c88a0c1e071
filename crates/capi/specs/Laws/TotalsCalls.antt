-- ysh_totals and ysh_totals_join: each of their refusals has a number and a place that an answer can hold, so the law over calls holds of both.
use Rattle.std.specs.Prelude.{ℕ, suc, ◌+◌, ◌/◌, ◌%◌, ◌^◌, ◌<◌, ◌≤◌, ◌≡◌, refl, Bool, true, false, cond, List, [], ◌∷◌, leb, eqb, length, Ok}
use Rattle.words.specs.Prelude.{arith, leb-true}
use Rattle.words.specs.{Limits.trade_words, Limits.most_count}
use Rattle.totals.specs.{Trades.Trade, Trades.acceptable, Trades.trades_from, Trades.good_start, Trades.judged_count}
use Rattle.totals.specs.{Totals.unless, Totals.total_words, Totals.counts_of, Totals.traded, Totals.counts_fine, Totals.add_answer, Totals.add_leaves}
use Rattle.totals.specs.{Totals.join_answer, Totals.join_leaves, Laws.Trades.length_trades}
use Rattle.capi.specs.{Totals.totals_gives, Totals.totals_call, Totals.join_call, Laws.Calls.Numbered, Laws.Calls.Honest}
use Rattle.capi.specs.{Laws.Calls.honest, Laws.Calls.one_refusal, Laws.Calls.never_refuses}
use Rattle.words.specs.declared.refusal.Refusal.TheVariants as Refusal

-- ---- a trade's number

good_most : (ts : List Trade) → length (good_start ts) ≤ length ts
unfolding good_start
good_most [] = omega arith
good_most (t ∷ ts) = go (acceptable t) (good_most ts)
  where
    go : (b : Bool) → length (good_start ts) ≤ length ts → length (cond b (t ∷ good_start ts) []) ≤ suc (length ts)
    go true h = omega arith
    go false h = omega arith

judged_most : (n : ℕ) → judged_count n ≤ most_count
unfolding judged_count
judged_most n = go (leb n most_count) refl
  where
    go : (b : Bool) → leb n most_count ≡ b → cond b n most_count ≤ most_count
    go true e = leb-true n most_count e
    go false e = omega arith

number_below : (n : ℕ) (trades : List ℕ) → length (good_start (trades_from (judged_count n) 0 trades)) < 2 ^ 32
number_below n trades = omega (arith, good_most (trades_from (judged_count n) 0 trades), length_trades (judged_count n) 0 trades, judged_most n)

-- ---- the lines of the two orders

add_by : (a b c d e : Bool) (at : ℕ) (after : List ℕ) → at < 2 ^ 32
    → Numbered (totals_gives (unless a (Refusal.Room 11) (unless b Refusal.Records (unless c Refusal.Records (unless d (Refusal.Trade at) (unless e Refusal.Total (Ok tt)))))) after)
unfolding totals_gives
add_by false b c d e at after h = one_refusal _ (record { some = omega arith; number = omega arith; place = omega arith })
add_by true false c d e at after h = one_refusal _ (record { some = omega arith; number = omega arith; place = omega arith })
add_by true true false d e at after h = one_refusal _ (record { some = omega arith; number = omega arith; place = omega arith })
add_by true true true false e at after h = one_refusal _ (record { some = omega arith; number = omega arith; place = h })
add_by true true true true false at after h = one_refusal _ (record { some = omega arith; number = omega arith; place = omega arith })
add_by true true true true true at after h = never_refuses after

join_by : (a b c d e : Bool) (after : List ℕ)
    → Numbered (totals_gives (unless a (Refusal.Room 11) (unless b Refusal.Records (unless c Refusal.Records (unless d Refusal.Records (unless e Refusal.Total (Ok tt)))))) after)
unfolding totals_gives
join_by false b c d e after = one_refusal _ (record { some = omega arith; number = omega arith; place = omega arith })
join_by true false c d e after = one_refusal _ (record { some = omega arith; number = omega arith; place = omega arith })
join_by true true false d e after = one_refusal _ (record { some = omega arith; number = omega arith; place = omega arith })
join_by true true true false e after = one_refusal _ (record { some = omega arith; number = omega arith; place = omega arith })
join_by true true true true false after = one_refusal _ (record { some = omega arith; number = omega arith; place = omega arith })
join_by true true true true true after = never_refuses after

pub totals_honest : (totals trades : List ℕ)
    → Honest (totals_call totals trades) totals (totals_gives (add_answer totals trades) (add_leaves totals trades))
unfolding totals_call add_answer
totals_honest totals trades =
    let n = length trades / trade_words in
    honest _ totals
    (add_by (leb total_words (length totals)) (eqb (length trades % trade_words) 0) (counts_fine (counts_of totals))
    (leb (judged_count n) (length (good_start (trades_from (judged_count n) 0 trades)))) (leb (traded (counts_of totals) + n) most_count) _ _
    (number_below n trades))

pub join_honest : (totals other : List ℕ)
    → Honest (join_call totals other) totals (totals_gives (join_answer totals other) (join_leaves totals other))
unfolding join_call join_answer
join_honest totals other =
    honest _ totals
    (join_by (leb total_words (length totals)) (eqb (length other) total_words) (counts_fine (counts_of totals)) (counts_fine (counts_of other))
    (leb (traded (counts_of totals) + traded (counts_of other)) most_count) _)
