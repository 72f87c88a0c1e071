-- EXACT TOTALS: every way to total the same trades does its work and leaves the same 43 words. Assumes nothing.
use Rattle.std.specs.Prelude.{◌≡◌, refl, Bool, true, false, List, [], ◌∷◌, ◌++◌, ℕ, zero, suc, ◌+◌, ◌/◌, ◌%◌, ◌≤◌, eqb, length, drop, replicate, ℤ, ◌+ℤ◌, Ok}
use Rattle.words.specs.Prelude.{to_bits}
use Rattle.words.specs.Prelude.{sym, ap, subst, ◌∙◌, append-nil}
use Rattle.words.specs.Prelude.{arith, le-leb, eq-eqb, length-append, take_at, drop-length}
use Rattle.words.specs.Prelude.{le, round}
use Rattle.words.specs.{Words.word, Words.overwrite, Limits.trade_words, Limits.most_count, Laws.Overwrite.overwrite_fits}
use Rattle.floats.specs.{Floats.word_of, Floats.float_of, Floats.◌≼◌, Laws.Order.not_above}
use Rattle.totals.specs.{Number.place, Number.words_of, Exact.number_in, Exact.words_for, Exact.nearest_to, Exact.residue}
use Rattle.totals.specs.{Exact.sum_size, Trades.Trade, Trades.acceptable, Trades.trades_of, Trades.trades_from, Trades.good_start, Trades.judged_count}
use Rattle.totals.specs.{Trades.bit_of, Trades.count_of, Trades.ended_by, Trades.won, Trades.lost, Trades.pnl_sum, Totals.total_words, Totals.count_size}
use Rattle.totals.specs.{Totals.counts_of, Totals.sum_words, Totals.record_of, Totals.with_counts, Totals.both_counts, Totals.sum_with, Totals.traded}
use Rattle.totals.specs.{Totals.counts_fine, Totals.AllAtMost, Totals.add_answer, Totals.add_leaves, Totals.join_answer, Totals.join_leaves, Ways.Way}
use Rattle.totals.specs.{Ways.begin, Ways.add, Ways.join, Ways.made, Ways.AllDone, Ways.trades_in, Ways.WholeLists, Ways.totals_of, Laws.Sums.length_for}
use Rattle.totals.specs.{Laws.Trades.Acceptable, Laws.Trades.none, Laws.Trades.more, Laws.Trades.acceptable_reason, Laws.Trades.good_all}
use Rattle.totals.specs.{Laws.Trades.length_trades, Laws.Trades.count_append, Laws.Trades.sum_append, Laws.Trades.Rearranged, Laws.Trades.sum_rearranged}
use Rattle.totals.specs.{Laws.Trades.count_rearranged, Laws.Counts.eight_same, Laws.Counts.counts_twice, Laws.Counts.all_small_lem, Laws.Counts.bit_most}
use Rattle.totals.specs.{Laws.Bound.reads_back}
use Rattle.floats.specs.Floats as Floats

-- eight zeros
abbrev zeros : List ℕ
zeros = replicate count_size 0

-- ---- counts over all trades

count_most : (so : Trade → Bool) (ts : List Trade) → count_of so ts ≤ length ts
unfolding count_of
count_most so [] = omega arith
count_most so (t ∷ ts) = omega (arith, bit_most (so t), count_most so ts)

-- no trade both won and lost
never_both : (t : Trade) → bit_of (won t) + bit_of (lost t) ≤ 1
unfolding bit_of le
never_both t = go (won t) (lost t) refl refl
  where
    go : (w l : Bool) → won t ≡ w → lost t ≡ l → bit_of w + bit_of l ≤ 1
    go true true e f =
        let above : Floats.zero ≼ float_of t.pnl ≡ true = simp e in
        let z : true ≡ false = sym f ∙ not_above Floats.zero (float_of t.pnl) above in
        absurd (let y : ◌≡◌ {A = ℕ} 0 1 = cc in omega arith)
    go true false e f = omega arith
    go false true e f = omega arith
    go false false e f = omega arith

won_or_lost : (ts : List Trade) → count_of won ts + count_of lost ts ≤ length ts
unfolding count_of
won_or_lost [] = omega arith
won_or_lost (t ∷ ts) = omega (arith, never_both t, won_or_lost ts)

-- each trade ended by one of the six reasons
by_reason : (r : ℕ) → 1 ≤ r → r ≤ 6 → bit_of (eqb r 1) + bit_of (eqb r 2) + bit_of (eqb r 3) + bit_of (eqb r 4) + bit_of (eqb r 5) + bit_of (eqb r 6) ≡ 1
unfolding bit_of
by_reason zero p q = absurd (omega arith)
by_reason (suc zero) p q = refl
by_reason (suc (suc zero)) p q = refl
by_reason (suc (suc (suc zero))) p q = refl
by_reason (suc (suc (suc (suc zero)))) p q = refl
by_reason (suc (suc (suc (suc (suc zero))))) p q = refl
by_reason (suc (suc (suc (suc (suc (suc zero)))))) p q = refl
by_reason (suc (suc (suc (suc (suc (suc (suc r))))))) p q = absurd (omega arith)

one_reason : (t : Trade) → acceptable t ≡ true
    → bit_of (ended_by 1 t) + bit_of (ended_by 2 t) + bit_of (ended_by 3 t) + bit_of (ended_by 4 t) + bit_of (ended_by 5 t) + bit_of (ended_by 6 t) ≡ 1
one_reason t h = let r = acceptable_reason t h in by_reason t.reason r.0 r.1

pub every_trade : {ts : List Trade} → Acceptable ts → traded (with_counts zeros ts) ≡ length ts
unfolding traded with_counts count_of
every_trade none = refl
every_trade (more {t} {ts} h a) = omega (arith, one_reason t h, every_trade a)

-- each count is that of some trades
counts_most : (ts : List Trade) → length ts ≤ most_count → AllAtMost most_count (with_counts zeros ts)
unfolding with_counts
counts_most ts h zero = omega (arith, count_most (ended_by 1) ts)
counts_most ts h (suc zero) = omega (arith, count_most (ended_by 2) ts)
counts_most ts h (suc (suc zero)) = omega (arith, count_most (ended_by 3) ts)
counts_most ts h (suc (suc (suc zero))) = omega (arith, count_most (ended_by 4) ts)
counts_most ts h (suc (suc (suc (suc zero)))) = omega (arith, count_most (ended_by 5) ts)
counts_most ts h (suc (suc (suc (suc (suc zero))))) = omega (arith, count_most (ended_by 6) ts)
counts_most ts h (suc (suc (suc (suc (suc (suc zero)))))) = omega (arith, count_most won ts)
counts_most ts h (suc (suc (suc (suc (suc (suc (suc zero))))))) = omega (arith, count_most lost ts)
counts_most ts h (suc (suc (suc (suc (suc (suc (suc (suc i)))))))) = omega arith

sides_of : (us : List Trade) → word (with_counts zeros us) 6 + word (with_counts zeros us) 7 ≤ length us
unfolding with_counts
sides_of us = omega (arith, won_or_lost us)

sides_most : {ts : List Trade} → Acceptable ts → word (with_counts zeros ts) 6 + word (with_counts zeros ts) 7 ≤ traded (with_counts zeros ts)
sides_most {ts} a = subst (λ (n : ℕ). word (with_counts zeros ts) 6 + word (with_counts zeros ts) 7 ≤ n) (sym (every_trade a)) (sides_of ts)

pub counts_fine_lem : {ts : List Trade} → Acceptable ts → length ts ≤ most_count → counts_fine (with_counts zeros ts) ≡ true
unfolding counts_fine
counts_fine_lem {ts} a h = rw (all_small_lem (with_counts zeros ts) (counts_most ts h)) (le-leb _ _ (sides_most a))

-- ---- the record of totals, part by part

module _ (ts : List Trade) where
  counts_held : counts_of (totals_of ts) ≡ with_counts zeros ts
  unfolding counts_of totals_of with_counts
  counts_held = refl

  sum_held : sum_words (totals_of ts) ≡ words_for (pnl_sum ts)
  unfolding sum_words totals_of with_counts
  sum_held = take_at (words_for (pnl_sum ts)) (word_of (nearest_to (pnl_sum ts)) ∷ []) sum_size (length_for (pnl_sum ts))

  length_totals : length (totals_of ts) ≡ total_words
  unfolding totals_of with_counts
  length_totals = length-append (with_counts zeros ts ++ words_for (pnl_sum ts)) (word_of (nearest_to (pnl_sum ts)) ∷ [])
      ∙ ap (λ (n : ℕ). n + 1) (length-append (with_counts zeros ts) (words_for (pnl_sum ts)) ∙ ap (λ (n : ℕ). 8 + n) (length_for (pnl_sum ts)))

-- a record written over a record
over : (totals new : List ℕ) → length totals ≡ total_words → length new ≡ total_words → overwrite totals 0 new ≡ new
over totals new e f =
    let n : 0 + length new ≡ length totals = omega arith in
    overwrite_fits totals 0 new (omega arith) ∙ ap (λ (k : ℕ). new ++ drop k totals) n ∙ ap (λ (l : List ℕ). new ++ l) (drop-length totals) ∙ append-nil new

-- the record of the sum of all trades
record_of_lem : {ts : List Trade} → Acceptable ts → length ts ≤ most_count → record_of (with_counts zeros ts) (words_for (pnl_sum ts)) ≡ totals_of ts
unfolding record_of totals_of
record_of_lem {ts} a h =
    ap (λ (z : ℤ). with_counts zeros ts ++ words_for (pnl_sum ts) ++ (word_of (nearest_to z) ∷ [])) (reads_back a h)

-- a sum's words with more: what they read as is added to
sum_more : {xs : List Trade} (z : ℤ) → Acceptable xs → length xs ≤ most_count → sum_with (words_for (pnl_sum xs)) z ≡ words_for (pnl_sum xs +ℤ z)
unfolding sum_with
sum_more z a h = ap (λ (y : ℤ). words_for (y +ℤ z)) (reads_back a h)

-- two counts of eight zeros with trades
both_counts_lem : (xs ys : List Trade) → both_counts (with_counts zeros xs) (with_counts zeros ys) ≡ with_counts zeros (xs ++ ys)
unfolding both_counts with_counts
both_counts_lem xs ys = eight_same (on _) (on _) (on _) (on _) (on _) (on _) (on _) (on _)
  where
    on : (so : Trade → Bool) → 0 + count_of so xs + (0 + count_of so ys) ≡ 0 + count_of so (xs ++ ys)
    on so = omega (arith, count_append so xs ys)

-- nothing at all
nothing : replicate total_words 0 ≡ totals_of []
unfolding totals_of with_counts count_of pnl_sum words_for residue place words_of nearest_to round to_bits
nothing = refl

same_good : (list : List ℕ) → Acceptable (trades_of list) → length (good_start (trades_from (length list / trade_words) 0 list)) ≡ length (trades_of list)
unfolding trades_of
same_good list a = ap length (good_all a)

-- ---- one call

module _ {xs : List Trade} (list : List ℕ) (whole : length list % trade_words ≡ 0) (old : Acceptable xs) (new : Acceptable (trades_of list))
    (both : Acceptable (xs ++ trades_of list)) (few : length (xs ++ trades_of list) ≤ most_count) where
  few_old : length xs ≤ most_count
  few_old = omega (arith, length-append xs (trades_of list))

  many : length (trades_of list) ≡ length list / trade_words
  unfolding trades_of
  many = length_trades (length list / trade_words) 0 list

  room : length xs + length list / trade_words ≤ most_count
  room = omega (arith, length-append xs (trades_of list), many)

  all_judged : judged_count (length list / trade_words) ≡ length list / trade_words
  unfolding judged_count
  all_judged = simp (le-leb (length list / trade_words) most_count (omega (arith, room)))

  all_good : length (good_start (trades_from (judged_count (length list / trade_words)) 0 list)) ≡ judged_count (length list / trade_words)
  all_good =
      ap (λ (k : ℕ). length (good_start (trades_from k 0 list))) all_judged ∙ same ∙ sym all_judged
    where
      same : length (good_start (trades_from (length list / trade_words) 0 list)) ≡ length list / trade_words
      same = same_good list new ∙ many

  add_does : add_answer (totals_of xs) list ≡ Ok tt
  unfolding add_answer
  add_does =
      let long : total_words ≤ length (totals_of xs) = omega (arith, length_totals xs) in
      let fine : counts_fine (counts_of (totals_of xs)) ≡ true = ap counts_fine (counts_held xs) ∙ counts_fine_lem old few_old in
      let good : judged_count (length list / trade_words) ≤ length (good_start (trades_from (judged_count (length list / trade_words)) 0 list)) = omega
      (arith, all_good) in
      let held : traded (counts_of (totals_of xs)) ≡ length xs = ap traded (counts_held xs) ∙ every_trade old in
      let fits : traded (counts_of (totals_of xs)) + length list / trade_words ≤ most_count = omega (arith, held, room) in
      simp (le-leb _ _ long, eq-eqb _ _ whole, fine, le-leb _ _ good, le-leb _ _ fits)

  add_leaves_lem : add_leaves (totals_of xs) list ≡ totals_of (xs ++ trades_of list)
  unfolding add_leaves
  add_leaves_lem =
      let ys = trades_of list in
      let counts : with_counts (counts_of (totals_of xs)) ys ≡ with_counts zeros (xs ++ ys) =
      ap (λ (c : List ℕ). with_counts c ys) (counts_held xs) ∙ counts_twice zeros xs ys in
      let sum : sum_with (sum_words (totals_of xs)) (pnl_sum ys) ≡ words_for (pnl_sum (xs ++ ys)) =
      ap (λ (s : List ℕ). sum_with s (pnl_sum ys)) (sum_held xs) ∙ sum_more (pnl_sum ys) old few_old ∙ ap words_for (sym (sum_append xs ys)) in
      simp (add_does)
      (ap (λ (c : List ℕ). overwrite (totals_of xs) 0 (record_of c (sum_with (sum_words (totals_of xs)) (pnl_sum ys)))) counts
      ∙ ap (λ (s : List ℕ). overwrite (totals_of xs) 0 (record_of (with_counts zeros (xs ++ ys)) s)) sum
      ∙ ap (overwrite (totals_of xs) 0) (record_of_lem both few)
      ∙ over (totals_of xs) (totals_of (xs ++ ys)) (length_totals xs) (length_totals (xs ++ ys)))

module _ {xs ys : List Trade} (old : Acceptable xs) (new : Acceptable ys) (both : Acceptable (xs ++ ys)) (few : length (xs ++ ys) ≤ most_count) where
  few_both : (length xs ≤ most_count) × (length ys ≤ most_count) × (length xs + length ys ≤ most_count)
  few_both = let all = length-append xs ys in (omega arith, omega arith, omega arith)

  join_does : join_answer (totals_of xs) (totals_of ys) ≡ Ok tt
  unfolding join_answer
  join_does =
      let long : total_words ≤ length (totals_of xs) = omega (arith, length_totals xs) in
      let fine : counts_fine (counts_of (totals_of xs)) ≡ true = ap counts_fine (counts_held xs) ∙ counts_fine_lem old few_both.0 in
      let fine-too : counts_fine (counts_of (totals_of ys)) ≡ true = ap counts_fine (counts_held ys) ∙ counts_fine_lem new few_both.1 in
      let held : traded (counts_of (totals_of xs)) ≡ length xs = ap traded (counts_held xs) ∙ every_trade old in
      let held-too : traded (counts_of (totals_of ys)) ≡ length ys = ap traded (counts_held ys) ∙ every_trade new in
      let fits : traded (counts_of (totals_of xs)) + traded (counts_of (totals_of ys)) ≤ most_count = omega (arith, held, held-too, few_both.2) in
      simp (le-leb _ _ long, eq-eqb _ _ (length_totals ys), fine, fine-too, le-leb _ _ fits)

  join_leaves_lem : join_leaves (totals_of xs) (totals_of ys) ≡ totals_of (xs ++ ys)
  unfolding join_leaves
  join_leaves_lem =
      let counts : both_counts (counts_of (totals_of xs)) (counts_of (totals_of ys)) ≡ with_counts zeros (xs ++ ys) =
      ap (λ (c : List ℕ). both_counts c (counts_of (totals_of ys))) (counts_held xs)
      ∙ ap (both_counts (with_counts zeros xs)) (counts_held ys) ∙ both_counts_lem xs ys in
      let sum : sum_with (sum_words (totals_of xs)) (number_in (sum_words (totals_of ys))) ≡ words_for (pnl_sum (xs ++ ys)) =
      ap (λ (s : List ℕ). sum_with s (number_in (sum_words (totals_of ys)))) (sum_held xs)
      ∙ ap (λ (s : List ℕ). sum_with (words_for (pnl_sum xs)) (number_in s)) (sum_held ys)
      ∙ ap (sum_with (words_for (pnl_sum xs))) (reads_back new few_both.1)
      ∙ sum_more (pnl_sum ys) old few_both.0 ∙ ap words_for (sym (sum_append xs ys)) in
      simp (join_does)
      (ap (λ (c : List ℕ). overwrite (totals_of xs) 0 (record_of c (sum_with (sum_words (totals_of xs)) (number_in (sum_words (totals_of ys)))))) counts
      ∙ ap (λ (s : List ℕ). overwrite (totals_of xs) 0 (record_of (with_counts zeros (xs ++ ys)) s)) sum
      ∙ ap (overwrite (totals_of xs) 0) (record_of_lem both few)
      ∙ over (totals_of xs) (totals_of (xs ++ ys)) (length_totals xs) (length_totals (xs ++ ys)))

-- ---- any way

-- parts of acceptable trades are acceptable
front : (xs ys : List Trade) → Acceptable (xs ++ ys) → Acceptable xs
front [] ys a = none
front (x ∷ xs) ys (more h a) = more h (front xs ys a)

back : (xs ys : List Trade) → Acceptable (xs ++ ys) → Acceptable ys
back [] ys a = a
back (x ∷ xs) ys (more h a) = back xs ys a

-- EXACT TOTALS. Trades with a finite pnl and a reason of 1 to 6, at most 4,294,967,295 of them, cut into lists in any way and in any order, added to any
-- number of totals that are joined in any way: every call does its work, and the 43 words are the totals of those trades.
pub exact_totals : (w : Way) → WholeLists w → Acceptable (trades_in w) → length (trades_in w) ≤ most_count → AllDone w × (made w ≡ totals_of (trades_in w))
unfolding WholeLists trades_in AllDone made
exact_totals begin h a few = (tt, nothing)
exact_totals (add w list) h a few =
    let xs = trades_in w in
    let ys = trades_of list in
    let old = front xs ys a in
    let new = back xs ys a in
    let before = exact_totals w h.0 old (omega (arith, length-append xs ys)) in (
      (before.0, ap (λ (t : List ℕ). add_answer t list) before.1 ∙ add_does list h.1 old new a few),
      ap (λ (t : List ℕ). add_leaves t list) before.1 ∙ add_leaves_lem list h.1 old new a few,
    )
exact_totals (join v w) h a few =
    let xs = trades_in v in
    let ys = trades_in w in
    let old = front xs ys a in
    let new = back xs ys a in
    let one = exact_totals v h.0 old (omega (arith, length-append xs ys)) in
    let two = exact_totals w h.1 new (omega (arith, length-append xs ys)) in (
      (one.0, two.0, ap (λ (t : List ℕ). join_answer t (made w)) one.1 ∙ ap (join_answer (totals_of xs)) two.1 ∙ join_does old new a few),
      ap (λ (t : List ℕ). join_leaves t (made w)) one.1 ∙ ap (join_leaves (totals_of xs)) two.1 ∙ join_leaves_lem old new a few,
    )

-- The totals do not depend on the order of the trades ..
pub totals_rearranged : {xs ys : List Trade} → Rearranged xs ys → totals_of xs ≡ totals_of ys
unfolding totals_of with_counts
totals_rearranged {xs} {ys} r =
    ap (λ (z : ℤ). with_counts zeros xs ++ words_for z ++ (word_of (nearest_to z) ∷ [])) (sum_rearranged r)
    ∙ ap (λ (c : List ℕ). c ++ words_for (pnl_sum ys) ++ (word_of (nearest_to (pnl_sum ys)) ∷ []))
    (eight_same (same 1) (same 2) (same 3) (same 4) (same 5) (same 6) (ap (λ (n : ℕ). 0 + n) (count_rearranged won r)) (ap (λ (n : ℕ). 0 + n)
    (count_rearranged lost r)))
  where
    same : (reason : ℕ) → 0 + count_of (ended_by reason) xs ≡ 0 + count_of (ended_by reason) ys
    same reason = ap (λ (n : ℕ). 0 + n) (count_rearranged (ended_by reason) r)

-- .. so ANY TWO WAYS to total the same trades leave the same words.
pub any_two_ways : (v w : Way) → WholeLists v → WholeLists w → Acceptable (trades_in v) → Acceptable (trades_in w)
    → length (trades_in v) ≤ most_count → length (trades_in w) ≤ most_count → Rearranged (trades_in v) (trades_in w) → made v ≡ made w
any_two_ways v w h k a b few few-too r = (exact_totals v h a few).1 ∙ totals_rearranged r ∙ sym (exact_totals w k b few-too).1
