-- Each test is a line of the order; what is written is the record with the trades. Assumes nothing.
use Rattle.std.specs.Prelude.{Err}
use Rattle.words.specs.Prelude.{rules, ◌≡◌, refl, sym, ap, ◌∙◌, true, List, ℕ, ◌+◌, ◌*◌, ◌/◌, ◌≤◌, arith, length}
use Rattle.words.specs.{Limits.trade_words, Limits.most_count}
use Rattle.totals.specs.{Trades.trades_from, Trades.trades_of, Trades.good_start}
use Rattle.totals.specs.{Trades.pnl_sum, Totals.count_size, Totals.AllAtMost, Totals.counts_of}
use Rattle.totals.specs.{Totals.with_counts, Totals.sum_with, Totals.traded, Totals.counts_fine}
use Rattle.totals.proofs.{Testing.so, Testing.not_so, Answers.judged_most, Answers.fine_small, Answers.traded_most, Answers.length_of, Answers.written}
use Rattle.totals.proofs.{Answers.at_most_as, Answers.add_short, Answers.add_ragged, Answers.add_wrong, Answers.add_judged, Answers.all_of_them}
use Rattle.totals.proofs.{Answers.add_keeps, Answers.add_writes}
use Rattle.totals.proofs.add.Goals as goal

judged_few : (k n len : ℕ) → k ≤ n → n ≡ len / trade_words → k * trade_words ≤ len
judged_few k n len h e = omega arith

pub returns-then-totals-lt-TOTAL_WORDS : goal.returns-then-totals-lt-TOTAL_WORDS
returns-then-totals-lt-TOTAL_WORDS c =
    let start = c.args in
    let told = add_short start.totals.now start.trades.now c.if-totals-lt-TOTAL_WORDS.true in
    (sym told, add_keeps _ _ _ told)

pub returns-then-trades-ne0 : goal.returns-then-trades-ne0
returns-then-trades-ne0 c =
    let start = c.args in
    let told = add_ragged start.totals.now start.trades.now c.if-totals-lt-TOTAL_WORDS.false c.if-trades-ne0.true in
    (sym told, add_keeps _ _ _ told)

pub returns-then-not-fine : goal.returns-then-not-fine
returns-then-not-fine c =
    let start = c.args in
    let wrong = ap counts_fine (sym c.counts_of-counts.ensures) ∙ sym c.fine.ensures
    ∙ not_so _ c.if-not-fine.true-raw in
    let told = add_wrong start.totals.now start.trades.now c.if-totals-lt-TOTAL_WORDS.false
    c.if-trades-ne0.false wrong in
    (sym told, add_keeps _ _ _ told)

pub traded-traded-requires : goal.traded-traded-requires
traded-traded-requires c =
    let small : (length c.counts_of-counts.result ≡ count_size)
    × AllAtMost most_count c.counts_of-counts.result = let fine_read : counts_fine c.counts_of-counts.result ≡ true = sym c.fine.ensures ∙ so _ c.if-not-fine.false-raw in
    (ap length c.counts_of-counts.ensures ∙ length_of _, fine_small _ fine_read) in
    small.1

pub count_trades-good-requires : goal.count_trades-good-requires
count_trades-good-requires c =
    let small : (length c.counts_of-counts.result ≡ count_size)
    × AllAtMost most_count c.counts_of-counts.result = let fine_read : counts_fine c.counts_of-counts.result ≡ true = sym c.fine.ensures ∙ so _ c.if-not-fine.false-raw in
    (ap length c.counts_of-counts.ensures ∙ length_of _, fine_small _ fine_read) in
    let judged = c.judged_count-judged.ensures in
    let most = judged_most (length c.args.trades.now / trade_words) in
    (judged_few _ _ _ (at_most_as (sym judged) refl most.0) refl, at_most_as (sym judged) refl most.1, small.1)

pub overflow_add-traded : goal.overflow_add-traded
overflow_add-traded c =
    let small : (length c.counts_of-counts.result ≡ count_size)
    × AllAtMost most_count c.counts_of-counts.result = let fine_read : counts_fine c.counts_of-counts.result ≡ true = sym c.fine.ensures ∙ so _ c.if-not-fine.false-raw in
    (ap length c.counts_of-counts.ensures ∙ length_of _, fine_small _ fine_read) in
    let good = c.well_formed in
    omega (arith, c.traded-traded.ensures, traded_most c.counts_of-counts.result small.1)

pub returns-in_err-and : goal.returns-in_err-and
returns-in_err-and c =
    let start = c.args in
    let trades = start.trades.now in
    let fine_held : counts_fine (counts_of start.totals.now) ≡ true = ap counts_fine (sym c.counts_of-counts.ensures) ∙ (sym c.fine.ensures ∙ so _ c.if-not-fine.false-raw) in
    let judged = c.judged_count-judged.ensures in
    let good = c.count_trades-good.ensures.0 ∙ ap (λ (k : ℕ). length (good_start (trades_from k 0 trades))) judged in
    let traded = ap (λ (k : ℕ). k + length trades / trade_words) (c.traded-traded.ensures ∙ ap traded c.counts_of-counts.ensures) in
    let told = add_judged start.totals.now trades c.if-totals-lt-TOTAL_WORDS.false c.if-trades-ne0.false fine_held good judged traded
    c.bad_trade-bad.ensures c.too_many-many.ensures (sym c.in_err-and.was ∙ c.and.ensures) in
    let given : c.from_residual.result ≡ Err c.in_err-and.field-0.0 = search rules in
    (given ∙ sym told, add_keeps _ _ _ told)

pub returns : goal.returns
returns c =
    let fine_held : counts_fine (counts_of c.args.totals.now) ≡ true = ap counts_fine (sym c.counts_of-counts.ensures) ∙ (sym c.fine.ensures ∙ so _ c.if-not-fine.false-raw) in
    let start = c.args in
    let totals = start.totals.now in
    let trades = start.trades.now in
    let judged = c.judged_count-judged in
    let good = c.count_trades-good.ensures.0 ∙ ap (λ (k : ℕ). length (good_start (trades_from k 0 trades))) judged.ensures in
    let traded = ap (λ (k : ℕ). k + length trades / trade_words) (c.traded-traded.ensures ∙ ap traded c.counts_of-counts.ensures) in
    let done = add_judged totals trades c.if-totals-lt-TOTAL_WORDS.false c.if-trades-ne0.false fine_held good judged.ensures traded
    c.bad_trade-bad.ensures c.too_many-many.ensures (sym c.in_ok-and.was ∙ c.and.ensures) in
    let counts =
    c.count_trades-good.ensures.1
    ∙ ap (λ (l : List ℕ). with_counts l (good_start (trades_from judged.result 0 trades))) c.counts_of-counts.ensures
    ∙ ap (λ (k : ℕ). with_counts (counts_of totals) (good_start (trades_from k 0 trades))) judged.ensures
    ∙ ap (with_counts (counts_of totals)) (all_of_them totals trades c.if-totals-lt-TOTAL_WORDS.false
    c.if-trades-ne0.false fine_held done) in
    let sum = c.add_trades.ensures
    ∙ ap (λ (l : List ℕ). sum_with l (pnl_sum (trades_of trades))) c.sum_of-before.ensures in (
      sym done,
      c.put_totals.ensures ∙ written totals _ _ counts sum
          c.nearest_to-float.ensures ∙ sym (add_writes totals trades done),
    )
