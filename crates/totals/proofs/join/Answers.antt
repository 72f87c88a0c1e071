-- Each test is a line of the order; what is written is the record of both. Assumes nothing.
use Rattle.words.specs.Prelude.{◌≡◌, refl, sym, ap, ◌∙◌, true, List, ℕ, ◌+◌, arith, length}
use Rattle.words.specs.{Limits.most_count}
use Rattle.totals.specs.{Exact.number_in, Totals.count_size, Totals.AllAtMost, Totals.counts_of}
use Rattle.totals.specs.{Totals.sum_words, Totals.both_counts, Totals.sum_with, Totals.traded, Totals.counts_fine}
use Rattle.totals.proofs.{Testing.so, Testing.not_so, Answers.fine_small, Answers.traded_most, Answers.length_of, Answers.written, Answers.less_as}
use Rattle.totals.proofs.{Answers.at_most_as, Answers.join_short, Answers.join_ragged, Answers.join_wrong, Answers.join_other, Answers.join_many}
use Rattle.totals.proofs.{Answers.join_done, Answers.join_keeps, Answers.join_writes}
use Rattle.totals.proofs.join.Goals as goal

pub returns-then-totals-lt-TOTAL_WORDS : goal.returns-then-totals-lt-TOTAL_WORDS
returns-then-totals-lt-TOTAL_WORDS c =
    let start = c.args in
    let told = join_short start.totals.now start.other.now c.if-totals-lt-TOTAL_WORDS.true in
    (sym told, join_keeps _ _ _ told)

pub returns-then-other-ne-TOTAL_WORDS : goal.returns-then-other-ne-TOTAL_WORDS
returns-then-other-ne-TOTAL_WORDS c =
    let start = c.args in
    let told = join_ragged start.totals.now start.other.now c.if-totals-lt-TOTAL_WORDS.false c.if-other-ne-TOTAL_WORDS.true in
    (sym told, join_keeps _ _ _ told)

pub returns-then-not-fine : goal.returns-then-not-fine
returns-then-not-fine c =
    let start = c.args in
    let wrong = ap counts_fine (sym c.counts_of-counts.ensures) ∙ sym c.fine.ensures
    ∙ not_so _ c.if-not-fine.true-raw in
    let told = join_wrong start.totals.now start.other.now c.if-totals-lt-TOTAL_WORDS.false
    c.if-other-ne-TOTAL_WORDS.false wrong in
    (sym told, join_keeps _ _ _ told)

pub returns-then-not-fine-2 : goal.returns-then-not-fine-2
returns-then-not-fine-2 c =
    let fine_held : counts_fine (counts_of c.args.totals.now) ≡ true = ap counts_fine (sym c.counts_of-counts.ensures) ∙ sym c.fine.ensures ∙ so _ c.if-not-fine.false-raw in
    let start = c.args in
    let wrong = ap counts_fine (sym c.counts_of-more.ensures) ∙ sym c.fine-2.ensures
    ∙ not_so _ c.if-not-fine-2.true-raw in
    let told = join_other start.totals.now start.other.now c.if-totals-lt-TOTAL_WORDS.false
    c.if-other-ne-TOTAL_WORDS.false fine_held wrong in
    (sym told, join_keeps _ _ _ told)

pub traded-requires : goal.traded-requires
traded-requires c =
    let small : (length c.counts_of-counts.result ≡ count_size)
    × AllAtMost most_count c.counts_of-counts.result = (ap length c.counts_of-counts.ensures ∙ length_of _, fine_small _ (sym c.fine.ensures ∙ so _ c.if-not-fine.false-raw)) in
    small.1

pub traded-requires-2 : goal.traded-requires-2
traded-requires-2 c =
    let small_other : (length c.counts_of-more.result ≡ count_size)
    × AllAtMost most_count c.counts_of-more.result = (ap length c.counts_of-more.ensures ∙ length_of _, fine_small _ (sym c.fine-2.ensures ∙ so _ c.if-not-fine-2.false-raw)) in
    small_other.1

pub overflow_add-traded : goal.overflow_add-traded
overflow_add-traded c =
    let small : (length c.counts_of-counts.result ≡ count_size)
    × AllAtMost most_count c.counts_of-counts.result = (ap length c.counts_of-counts.ensures ∙ length_of _, fine_small _ (sym c.fine.ensures ∙ so _ c.if-not-fine.false-raw)) in
    let small_other : (length c.counts_of-more.result ≡ count_size)
    × AllAtMost most_count c.counts_of-more.result = (ap length c.counts_of-more.ensures ∙ length_of _, fine_small _ (sym c.fine-2.ensures ∙ so _ c.if-not-fine-2.false-raw)) in
    omega (
      arith,
      c.traded.ensures,
      c.traded-2.ensures,
      traded_most c.counts_of-counts.result small.1,
      traded_most c.counts_of-more.result small_other.1,
    )

pub returns-then-traded-gt-MOST_COUNT : goal.returns-then-traded-gt-MOST_COUNT
returns-then-traded-gt-MOST_COUNT c =
    let fine_held : counts_fine (counts_of c.args.totals.now) ≡ true = ap counts_fine (sym c.counts_of-counts.ensures) ∙ sym c.fine.ensures ∙ so _ c.if-not-fine.false-raw in
    let fine_other : counts_fine (counts_of c.args.other.now) ≡ true = ap counts_fine (sym c.counts_of-more.ensures) ∙ sym c.fine-2.ensures ∙ so _ c.if-not-fine-2.false-raw in
    let traded_both : c.traded.result + c.traded-2.result
    ≡ traded (counts_of c.args.totals.now) + traded (counts_of c.args.other.now) = ap (λ (k : ℕ). k + c.traded-2.result) (c.traded.ensures
    ∙ ap traded c.counts_of-counts.ensures)
    ∙ ap (λ (k : ℕ). traded (counts_of c.args.totals.now) + k) (c.traded-2.ensures ∙ ap traded c.counts_of-more.ensures) in
    let start = c.args in
    let told = join_many start.totals.now start.other.now c.if-totals-lt-TOTAL_WORDS.false
    c.if-other-ne-TOTAL_WORDS.false fine_held fine_other
    (less_as refl traded_both c.if-traded-gt-MOST_COUNT.true) in
    (sym told, join_keeps _ _ _ told)

pub both_counts-both-requires : goal.both_counts-both-requires
both_counts-both-requires c =
    let small : (length c.counts_of-counts.result ≡ count_size)
    × AllAtMost most_count c.counts_of-counts.result = (ap length c.counts_of-counts.ensures ∙ length_of _, fine_small _ (sym c.fine.ensures ∙ so _ c.if-not-fine.false-raw)) in
    let small_other : (length c.counts_of-more.result ≡ count_size)
    × AllAtMost most_count c.counts_of-more.result = (ap length c.counts_of-more.ensures ∙ length_of _, fine_small _ (sym c.fine-2.ensures ∙ so _ c.if-not-fine-2.false-raw)) in
    (small.1, small_other.1)

pub returns : goal.returns
returns c =
    let fine_held : counts_fine (counts_of c.args.totals.now) ≡ true = ap counts_fine (sym c.counts_of-counts.ensures) ∙ sym c.fine.ensures ∙ so _ c.if-not-fine.false-raw in
    let fine_other : counts_fine (counts_of c.args.other.now) ≡ true = ap counts_fine (sym c.counts_of-more.ensures) ∙ sym c.fine-2.ensures ∙ so _ c.if-not-fine-2.false-raw in
    let traded_both : c.traded.result + c.traded-2.result
    ≡ traded (counts_of c.args.totals.now) + traded (counts_of c.args.other.now) = ap (λ (k : ℕ). k + c.traded-2.result) (c.traded.ensures
    ∙ ap traded c.counts_of-counts.ensures)
    ∙ ap (λ (k : ℕ). traded (counts_of c.args.totals.now) + k) (c.traded-2.ensures ∙ ap traded c.counts_of-more.ensures) in
    let start = c.args in
    let totals = start.totals.now in
    let other = start.other.now in
    let done = join_done totals other c.if-totals-lt-TOTAL_WORDS.false c.if-other-ne-TOTAL_WORDS.false
    fine_held fine_other (at_most_as traded_both refl c.if-traded-gt-MOST_COUNT.false) in
    let counts =
    c.both_counts-both.ensures
    ∙ ap (λ (l : List ℕ). both_counts l c.counts_of-more.result)
    c.counts_of-counts.ensures
    ∙ ap (both_counts (counts_of totals)) c.counts_of-more.ensures in
    let sum =
    c.add_sum.ensures
    ∙ ap (λ (l : List ℕ). sum_with l (number_in (sum_words other))) c.sum_of-sum.ensures in (
      sym done,
      c.put_totals.ensures ∙ written totals _ _ counts sum
          c.nearest_to-float.ensures ∙ sym (join_writes totals other done),
    )
