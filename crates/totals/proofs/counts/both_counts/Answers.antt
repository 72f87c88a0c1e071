-- Two counts, each below 2^32, fit a word. Assumes nothing.
use Rattle.words.specs.Prelude.{refl, arith}
use Rattle.totals.specs.{Totals.both_counts}
use Rattle.totals.proofs.counts.both_counts.Goals as goal

pub overflow_add-result : goal.overflow_add-result
unfolding both_counts
overflow_add-result c = let p = c.requires in omega (arith, p.0 0, p.1 0)

pub overflow_add-result-2 : goal.overflow_add-result-2
unfolding both_counts
overflow_add-result-2 c = let p = c.requires in omega (arith, p.0 1, p.1 1)

pub overflow_add-result-3 : goal.overflow_add-result-3
unfolding both_counts
overflow_add-result-3 c = let p = c.requires in omega (arith, p.0 2, p.1 2)

pub overflow_add-result-4 : goal.overflow_add-result-4
unfolding both_counts
overflow_add-result-4 c = let p = c.requires in omega (arith, p.0 3, p.1 3)

pub overflow_add-result-5 : goal.overflow_add-result-5
overflow_add-result-5 c = let p = c.requires in omega (arith, p.0 4, p.1 4)

pub overflow_add-result-6 : goal.overflow_add-result-6
overflow_add-result-6 c = let p = c.requires in omega (arith, p.0 5, p.1 5)

pub overflow_add-result-7 : goal.overflow_add-result-7
overflow_add-result-7 c =
    let p = c.requires in omega
    (arith, p.0 6, p.1 6)

pub overflow_add-result-8 : goal.overflow_add-result-8
overflow_add-result-8 c =
    let p = c.requires
    in omega (arith, p.0 7, p.1 7)

pub returns : goal.returns
unfolding both_counts
returns c = refl
