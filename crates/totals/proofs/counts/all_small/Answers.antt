-- Each count passed the test, or one did not. Assumes nothing.
use Rattle.words.specs.Prelude.{rules, ◌≡◌, refl, sym, Bool, true, false, List, ℕ, ◌<◌, ◌≤◌, ⊎_elim, arith, length, get_or, List·get_or-eq_default}
use Rattle.words.specs.{Limits.most_count, Laws.Numbers.less_or_not}
use Rattle.std.specs.Bool.{MatchBool}
use Rattle.std.specs.List.{AllWithin, HoldsAt}
use Rattle.std.proofs.lemmas.Iterator.{cases_from_all, YieldsList-from_slice}
use borrow.Author.Tests.{tests}
use Rattle.totals.specs.{Totals.all_small, Laws.Counts.small_all, Laws.Counts.all_small_lem}
use Rattle.totals.proofs.counts.all_small.Goals as goal

by_cases : (cs : List ℕ) (r : Bool)
    → MatchBool r (AllWithin (λ x. x ≤ most_count) cs 0 (length cs)) ((k : ℕ) × (k < length cs) × HoldsAt (λ x. most_count < x) cs k) → r ≡ all_small cs
by_cases cs true h =
    sym
    (all_small_lem cs
    (λ i.
    ⊎_elim (λ (inside : i < length cs). h i 0 (omega arith) inside)
    (λ (past : length cs ≤ i). let none : get_or cs i 0 ≡ 0 = List·get_or-eq_default cs 0 past in omega arith)
    (less_or_not i (length cs))))
by_cases cs false (k, below, large) = go (all_small cs) refl
  where
    go : (b : Bool) → all_small cs ≡ b → false ≡ b
    go false e = refl
    go true e = absurd (never (get_or cs k 0) (small_all cs e k) (large 0))
      where
        never : (x : ℕ) → x ≤ most_count → most_count < x → ⊥
        never x p q = omega arith

pub returns : goal.returns
returns c =
    by_cases c.args.counts.now c.all.result
    (cases_from_all _ _ _ (λ x. x ≤ most_count) (λ x. most_count < x) c.all.ensures.ran (YieldsList-from_slice c.args.counts.now cc)
    (λ x q k. search (rules, tests)) (λ x q k. search (rules, tests)))
