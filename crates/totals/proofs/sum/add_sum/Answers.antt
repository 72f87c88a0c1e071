-- Words are added as numbers: what they stand for is added. Assumes nothing.
use Rattle.words.specs.Prelude.{◌≡◌, sym, ap, subst, ◌∙◌, false, List, ℕ, ◌+◌, ◌^◌, ◌<◌, ◌≤◌, ⊎_elim, arith, length, take, drop, get_or-take, get_or-drop}
use Rattle.words.specs.Prelude.{List·get_or-eq_default}
use Rattle.words.specs.{Laws.Numbers.less_or_not}
use Rattle.totals.specs.{Number.AreWords, Number.number_of, Number.words_of, Number.shifted, Number.place, Totals.total_words, Totals.sum_words}
use Rattle.totals.specs.{Laws.Sums.sum_with_sum}
use Rattle.totals.proofs.{Writing.sum_long}
use Rattle.totals.proofs.sum.add_sum.Goals as goal

-- the sum in totals of words is of words
sum_are_words : (totals : List ℕ) → AreWords totals → total_words ≤ length totals → AreWords (sum_words totals)
unfolding sum_words
sum_are_words totals words h i =
    let sum = take 34 (drop 8 totals) in
    let long : length sum ≡ 34 = sum_long totals h in
    ⊎_elim
    (λ (inside : i < 34). subst (λ (w : ℕ). w < 2 ^ 64) (sym (get_or-take 34 (drop 8 totals) i 0 inside ∙ get_or-drop 8 totals i 0)) (words (8 + i)))
    (λ (past : 34 ≤ i). subst (λ (w : ℕ). w < 2 ^ 64) (sym (List·get_or-eq_default sum 0 {n = i} (omega (arith, long, past)))) (omega arith))
    (less_or_not i 34)

pub returns : goal.returns
unfolding sum_words
returns c =
    let sum = c.args.sum.now in
    let other = c.args.other.now in
    let words : AreWords sum = λ i. omega (arith, c.fits-sum i) in
    let others : AreWords other = λ i. omega (arith, c.type_inv.other i) in
    c.shift_all.ensures
    ∙ ap (λ (n : ℕ). words_of n (shifted false (place n) (number_of sum) (number_of (take 34 (drop 8 other))))) (omega arith)
    ∙ sum_with_sum sum words (omega arith) (sum_words other) (sum_are_words other others c.requires) (sum_long other c.requires)
