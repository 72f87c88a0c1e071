-- The 34 words of a sum with a float more, and with another sum. Assumes nothing.
use Rattle.std.specs.Prelude.{◌≡◌, false, List, ℕ, ◌%◌, ◌^◌, ◌<◌, leb, length, ℤ, pos, ◌+ℤ◌}
use Rattle.words.specs.Prelude.{sym, ap, subst, ◌∙◌, +ℤ_assoc, +ℤ_idr}
use Rattle.floats.specs.{Root.units_of}
use Rattle.totals.specs.{Number.place, Number.number_of, Number.words_of, Number.shifted, Number.AreWords, Exact.residue, Exact.signed, Exact.units_in}
use Rattle.totals.specs.{Exact.number_in, Exact.words_for, Exact.sum_size, Totals.sum_with, Laws.Places.place_some, Laws.Places.number_below}
use Rattle.totals.specs.{Laws.Places.words_of_number, Laws.Places.length_words, Laws.Places.number_words, Laws.Places.are_words}
use Rattle.totals.specs.{Laws.Residues.residue_below, Laws.Residues.residue-signed, Laws.Residues.residue_on, Laws.Residues.residue_join}
use Rattle.totals.specs.{Laws.Residues.residue_cut}

-- the weight past the last word
abbrev all : ℕ
all = place sum_size

-- a sum's words as one number
sum_below : (sum : List ℕ) → AreWords sum → length sum ≡ sum_size → number_of sum < all
sum_below sum words size = subst (λ (n : ℕ). number_of sum < place n) size (number_below sum words)

pub length_for : (z : ℤ) → length (words_for z) ≡ sum_size
unfolding words_for
length_for z = length_words sum_size (residue all z)

pub words_for_lem : (z : ℤ) → AreWords (words_for z)
unfolding words_for
words_for_lem z = are_words sum_size (residue all z)

pub sum_length : (sum : List ℕ) (z : ℤ) → length (sum_with sum z) ≡ sum_size
unfolding sum_with
sum_length sum z = length_for (number_in sum +ℤ z)

pub sum_words : (sum : List ℕ) (z : ℤ) → AreWords (sum_with sum z)
unfolding sum_with
sum_words sum z = words_for_lem (number_in sum +ℤ z)

-- the number of a sum's words is that of the whole number that it stands for
pub number_for : (z : ℤ) → number_in (words_for z) ≡ signed all (residue all z)
unfolding words_for number_in
number_for z = ap (signed all) (number_words sum_size (residue all z) (residue_below z (place_some sum_size)))

module _ (sum : List ℕ) (words : AreWords sum) (size : length sum ≡ sum_size) where
  -- with nothing more a sum has its words
  pub sum_with_none : sum_with sum (pos 0) ≡ sum
  unfolding sum_with words_for number_in
  sum_with_none =
      ap (λ (z : ℤ). words_of sum_size (residue all z)) (+ℤ_idr (signed all (number_of sum)))
      ∙ ap (words_of sum_size) (residue-signed (number_of sum) (sum_below sum words size))
      ∙ ap (λ (n : ℕ). words_of n (number_of sum)) (sym size) ∙ words_of_number sum words

  -- one float more
  pub sum_with_float : (w : ℕ) → words_of sum_size (shifted (leb (2 ^ 63) w) all (number_of sum) (units_of (w % 2 ^ 63))) ≡ sum_with sum (units_in w)
  unfolding sum_with words_for number_in units_in
  sum_with_float w =
      ap (λ (n : ℕ). words_of sum_size (shifted (leb (2 ^ 63) w) all n (units_of (w % 2 ^ 63))))
      (sym (residue-signed (number_of sum) (sum_below sum words size)))
      ∙ ap (words_of sum_size) (residue_on (leb (2 ^ 63) w) (units_of (w % 2 ^ 63)) (signed all (number_of sum)) (place_some sum_size))

  -- another sum more
  pub sum_with_sum : (other : List ℕ) → AreWords other → length other ≡ sum_size
      → words_of sum_size (shifted false all (number_of sum) (number_of other)) ≡ sum_with sum (number_in other)
  unfolding sum_with words_for number_in
  sum_with_sum other others size' =
      ap (λ (n : ℕ). words_of sum_size (shifted false all n (number_of other))) (sym (residue-signed (number_of sum) (sum_below sum words size)))
      ∙ ap (λ (n : ℕ). words_of sum_size (shifted false all (residue all (signed all (number_of sum))) n))
      (sym (residue-signed (number_of other) (sum_below other others size')))
      ∙ ap (words_of sum_size) (residue_join (signed all (number_of sum)) (signed all (number_of other)) (place_some sum_size))

cut_words : (z y : ℤ) → words_for (signed all (residue all z) +ℤ y) ≡ words_for (z +ℤ y)
unfolding words_for
cut_words z y = ap (words_of sum_size) (residue_cut z y (place_some sum_size))

-- more, and more again: nothing is lost by the cut to 34 words
pub sum_with_twice : (sum : List ℕ) (x y : ℤ) → sum_with (sum_with sum x) y ≡ sum_with sum (x +ℤ y)
unfolding sum_with
sum_with_twice sum x y =
    ap (λ (z : ℤ). words_for (z +ℤ y)) (number_for (number_in sum +ℤ x)) ∙ cut_words (number_in sum +ℤ x) y
    ∙ ap words_for (+ℤ_assoc (number_in sum) x y)
