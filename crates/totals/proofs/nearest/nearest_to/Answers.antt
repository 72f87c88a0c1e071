-- `totals::nearest::nearest_to`: the highest digit is the sign; the size of a negative sum is 0 less it. Assumes nothing.
use Rattle.words.specs.Prelude.{◌≡◌, refl, sym, ap, subst, ◌∙◌, true, false, ℕ, ◌+◌, ◌-◌, ◌^◌, ◌<◌, ◌≤◌, arith, get_or, replicate, ℤ}
use Rattle.words.specs.Prelude.{binary64, round, to_bits}
use Rattle.totals.specs.{Number.number_of, Number.AreWords, Number.place, Number.shifted, Laws.Places.number_below, Laws.Places.place_some}
use Rattle.totals.specs.{Laws.Residues.shifted_below, Laws.Places.number_words, Exact.nearest_to, Exact.number_in}
use Rattle.totals.proofs.{Sign.not_negative, Sign.negative, Sign.some_of_negative, Sign.negated, Sign.pattern_most, Sign.nearest_negative}
use Rattle.totals.proofs.nearest.nearest_to.Goals as goal

fine : (x y : ℕ) → x ≡ y → y ≤ 0x7ff0_0000_0000_0000 → 2 ^ 63 + x < 2 ^ 64
fine x y e h = omega arith

zeros : number_of (replicate 34 0) ≡ 0
unfolding number_of
zeros = refl

pub returns-then-word-lt9223372036854775808 : goal.returns-then-word-lt9223372036854775808
unfolding nearest_to number_in
returns-then-word-lt9223372036854775808 c =
    let ws = c.args.sum.now in
    let words : AreWords ws = λ i. omega (arith, c.fits-sum i) in
    let small : get_or ws 33 0 < 2 ^ 63 = omega (arith, c.word.ensures, c.if-word-lt9223372036854775808.true) in
    c.nearest.ensures ∙ ap (λ (z : ℤ). to_bits binary64 (nearest_to z)) (sym (not_negative ws words 33 (omega arith) small))

pub overflow_add-result : goal.overflow_add-result
overflow_add-result c = record { fits = fine _ _ c.nearest-2.ensures (pattern_most _) }

pub returns : goal.returns
unfolding number_in
returns c =
    let ws = c.args.sum.now in
    let words : AreWords ws = λ i. omega (arith, c.fits-sum i) in
    let large : 2 ^ 63 ≤ get_or ws 33 0 = omega (
      arith,
      c.word.ensures,
      c.if-word-lt9223372036854775808.false,
    ) in
    let n = number_of ws in
    let below : n < place 34 = subst (λ (k : ℕ). n < place k) (omega arith) (number_below ws words) in
    let some : 0 < n = some_of_negative ws words 33 (omega arith) large in
    let size : number_of c.shift_all.new.sum ≡ place 34 - n =
    ap number_of c.shift_all.ensures
    ∙ number_words 34 (shifted true (place 34) (number_of (replicate 34 0)) n) (shifted_below true (number_of (replicate 34 0)) n (place_some 34))
    ∙ ap (λ (z : ℕ). shifted true (place 34) z n) zeros ∙ negated (place 34) n some below in
    ap (λ (z : ℕ). 2 ^ 63 + z) (c.nearest-2.ensures ∙ ap (λ (z : ℕ). to_bits binary64 (round binary64 false z (2 ^ 1074))) size)
    ∙ nearest_negative (place 34) n some below ∙ ap (λ (z : ℤ). to_bits binary64 (nearest_to z)) (sym (negative ws words 33 (omega arith) large))
