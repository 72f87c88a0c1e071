-- Four parts, each written where the one before it ends (`four_put`).
use Rattle.words.specs.Prelude.{◌≡◌, ap, ◌∙◌, List, ◌++◌, ℕ, ◌+◌, ◌*◌, ◌≤◌, arith, length, length-append}
use Rattle.words.specs.{Words.overwrite, Laws.Overwrite.overwrite-length}
use Rattle.differences.specs.{Lines.Line, Lines.points, Lines.trades, Lines.equity_line, Lines.word_lines, Lines.surplus, Lines.differences_from}
use Rattle.differences.specs.{Lines.words_of, Laws.Written.four_put}
use Rattle.differences.proofs.put_all.put_all.Goals as goal

-- how many lines four parts have
four : (ks bs cs ds : List Line) → length (ks ++ bs ++ cs ++ ds) ≡ length ks + length bs + length cs + length ds
four ks bs cs ds = omega (arith, length-append (ks ++ bs ++ cs) ds, length-append (ks ++ bs) cs, length-append ks bs)

first_fits : (k b c d all r : ℕ) → all ≡ k + b + c + d → 5 * all ≤ r → 5 * k ≤ r
first_fits k b c d all r e h = omega arith

second_fits : (k b c d all r x r1 : ℕ) → all ≡ k + b + c + d → 5 * all ≤ r → x ≡ k → r1 ≡ r → 5 * (x + b) ≤ r1
second_fits k b c d all r x r1 e h f g = omega arith

third_fits : (k b c d all r x y r2 : ℕ) → all ≡ k + b + c + d → 5 * all ≤ r → x ≡ k → y ≡ x + b → r2 ≡ r → 5 * (y + c) ≤ r2
third_fits k b c d all r x y r2 e h f g i = omega arith

fourth_fits : (k b c d all r x y z r3 : ℕ) → all ≡ k + b + c + d → 5 * all ≤ r → x ≡ k → y ≡ x + b → z ≡ y + c → r3 ≡ r → 5 * (z + d) ≤ r3
fourth_fits k b c d all r x y z r3 e h f g i j = omega arith

-- the parts of two runs, and the room after each
module _ (e t e' t' : List ℕ) (k p n : ℕ) (r : List ℕ) (fits : 5 * length (differences_from e t e' t' k p n) ≤ length r) where
  all : length (differences_from e t e' t' k p n) ≡ length (equity_line e e' k p) + length (word_lines t t' n) + length (surplus 3 (trades t) (trades t'))
      + length (surplus 4 (points e) (points e'))
  unfolding differences_from
  all = four (equity_line e e' k p) (word_lines t t' n) (surplus 3 (trades t) (trades t')) (surplus 4 (points e) (points e'))

  fits_one : 5 * length (equity_line e e' k p) ≤ length r
  fits_one = first_fits _ _ _ _ _ _ all fits

  module _ (c : ℕ) (r1 : List ℕ) (one : (c ≡ length (equity_line e e' k p)) × (r1 ≡ overwrite r 0 (words_of (equity_line e e' k p)))) where
    long_one : length r1 ≡ length r
    long_one = ap length one.1 ∙ overwrite-length r 0 (words_of (equity_line e e' k p))

    fits_two : 5 * (c + length (word_lines t t' n)) ≤ length r1
    fits_two = second_fits _ _ _ _ _ _ _ _ all fits one.0 long_one

    module _ (d : ℕ) (r2 : List ℕ) (two : (d ≡ c + length (word_lines t t' n)) × (r2 ≡ overwrite r1 (5 * c) (words_of (word_lines t t' n)))) where
      long_two : length r2 ≡ length r
      long_two = ap length two.1 ∙ overwrite-length r1 (5 * c) (words_of (word_lines t t' n)) ∙ long_one

      fits_three : 5 * (d + length (surplus 3 (trades t) (trades t'))) ≤ length r2
      fits_three = third_fits _ _ _ _ _ _ _ _ _ all fits one.0 two.0 long_two

      module _ (f : ℕ) (r3 : List ℕ) (three : (f ≡ d + length (surplus 3 (trades t) (trades t')))
          × (r3 ≡ overwrite r2 (5 * d) (words_of (surplus 3 (trades t) (trades t'))))) where
        fits_four : 5 * (f + length (surplus 4 (points e) (points e'))) ≤ length r3
        fits_four = fourth_fits _ _ _ _ _ _ _ _ _ _ all fits one.0 two.0 three.0
            (ap length three.1 ∙ overwrite-length r2 (5 * d) (words_of (surplus 3 (trades t) (trades t'))) ∙ long_two)

        together : (r4 : List ℕ) → r4 ≡ overwrite r3 (5 * f) (words_of (surplus 4 (points e) (points e')))
            → r4 ≡ overwrite r 0 (words_of (differences_from e t e' t' k p n))
        unfolding differences_from
        together r4 four =
            four_put r r1 r2 r3 r4 (equity_line e e' k p) (word_lines t t' n) (surplus 3 (trades t) (trades t')) (surplus 4 (points e) (points e')) c d f fits
            one.0 one.1 two.0 two.1 three.0 three.1 four

pub put_equity-c-requires : goal.put_equity-c-requires
put_equity-c-requires c =
    let pre = c.requires in
    (pre.0, pre.1, fits_one _ _ _ _ _ _ _ c.args.lines.now pre.4)

pub put_trades-d-requires : goal.put_trades-d-requires
put_trades-d-requires c =
    let pre = c.requires in
    (pre.2, pre.3, fits_two _ _ _ _ _ _ _ _ pre.4 _ _ c.put_equity-c.ensures)

pub put_surplus-e-requires : goal.put_surplus-e-requires
put_surplus-e-requires c =
    let pre = c.requires in
    fits_three _ _ _ _ _ _ _ _ pre.4 _ _ c.put_equity-c.ensures _ _ c.put_trades-d.ensures

pub put_surplus-requires : goal.put_surplus-requires
put_surplus-requires c =
    let pre = c.requires in
    fits_four _ _ _ _ _ _ _ _ pre.4 _ _ c.put_equity-c.ensures _ _ c.put_trades-d.ensures _ _ c.put_surplus-e.ensures

pub returns : goal.returns
returns c =
    let pre = c.requires in
    together _ _ _ _ _ _ _ _ pre.4 _ _ c.put_equity-c.ensures _ _ c.put_trades-d.ensures _ _ c.put_surplus-e.ensures
    _ c.put_surplus.ensures.1
