-- The rows up to a question's: they are in the list, and they are whole.
use Rattle.std.specs.Prelude.{ℕ, ◌+◌, ◌-◌, ◌*◌, ◌%◌, ◌<◌, ◌≤◌, ◌≡◌, true, List, length}
use Rattle.words.specs.Prelude.{ap, ◌∙◌, arith, mul-mod_left, eq-eqb, length-take-le}
use Rattle.words.specs.{Laws.Records.records_fit}
use Rattle.rows.specs.{History.width, History.history_of, History.whole_rows}
use Rattle.questions.specs.{Over.rows_to}

module _ (K : ℕ) (rows : List ℕ) (n i : ℕ) (held : n ≤ (history_of K rows).rows) (l : i < n) where
  pub upto_fits : ((history_of K rows).rows - n + i + 1) * width K ≤ length rows
  unfolding history_of
  upto_fits = records_fit (length rows) (7 + K) (omega arith) ((history_of K rows).rows - n + i + 1) (omega (arith, held))

  pub upto_whole : whole_rows K (rows_to K rows n i) ≡ true
  unfolding whole_rows rows_to
  upto_whole =
      let m : ℕ = (history_of K rows).rows - n + i + 1 in
      eq-eqb _ _ (ap (λ (k : ℕ). k % (7 + K)) (length-take-le (m * (7 + K)) rows upto_fits) ∙ mul-mod_left m (7 + K))
