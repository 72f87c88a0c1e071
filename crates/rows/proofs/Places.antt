-- Where rows of one width stand in a list of words. Assumes nothing.
use Rattle.words.specs.Prelude.{ℕ, ◌+◌, ◌-◌, ◌*◌, ◌/◌, ◌<◌, ◌≤◌, ◌≡◌, List, arith, length, take, drop, length-drop, take_all, div-eq_of_lt, zero-mul, le_refl}
use Rattle.words.specs.{Laws.Records.records_fit}
use Rattle.rows.specs.{History.history_of, History.width, History.last_rows}

-- a list shorter than a row holds none
pub no_rows : (n w : ℕ) → n < w → 0 ≡ n / w
no_rows n w h = let e : n / w ≡ 0 = div-eq_of_lt h in omega arith

module _ (K D held : ℕ) (ws : List ℕ) (count : held ≡ (history_of K ws).rows) where
  -- the rows before the last D lie within the list
  pub skipped_fit : (held - D) * width K ≤ length ws
  unfolding history_of
  skipped_fit = records_fit (length ws) (7 + K) (omega arith) (held - D) (omega arith)

  -- a list that holds a row is as long as one
  pub row_fits : D < held → width K ≤ length ws
  unfolding history_of
  row_fits l = let h : 1 * (7 + K) ≤ length ws = records_fit (length ws) (7 + K) (omega arith) 1 (omega arith) in omega arith

  pub window_all : held ≤ D → ws ≡ last_rows K D ws
  unfolding history_of last_rows
  window_all l =
      let e : length ws / (7 + K) - D ≡ 0 = omega arith in
      rw (e, zero-mul)

  pub window_part : take (length ws - (held - D) * width K) (drop ((held - D) * width K) ws) ≡ last_rows K D ws
  unfolding history_of last_rows
  window_part =
      let s : ℕ = (length ws / (7 + K) - D) * (7 + K) in
      rw count (take_all (length ws - s) (drop s ws) (rw length-drop (le_refl (length ws - s))))
