-- The first records of a list, and the words of a row.
use Rattle.words.specs.Prelude.{ℕ, ◌+◌, ◌-◌, ◌*◌, ◌/◌, ◌<◌, ◌≤◌, ◌≡◌, sym, ap, ◌∙◌, List, div-lt_iff_lt-mul, le_of_lt, mul-div_cancel, zero-mul, arith, add-one}
use Rattle.words.specs.Prelude.{length, take, drop, set, take_all, length-take-le}
use Rattle.rows.specs.{History.width, History.last_rows}
use Rattle.engine.specs.{Record.listed, Record.held_rows}
use lib.Seq.{take-suc-set}

-- where more are asked for than there are places, the first of them are all
pub all_of_them : (w n : ℕ) (l : List ℕ) → 0 < w → length l / w < n → l ≡ take (n * w) l
all_of_them w n l p h = sym (take_all (n * w) l (le_of_lt ((div-lt_iff_lt-mul {k = w} p).0 h)))

-- one word more of a row
pub word_more : (f : ℕ → ℕ) (row : List ℕ) (j v : ℕ) → j < length row → take j row ≡ listed j f → v ≡ f j
    → take (j + 1) (set row j v) ≡ listed (j + 1) f
unfolding listed
word_more f row j v h e w = rw add-one (take-suc-set row j v h ∙ rw (e, w))

-- ---- the rows that a room holds

module _ (K D held : ℕ) (rows : List ℕ) (fits : held * width K ≤ length rows) where
  -- they are that many
  counted : length (held_rows K held rows) / width K ≡ held
  unfolding held_rows
  counted = ap (λ (n : ℕ). n / width K) (length-take-le (held * width K) rows fits) ∙ mul-div_cancel held {n = width K} (omega arith)

  -- the last D of them, where there are more
  pub last_held : drop ((held - D) * width K) (held_rows K held rows) ≡ last_rows K D (held_rows K held rows)
  unfolding last_rows
  last_held = rw counted

  -- and all, where there are not
  pub all_held : held ≤ D → held_rows K held rows ≡ last_rows K D (held_rows K held rows)
  all_held h = let none : held - D ≡ 0 = omega arith in rw (none, zero-mul (width K)) at last_held
