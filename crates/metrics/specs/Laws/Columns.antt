-- What stands at each place of a column of records, and how long it is.
use Rattle.std.specs.Prelude.{◌≡◌, refl, List, ℕ, zero, suc, ◌+◌, ◌*◌, ◌/◌, ◌≤◌, ◌<◌, length, get_or, drop}
use Rattle.words.specs.Prelude.{sym, ap, ◌∙◌, mul-zero, mul_comm, zero-add, not-suc-le-zero}
use Rattle.words.specs.Prelude.{le_of_suc-le-suc, arith, List·get_or-eq_default, get_or-drop}
use Rattle.floats.specs.{Floats.float_of}
use Rattle.words.specs.{Limits.point_words, Limits.trade_words, Laws.Records.record_ends}
use Rattle.metrics.specs.{Records.equity_word, Records.pnl_word, Records.column, Records.equity_of, Records.pnls_of}
use Rattle.std.proofs.Common.{mul-suc}
use Rattle.floats.specs.Floats as Floats

-- a word of a whole record is there
pub in_record : (w j i len : ℕ) → j < w → i < len / w → w * i + j < len
in_record w j i len h l = within (w * i) j w len h (rw (mul_comm w i) (record_ends len w (omega arith) i l))
  where
    within : (x y z n : ℕ) → y < z → x + z ≤ n → x + y < n
    within x y z n g k = omega arith

pub length-column : (n w j : ℕ) (ws : List ℕ) → length (column n w j ws) ≡ n
unfolding column
length-column zero w j ws = refl
length-column (suc n) w j ws = ap suc (length-column n w j (drop w ws))

pub column_at : (n w j : ℕ) (ws : List ℕ) (i : ℕ) → i < n → get_or (column n w j ws) i Floats.zero ≡ float_of (get_or ws (w * i + j) 0)
unfolding column
column_at zero w j ws i h = absurd (not-suc-le-zero h)
column_at (suc n) w j ws zero h = ap (λ (k : ℕ). float_of (get_or ws k 0)) (sym (zero-add j) ∙ ap (λ (k : ℕ). k + j) (sym (mul-zero w)))
column_at (suc n) w j ws (suc i) h =
    column_at n w j (drop w ws) i (le_of_suc-le-suc h) ∙ ap float_of (get_or-drop w ws (w * i + j) 0)
    ∙ ap (λ (k : ℕ). float_of (get_or ws k 0)) (moved w (w * i) j ∙ ap (λ (k : ℕ). k + j) (sym (mul-suc w i)))
  where
    moved : (x y z : ℕ) → x + (y + z) ≡ y + x + z
    moved x y z = omega arith

-- past the last record
pub column_past : (n w j : ℕ) (ws : List ℕ) (i : ℕ) → n ≤ i → get_or (column n w j ws) i Floats.zero ≡ Floats.zero
column_past n w j ws i h = List·get_or-eq_default (column n w j ws) Floats.zero (rw length-column h)

pub length_equity : (ws : List ℕ) → length (equity_of ws) ≡ length ws / point_words
unfolding equity_of
length_equity ws = length-column (length ws / point_words) point_words equity_word ws

pub length_pnls : (ws : List ℕ) → length (pnls_of ws) ≡ length ws / trade_words
unfolding pnls_of
length_pnls ws = length-column (length ws / trade_words) trade_words pnl_word ws
