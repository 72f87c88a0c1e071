-- The row of a bar that exists lies within the list of words; and how many words rows take at most.
use Rattle.std.specs.Prelude.{ℕ, ◌+◌, ◌*◌, ◌<◌, ◌≤◌, List, length}
use Rattle.words.specs.Prelude.{arith, le_trans, mul-le-mul_left, mul-le-mul_right}
use Rattle.words.specs.{Limits.most_slots, Laws.Records.record_ends}
use Rattle.rows.specs.{History.history_of, History.width}

pub row_ends : (K : ℕ) (ws : List ℕ) (i : ℕ) → i < (history_of K ws).rows → i * width K + width K ≤ length ws
unfolding history_of
row_ends K ws i l = record_ends (length ws) (width K) (omega arith) i l

-- So many rows, or fewer, take no more words than as many of the widest.
pub rows_most : (slots n most : ℕ) → slots ≤ most_slots → n ≤ most → n * (7 + slots) ≤ most * 71
rows_most slots n most h l = le_trans (mul-le-mul_left {m = 7 + slots} {n = 71} n (omega arith)) (mul-le-mul_right 71 l)
