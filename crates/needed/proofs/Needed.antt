-- The rows that an accepted table needs, beside a lookback.
use Rattle.words.specs.Prelude.{ℕ, ◌+◌, ◌*◌, ◌≤◌, ◌<◌, max, ◌≡◌, List, arith, mul-le-mul_right}
use Rattle.words.specs.{Limits.most_rows}
use Rattle.table.specs.{Checked.checked, Reach.rows_needed, Laws.Accepted.accepted, Laws.Accepted.tree_reach_lem}
use Rattle.table.specs.{Depth.greatest_reach, Depth.depth_of}
use Rattle.roundtrip.specs.{Laws.Reach.rows_are}
use Rattle.table.specs.{Outcome.accepts}

pub needed : (t : List ℕ) (n r lookback : ℕ) → checked t ≡ accepts n r → max r (lookback + 1) ≡ depth_of t lookback
unfolding depth_of greatest_reach
needed t n r lookback ok = omega (arith, rows_are t n r ok)

pub few : (t : List ℕ) (n r : ℕ) → checked t ≡ accepts n r → r ≤ most_rows
unfolding rows_needed
few t n r ok =
    omega (
      arith,
      (accepted t n r ok).rows,
      tree_reach_lem t n r ok 0 (omega arith),
      tree_reach_lem t n r ok 1 (omega arith),
      tree_reach_lem t n r ok 2 (omega arith),
      tree_reach_lem t n r ok 3 (omega arith),
    )

pub product : (a b : ℕ) → a ≤ 4096 → b < 4096 → a * b < 16777216
product a b few narrow = omega (arith, mul-le-mul_right b few)
