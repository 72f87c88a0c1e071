-- What a question reads, and what that tells. Definitions only.
use Rattle.std.specs.Prelude.{ℕ, zero, suc, ◌+◌, ◌-◌, ◌*◌, ◌/◌, ◌%◌, ◌≤◌, min, ◌≡◌, Bool, ◌&&◌, List, [], ◌∷◌, ◌++◌, leb, eqb, get_or}
use Rattle.blocks.specs.{declared.best.Best.Best, Reading.one, Reading.join, Blocks.block_bars, Blocks.block}

-- one close, by its bar, or one block, by its number
pub data Read : Type 0 where
  single : ℕ → Read
  whole : ℕ → Read

-- n of a kind, from `at` on
unfoldable pub several : (ℕ → Read) → ℕ → ℕ → List Read
several kind at zero = []
several kind at (suc n) = several kind at n ++ (kind (at + n) ∷ [])

-- n single bars from `bar` on
abbrev pub singles : ℕ → ℕ → List Read
singles bar n = several single bar n

-- n whole blocks from block j on
abbrev pub wholes : ℕ → ℕ → List Read
wholes j n = several whole j n

-- of n bars, those that stand before the next block
abbrev pub front : ℕ → ℕ → ℕ
front bar n = min ((block_bars - bar % block_bars) % block_bars) n

-- "A question reads whole blocks where it can and single bars at the ends": of n bars from `first` on
unfoldable pub reads : ℕ → ℕ → List Read
reads first n =
    let start = first + front first n in
    let many = (n - front first n) / block_bars in
    let end = start + block_bars * many in
    singles first (front first n) ++ wholes (start / block_bars) many ++ singles end (first + n - end)

-- whether a block begins at a bar and its bars are all among the next n
abbrev pub begins_block : ℕ → ℕ → Bool
begins_block bar n = eqb (bar % block_bars) 0 && leb block_bars n

-- ---- what it tells

module _ (closes blocks : List ℕ) where
  -- a close by itself, or the block as the room has it
  unfoldable pub best : Read → Best
  best (single bar) = one (get_or closes bar 0) bar
  best (whole j) = block blocks j

  -- joined to what was read before
  unfoldable pub onto : Best → List Read → Best
  onto b [] = b
  onto b (r ∷ rs) = onto (join b (best r)) rs

  -- all that is read, joined in order (no question reads nothing)
  unfoldable pub told : List Read → Best
  told [] = one 0 0
  told (r ∷ rs) = onto (best r) rs

-- ---- how much it is

unfoldable pub closes_read : List Read → ℕ
closes_read [] = 0
closes_read (single bar ∷ rs) = suc (closes_read rs)
closes_read (whole j ∷ rs) = closes_read rs

unfoldable pub blocks_read : List Read → ℕ
blocks_read [] = 0
blocks_read (single bar ∷ rs) = blocks_read rs
blocks_read (whole j ∷ rs) = suc (blocks_read rs)

-- n bars from `bar` on
unfoldable pub bars : ℕ → ℕ → List ℕ
bars bar zero = []
bars bar (suc n) = bars bar n ++ ((bar + n) ∷ [])

-- the bars that are read, by themselves or in their block
unfoldable pub bars_read : List Read → List ℕ
bars_read [] = []
bars_read (single bar ∷ rs) = bar ∷ bars_read rs
bars_read (whole j ∷ rs) = bars (block_bars * j) block_bars ++ bars_read rs

-- what is promised of it: of n bars from `first` on at most 63 closes at each end and a block for 64 bars, and each bar once, in order
pub record Little (first n : ℕ) (rs : List Read) : Type 0 where
  pub closes : closes_read rs ≤ 126
  pub blocks : blocks_read rs ≤ n / block_bars
  pub once : bars_read rs ≡ bars first n
