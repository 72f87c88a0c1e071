-- Blocks: "the high and low of every 64 bars, with their first bars". Definitions only.
use Rattle.std.specs.Prelude.{ℕ, zero, suc, ◌+◌, ◌*◌, ◌/◌, ◌%◌, cond, List, eqb, get_or, set}
use Rattle.blocks.specs.{declared.best.Best.Best, Reading.one, Reading.join}

-- block j is that of bars 64j to 64j + 63
abbrev pub block_bars : ℕ
block_bars = 64

-- decided: high, its first bar, low, its first bar
abbrev pub block_words : ℕ
block_words = 4

-- block j, as the room has it
abbrev pub block : List ℕ → ℕ → Best
block blocks j =
    let at = block_words * j in
    record { high = get_or blocks at 0; high_bar = get_or blocks (at + 1) 0; low = get_or blocks (at + 2) 0; low_bar = get_or blocks (at + 3) 0 }

-- a block written over block j
abbrev pub put : List ℕ → ℕ → Best → List ℕ
put blocks j b =
    let at = block_words * j in
    set (set (set (set blocks at b.high) (at + 1) b.high_bar) (at + 2) b.low) (at + 3) b.low_bar

-- the block that a bar falls into, with it: begun by its first bar, whatever the room held, and kept up by each one after it
unfoldable pub grown : List ℕ → ℕ → ℕ → Best
grown blocks bar close =
    cond (eqb (bar % block_bars) 0) (one close bar) (join (block blocks (bar / block_bars)) (one close bar))

-- ---- the best so far, and n more

unfoldable pub with_closes : List ℕ → Best → ℕ → ℕ → Best
with_closes closes best bar zero = best
with_closes closes best bar (suc n) = join (with_closes closes best bar n) (one (get_or closes (bar + n) 0) (bar + n))

unfoldable pub with_blocks : List ℕ → Best → ℕ → ℕ → Best
with_blocks blocks best j zero = best
with_blocks blocks best j (suc n) = join (with_blocks blocks best j n) (block blocks (j + n))
