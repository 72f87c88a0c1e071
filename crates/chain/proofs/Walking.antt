-- The lines that a walk has written. Assumes nothing.
use Rattle.std.specs.Prelude.{None, Option, Some, ℕ}
use Rattle.words.specs.Prelude.{ℕ, ◌+◌, ◌-◌, ◌*◌, ◌≡◌, sym, ◌∙◌, List, arith, length}
use Rattle.words.specs.{Words.overwrite}
use Rattle.rows.specs.{History.History}
use Rattle.rules.specs.{declared.position.PositionState.PositionState, Flat.flat_condition_at}
use Rattle.chain.specs.{Chain.line_at, Chain.chain}
use Rattle.chain.specs.{Lines.line_words, Lines.put_lines, Flat.by_ends, Flat.next_at, Laws.Steps.chain_stops, Laws.Steps.chain_goes}

module _ (t ends : List ℕ) (h : History) (s : PositionState) (bar left i at : ℕ) (before after : List ℕ) (next : Option ℕ)
    (wrote : after ≡ overwrite before (8 * at) (line_words (line_at (by_ends ends) h s (flat_condition_at left t ends i) i bar)))
    (found : next ≡ next_at left t ends h s i bar) where
  -- the node's line is the last
  pub walked_one : next ≡ None
      → (at + 1 ≡ at + length (chain (by_ends ends) h s (flat_condition_at left t ends i) i bar))
      × (after ≡ put_lines before at (chain (by_ends ends) h s (flat_condition_at left t ends i) i bar))
  unfolding put_lines
  walked_one e = rw (chain_stops t ends h s bar left i (sym found ∙ e)) (omega arith, wrote)

  -- lines follow it
  pub walked_on : (j r : ℕ) (last : List ℕ) → next ≡ Some j → r ≡ at + 1 + length (chain (by_ends ends) h s (flat_condition_at (left - 1) t ends j) j bar)
      → last ≡ put_lines after (at + 1) (chain (by_ends ends) h s (flat_condition_at (left - 1) t ends j) j bar)
      → (r ≡ at + length (chain (by_ends ends) h s (flat_condition_at left t ends i) i bar))
      × (last ≡ put_lines before at (chain (by_ends ends) h s (flat_condition_at left t ends i) i bar))
  unfolding put_lines
  walked_on j r last e many put = rw (chain_goes t ends h s bar left i j (sym found ∙ e)) (omega arith, rw wrote at put)
