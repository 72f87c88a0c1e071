-- The first row is the first of any number of rows. Assumes nothing.
use Rattle.words.specs.Prelude.{ℕ, ◌≡◌, refl, Bool, true, false, cond, ltb}
use Rattle.rows.specs.{Ring.start_within}
use Rattle.steps.proofs.machine.first_row.Goals as goal

at_first : (places : ℕ) → start_within places 0 ≡ 0
unfolding start_within
at_first places = go (ltb 0 places)
  where
    go : (b : Bool) → ◌≡◌ {A = ℕ} (cond b 0 0) 0
    go true = refl
    go false = refl

pub returns-then-start-eq0 : goal.returns-then-start-eq0
returns-then-start-eq0 c = rw (c.if-start-eq0.true, at_first)

pub returns : goal.returns
returns c = rw (c.first_of.ensures, c.row_count.ensures)
