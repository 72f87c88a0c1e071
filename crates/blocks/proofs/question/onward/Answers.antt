-- Single bars, whole blocks, single bars: what is read, joined in order (`onto-reads`).
use Rattle.words.specs.Prelude.{◌≡◌, List, ℕ, ◌+◌, ◌-◌, ◌*◌, ◌/◌}
use Rattle.blocks.specs.{declared.best.Best.Best, Blocks.with_closes, Blocks.with_blocks, Reads.front, Reads.reads, Reads.onto, Laws.Reads.onto-reads}
use Rattle.blocks.proofs.question.onward.Goals as goal

-- the three calls, each from what the one before it gave
in_turn : (closes blocks : List ℕ) (best : Best) (bar n f : ℕ) (before middle after : Best) → f ≡ front bar n
    → before ≡ with_closes closes best bar f → middle ≡ with_blocks blocks before ((bar + f) / 64) ((n - f) / 64)
    → (let end = bar + f + 64 * ((n - f) / 64) in after ≡ with_closes closes middle end (bar + n - end)) → after ≡ onto closes blocks best (reads bar n)
in_turn closes blocks best bar n f before middle after p q r s = cc (onto-reads closes blocks best bar n)

pub returns : goal.returns
returns c =
    in_turn _ _ _ _ _ _ _ _ _ c.min-front.ensures c.singles-before.ensures c.wholes-middle.ensures c.singles.ensures
