-- The loop's invariant: whether those passed are as they should be.
use Rattle.words.specs.Prelude.{ℕ, ◌+◌, ◌*◌, ◌≡◌, Bool, List}
use Rattle.table.specs.{Bytes.u64}
use Rattle.refusals.specs.{Bar.every}
use Rattle.images.specs.{Laws.RowWords.slot_plain}
use Rattle.images.proofs.body.slots_plain.Given as goal

abbrev is_plain : List ℕ → ℕ → ℕ → ℕ → Bool
is_plain x at mask k = slot_plain mask k (u64 x (at + 8 * k))

abbrev pub invariant-loop-k : goal.invariant-loop-k
invariant-loop-k l = (l.fine ≡ every l.k (is_plain l.image l.at l.mask))
