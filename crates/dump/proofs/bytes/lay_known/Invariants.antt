-- Eights first. The loop's invariant: the words before k are laid.
use Rattle.words.specs.Prelude.{◌-◌, ◌*◌, ◌≤◌, ◌≡◌, length}
use Rattle.images.specs.{Layout.words_bytes}
use Rattle.dump.specs.{Laws.Laid.laid}
use Rattle.dump.proofs.bytes.lay_known.Given as goal

abbrev pub invariant-loop-k : goal.invariant-loop-k
invariant-loop-k l = (l.i ≤ l.k) × (l.area ≡ laid l.fn.area l.base (words_bytes l.list) (8 * l.i) (8 * (l.k - l.i))) × (length l.area ≡ length l.fn.area)
