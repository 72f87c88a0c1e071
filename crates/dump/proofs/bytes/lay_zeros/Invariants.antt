-- The loop's invariant: the bytes before k are laid. All of them are past the words' end.
use Rattle.words.specs.Prelude.{◌-◌, ◌≤◌, ◌≡◌, length}
use Rattle.images.specs.{Layout.words_bytes}
use Rattle.dump.specs.{Laws.Laid.laid}
use Rattle.dump.proofs.bytes.lay_zeros.Given as goal

abbrev pub invariant-loop-k : goal.invariant-loop-k
invariant-loop-k l = (l.area ≡ laid l.initial.area l.base (words_bytes l.list) l.p (l.k - l.p)) × (length l.area ≡ length l.initial.area) × (l.k - l.q ≤ l.p - l.q)
