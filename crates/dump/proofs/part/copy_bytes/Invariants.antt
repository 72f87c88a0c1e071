-- The loop's invariant: k bytes are laid.
use Rattle.words.specs.Prelude.{◌≡◌, length, drop}
use Rattle.images.specs.{Layout.words_bytes}
use Rattle.dump.specs.{Laws.Laid.laid}
use Rattle.dump.proofs.part.copy_bytes.Given as goal

abbrev pub invariant-loop-k : goal.invariant-loop-k
invariant-loop-k l = (l.part ≡ laid l.initial.part l.to (drop l.p (words_bytes l.list)) 0 l.k) × (length l.part ≡ length l.initial.part)
