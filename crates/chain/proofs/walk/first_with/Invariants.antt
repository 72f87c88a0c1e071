-- The loop's invariant: the first of all is the first of what is left. Assumes nothing.
use Rattle.words.specs.Prelude.{◌-◌, ◌≡◌}
use Rattle.rows.specs.{History.history_of}
use Rattle.rules.specs.{Meaning.holds, Flat.flat_condition_at}
use Rattle.chain.specs.{Flat.first_at}
use Rattle.chain.proofs.walk.first_with.Given as goal

abbrev pub invariant-loop-m : goal.invariant-loop-m
invariant-loop-m l = first_at l.ends (λ j. holds (history_of l.slots l.rows) l.s (flat_condition_at l.left l.t l.ends j) l.bar) l.answer l.n l.first
    ≡ first_at l.ends (λ j. holds (history_of l.slots l.rows) l.s (flat_condition_at l.left l.t l.ends j) l.bar) l.answer (l.n - l.m) l.at
