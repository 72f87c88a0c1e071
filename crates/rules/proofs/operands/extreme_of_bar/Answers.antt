-- Too few bars before it, or all of them. Assumes nothing.
use Rattle.words.specs.Prelude.{◌-◌, ◌≤◌, ◌<◌, ◌≡◌, sym, ap, arith}
use Rattle.rows.specs.{History.history_of}
use Rattle.rules.specs.{Meaning.extreme_over, Laws.Meaning.extreme_early, Laws.Meaning.extreme_late}
use Rattle.rules.proofs.operands.extreme_of_bar.Goals as goal

pub returns-then-bar-before : goal.returns-then-bar-before
returns-then-bar-before c =
    let a = c.args in
    let early : a.bar < a.n - 1 = omega (arith, c.saturating_sub-before.ensures, c.if-bar-before.true) in
    sym (extreme_early (history_of a.slots a.rows.now) a.kind a.over a.n a.bar early)

pub extreme_over-requires : goal.extreme_over-requires
extreme_over-requires c = (omega arith, c.requires)

pub returns : goal.returns
returns c =
    let a = c.args in
    let h = history_of a.slots a.rows.now in
    let before = c.saturating_sub-before.ensures in
    let late : a.n - 1 ≤ a.bar = omega (arith, before, c.if-bar-before.false) in
    let bars : a.bar - (a.bar - (a.n - 1)) ≡ a.n - 1 = omega (arith, late) in
    rw (extreme_late h a.kind a.over a.n a.bar late, ← ap (extreme_over h a.kind a.over (a.bar - (a.n - 1))) bars, ← before)
    c.extreme_over.ensures
