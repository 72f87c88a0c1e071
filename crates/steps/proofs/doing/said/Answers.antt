-- Kind by kind.
use Rattle.words.specs.Prelude.{◌≤◌, arith}
use Rattle.steps.specs.{Machine.effect}
use Rattle.rules.specs.{Meaning.holds}
use Rattle.steps.proofs.{Said.says_answer, Said.says_turn, Said.says_in_position, Said.says_bars, Said.says_nothing_early, Said.says_nothing_late}
use Rattle.steps.proofs.doing.said.Goals as goal

pub returns-then-x-lt-ALL : goal.returns-then-x-lt-ALL
unfolding effect holds
returns-then-x-lt-ALL c h a b c2 d = rw (says_nothing_early c.args.x c.requires.0 c.requires.1 c.requires.2 c.requires.3 c.if-x-lt-ALL.true)

pub returns-then-x-lt-NOT : goal.returns-then-x-lt-NOT
unfolding effect holds
returns-then-x-lt-NOT c h a b c2 d = rw (says_answer c.args.x c.if-x-lt-ALL.false c.if-x-lt-NOT.true)

pub returns-then-x-eq-NOT : goal.returns-then-x-eq-NOT
unfolding effect holds
returns-then-x-eq-NOT c h a b c2 d = rw (says_turn c.args.x c.if-x-eq-NOT.true)

pub returns-then-x-eq-IN_POSITION : goal.returns-then-x-eq-IN_POSITION
unfolding effect holds
returns-then-x-eq-IN_POSITION c h a b c2 d = rw (says_in_position c.args.x c.if-x-eq-IN_POSITION.true, c.position.ensures)

pub returns-then-x-eq-BARS_SINCE_ENTRY : goal.returns-then-x-eq-BARS_SINCE_ENTRY
unfolding effect holds
returns-then-x-eq-BARS_SINCE_ENTRY c h a b c2 d = rw (says_bars c.args.x c.if-x-eq-BARS_SINCE_ENTRY.true, c.since_entry.ensures)

pub returns : goal.returns
unfolding effect holds
returns c h a b c2 d =
    let from : 32 ≤ c.args.x.kind =
    omega (arith, c.if-x-lt-NOT.false, c.if-x-eq-NOT.false, c.if-x-eq-IN_POSITION.false, c.if-x-eq-BARS_SINCE_ENTRY.false) in
    rw (says_nothing_late c.args.x (c.requires.4 from))
