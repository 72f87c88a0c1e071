-- The lengths are known; of the tests that are joined each holds where all do, and then the products are small.
use Rattle.words.specs.Prelude.{◌≡◌, sym, ◌∙◌, ◌&&◌, le-leb}
use Rattle.words.specs.{Words.word}
use Rattle.refusals.specs.{Laws.Lines.and_true}
use Rattle.dumpable.specs.{Laws.Passing.rooms_pass, Laws.Passing.words_pass, Laws.Passing.kinds_pass_lem, Laws.Passing.counts_held}
use Rattle.dumpable.proofs.passing.whole_pass.Goals as goal

pub rooms_pass-requires : goal.rooms_pass-requires
rooms_pass-requires c =
    let k = c.kinds_pass.result in
    let first = c.costs_pass.result in
    let second = c.levels_pass.result in
    let third = c.entries_pass.result in
    let all = and_true (k && first && second && third) c.counts_pass.result c.if-fine.true in
    let three = and_true (k && first && second) third all.0 in
    let two = and_true (k && first) second three.0 in
    let shape = kinds_pass_lem _ (sym c.kinds_pass.ensures ∙ (and_true k first two.0).0) in
    (shape.slots, shape.depth, counts_held _ (sym c.counts_pass.ensures ∙ all.1))

pub returns-then-fine : goal.returns-then-fine
unfolding words_pass
returns-then-fine c =
    let told : let a = c.args in
    words_pass a.settings.now a.state.now a.rows a.area
    ≡ (c.kinds_pass.result && c.costs_pass.result && c.levels_pass.result && c.entries_pass.result && c.counts_pass.result)
    && rooms_pass (word a.settings.now 0) (word a.settings.now 1) (word a.state.now 1) a.rows a.area = rw (
      le-leb _ _ c.requires.0,
      le-leb _ _ c.requires.1,
      ← c.kinds_pass.ensures,
      ← c.costs_pass.ensures,
      ← c.levels_pass.ensures,
      ← c.entries_pass.ensures,
      ← c.counts_pass.ensures,
    ) in
    rw (told, c.if-fine.true) c.rooms_pass.ensures

pub returns : goal.returns
unfolding words_pass
returns c =
    let told : let a = c.args in
    words_pass a.settings.now a.state.now a.rows a.area
    ≡ (c.kinds_pass.result && c.costs_pass.result && c.levels_pass.result && c.entries_pass.result && c.counts_pass.result)
    && rooms_pass (word a.settings.now 0) (word a.settings.now 1) (word a.state.now 1) a.rows a.area = rw (
      le-leb _ _ c.requires.0,
      le-leb _ _ c.requires.1,
      ← c.kinds_pass.ensures,
      ← c.costs_pass.ensures,
      ← c.levels_pass.ensures,
      ← c.entries_pass.ensures,
      ← c.counts_pass.ensures,
    ) in
    rw (told, c.if-fine.false)
