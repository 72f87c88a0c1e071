use Rattle.words.specs.Prelude.{ℕ, ◌+◌, ◌<◌, ◌≡◌, refl, sym, subst, ◌∙◌, arith, rules, length, take, length-set, take_all}
use Rattle.engine.specs.{Record.row_word, Record.listed, Record.row_of}
use Rattle.engine.proofs.{Rows.word_more}
use Rattle.engine.proofs.record.fill_row.Goals as goal

pub loop-j-init : goal.loop-j-init
unfolding listed
loop-j-init c = (search rules, refl)

pub row_word-requires : goal.row_word-requires
row_word-requires c = (omega arith, omega arith, omega arith)

pub loop-j-preserved : goal.loop-j-preserved
loop-j-preserved c =
    let a = c.args in
    let h : c.loop-j.j < length c.loop-j.row = omega arith in (
      simp length-set c.loop-j.invariant.0,
      word_more (row_word a.bar.now) c.loop-j.row c.loop-j.j c.row_word.result h c.loop-j.invariant.1 c.row_word.ensures,
    )

pub returns : goal.returns
unfolding row_of
returns c =
    let a = c.args in
    let e : c.loop-j.j ≡ 7 + a.slots = omega arith in
    let all : take (7 + a.slots) c.loop-j.row ≡ c.loop-j.row = take_all (7 + a.slots) c.loop-j.row (omega arith) in
    sym all ∙ subst (λ (n : ℕ). take n c.loop-j.row ≡ listed n (row_word a.bar.now)) e c.loop-j.invariant.1
