-- Small ones can be added up. Assumes nothing.
use Rattle.words.specs.Prelude.{refl, sym, ap, ◌∙◌, ◌+◌, arith, leb, get_or}
use Rattle.totals.specs.{Totals.counts_fine, Laws.Counts.small_all}
use Rattle.totals.proofs.counts.fine.Goals as goal

pub overflow_add-result : goal.overflow_add-result
overflow_add-result c =
    let p = small_all _ (sym c.all_small.ensures ∙ c.if-all_small.true) in
    omega (arith, p 6, p 7)

pub traded-requires : goal.traded-requires
traded-requires c =
    small_all _ (sym c.all_small.ensures ∙ c.if-all_small.true)

pub returns-then-all_small : goal.returns-then-all_small
unfolding counts_fine
returns-then-all_small c =
    let counts = c.args.counts.now in
    let small = sym c.all_small.ensures ∙ c.if-all_small.true in
    rw small (ap (leb (get_or counts 6 0 + get_or counts 7 0)) c.traded.ensures)

pub returns : goal.returns
unfolding counts_fine
returns c = rw (sym c.all_small.ensures ∙ c.if-all_small.false) refl
