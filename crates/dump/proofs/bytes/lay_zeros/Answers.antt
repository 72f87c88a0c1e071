use Rattle.words.specs.Prelude.{◌≤◌, refl, sym, arith, length, length-set, List·get_or-eq_default}
use Rattle.images.specs.{Layout.words_bytes}
use Rattle.dump.specs.{Laws.WordBytes.words_long}
use Rattle.dump.proofs.{Storing.laid_nothing, Storing.laid_next, Storing.laid_all}
use Rattle.dump.proofs.bytes.lay_zeros.Goals as goal

pub loop-k-init : goal.loop-k-init
loop-k-init c =
    let a = c.args in
    (laid_nothing a.area.now a.base (words_bytes a.list.now) a.p, refl, omega arith)

pub loop-k-preserved : goal.loop-k-preserved
loop-k-preserved c =
    let a = c.args in
    let past : length (words_bytes a.list.now) ≤ c.loop-k.k = omega (arith, words_long a.list.now, c.requires.0) in (
      laid_next a.area.now a.base (words_bytes a.list.now) a.p c.loop-k.k 0 (omega arith)
          c.loop-k.invariant.0 (sym (List·get_or-eq_default (words_bytes a.list.now) 0 past)),
      simp length-set c.loop-k.invariant.1,
      omega arith,
    )

pub returns : goal.returns
returns c =
    let a = c.args in
    laid_all a.area.now a.base (words_bytes a.list.now) a.p a.q c.loop-k.k (omega arith) c.loop-k.invariant.2 (omega arith)
    c.loop-k.invariant.0
