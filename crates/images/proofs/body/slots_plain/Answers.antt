use Rattle.words.specs.Prelude.{ℕ, ◌+◌, ◌*◌, ◌≡◌, sym, ap, ◌∙◌, Bool, List, arith}
use Rattle.table.specs.{Bytes.u64}
use Rattle.refusals.specs.{Laws.Every.every_none}
use Rattle.images.specs.{Laws.RowWords.slot_plain, Laws.RowWords.every_next}
use Rattle.images.proofs.body.slots_plain.Goals as goal

abbrev is_plain : List ℕ → ℕ → ℕ → ℕ → Bool
is_plain x at mask k = slot_plain mask k (u64 x (at + 8 * k))

pub loop-k-init : goal.loop-k-init
loop-k-init c = let a = c.args in sym (every_none (is_plain a.image.now a.at a.mask))

pub loop-k-preserved : goal.loop-k-preserved
loop-k-preserved c =
    let a = c.args in
    let k = c.loop-k.k in
    every_next (is_plain a.image.now a.at a.mask) k c.loop-k.invariant
    (c.slot_plain-fine.ensures ∙ ap (λ (w : ℕ). slot_plain a.mask k w) c.word_at.ensures.0)

pub returns : goal.returns
returns c =
    let e : c.args.slots ≡ c.loop-k.k = omega arith in
    rw e c.loop-k.invariant
