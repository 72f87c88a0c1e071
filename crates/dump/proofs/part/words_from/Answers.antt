-- From the end on nothing is left, and so it is from any place past it.
use Rattle.words.specs.Prelude.{◌-◌, sym, ap, ◌∙◌, le_refl, length, take, drop, length-drop, drop_of_length-le, drop-length, take_all}
use lib.Seq.{take-nil}
use Rattle.dump.proofs.part.words_from.Goals as goal

pub returns-then-end-i : goal.returns-then-end-i
returns-then-end-i c =
    let a = c.args in
    let l = a.list.now in
    ap (take (length l - length l)) (drop-length l) ∙ take-nil (length l - length l) ∙ sym (drop_of_length-le l {i = a.i} c.if-end-i.true)

pub returns : goal.returns
returns c =
    let a = c.args in
    let l = a.list.now in
    take_all (length l - a.i) (drop a.i l) (rw length-drop (le_refl (length l - a.i)))
