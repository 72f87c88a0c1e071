-- Part by part.
use Rattle.words.specs.Prelude.{◌+◌, ◌-◌, ◌≡◌, sym, ◌∙◌, arith, length, drop, length-drop, length-take-le, take_all}
use Rattle.accounts.proofs.{Parts.own_written}
use Rattle.accounts.proofs.own.write_own.Goals as goal

pub slice_bounds-put-end : goal.slice_bounds-put-end
slice_bounds-put-end c =
    sym (length-take-le 6 c.args.bar.now (omega (
      arith,
      c.requires.0,
    )))

pub returns : goal.returns
returns c =
    let a = c.args in
    let own : 7 + a.slots - 7 ≡ a.slots = omega arith in
    own_written a.stream a.slots a.bar.now a.room.now c.requires.0 c.requires.1 c.requires.2
    (c.low_bits.ensures ∙ rw c.word.ensures) (rw own)
    (take_all (length a.bar.now - (7 + a.stream)) (drop (7 + a.stream) a.bar.now) (omega (arith, length-drop (7 + a.stream) a.bar.now)))
    c.put.ensures c.put-2.ensures c.put-3.ensures c.put-4.ensures
