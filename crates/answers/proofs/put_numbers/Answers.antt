-- `put_numbers` meets its contract: four pieces in a row of newlines, and the newline after them.
use Rattle.words.specs.Prelude.{sym, ◌∙◌, ap, List, ℕ, arith, length-take-le}
use Rattle.answers.specs.{Text.put, Text.next, Lines.two_numbers}
use Rattle.answers.proofs.{Pieces.four, Pieces.with_newline, Pieces.room_long, Pieces.counted}
use Rattle.answers.proofs.put_numbers.Goals as goal

pub overflow_add-line : goal.overflow_add-line
overflow_add-line c =
    let p = four _ _ _ _ _ _ _ _ _ _ _ _ c.requires (c.put-a.ensures.value, c.put-a.ensures.room_after)
    (c.put_decimal-b.ensures.value, c.put_decimal-b.ensures.room_after) (c.put-c.ensures.value, c.put-c.ensures.room_after)
    (c.put_decimal-d.ensures.value, c.put_decimal-d.ensures.room_after) in
    omega (arith, p.count, p.few)

pub slice_bounds-line-end : goal.slice_bounds-line-end
slice_bounds-line-end c =
    let p = four _ _ _ _ _ _ _ _ _ _ _ _ c.requires (c.put-a.ensures.value, c.put-a.ensures.room_after)
    (c.put_decimal-b.ensures.value, c.put_decimal-b.ensures.room_after) (c.put-c.ensures.value, c.put-c.ensures.room_after)
    (c.put_decimal-d.ensures.value, c.put_decimal-d.ensures.room_after) in
    room_long _ _ _ p

pub slice_bounds-put-end-3 : goal.slice_bounds-put-end-3
slice_bounds-put-end-3 c =
    let p = four _ _ _ _ _ _ _ _ _ _ _ _ c.requires (c.put-a.ensures.value, c.put-a.ensures.room_after)
    (c.put_decimal-b.ensures.value, c.put_decimal-b.ensures.room_after) (c.put-c.ensures.value, c.put-c.ensures.room_after)
    (c.put_decimal-d.ensures.value, c.put_decimal-d.ensures.room_after) in
    sym (length-take-le _ _ (room_long _ _ _ p))

pub returns : goal.returns
unfolding two_numbers
returns c =
    let p = four _ _ _ _ _ _ _ _ _ _ _ _ c.requires (c.put-a.ensures.value, c.put-a.ensures.room_after)
    (c.put_decimal-b.ensures.value, c.put_decimal-b.ensures.room_after) (c.put-c.ensures.value, c.put-c.ensures.room_after)
    (c.put_decimal-d.ensures.value, c.put_decimal-d.ensures.room_after) in
    let e = with_newline _ _ _ p in
    let r = c.put in
    let room = c.args.room.now in
    let n = r.ensures.value ∙ ap (λ (l : List ℕ). next room 0 l) e in
    let l = r.ensures.room_after ∙ ap (λ (l : List ℕ). put room 0 l) e in
    record { value = n; room_after = l; prefix_len = counted room _ _ _ n l }
