-- Rows, header and mark, each in part or whole, laid in turn: that is a stretch of the order of writing.
use Rattle.std.specs.Prelude.{ℕ, ◌+◌, ◌-◌, ◌≤◌, ◌<◌, min, ◌≡◌, refl, List, Bool, true, false, leb, length, get_or}
use Rattle.words.specs.Prelude.{sym, ap, ◌∙◌, sub-zero, zero-add, add_assoc, arith, lt-ltb}
use Rattle.words.specs.Prelude.{le-ltb, leb-true, leb-false}
use Rattle.images.specs.{Layout.words_bytes}
use Rattle.dump.specs.{Order.place_of, Order.stretch, Order.written, Laws.Laid.laid, Laws.Laid.laid_on, Laws.Laid.laid_swap, Laws.Laid.stretch-laid}
use Rattle.dump.specs.{Laws.Laid.stretch_on}
use Rattle.std.proofs.Common.{add_comm}

-- how much of a part that begins at `start` lies before x, at most all of it
abbrev pub clip : ℕ → ℕ → ℕ → ℕ
clip x start most = min most (x - start)

-- how much of it lies between
abbrev pub between : ℕ → ℕ → ℕ → ℕ → ℕ
between from upto start most = clip upto start most - clip from start most

-- what of a part lies between is laid: `most` bytes of the words from `skip` on
abbrev pub part_laid : List ℕ → ℕ → List ℕ → ℕ → ℕ → ℕ → ℕ → ℕ → List ℕ
part_laid area base ws skip start most from upto = laid area base (words_bytes ws) (skip + clip from start most) (between from upto start most)

-- bytes `from` to `upto` of rows, header and mark
unfoldable pub in_order : List ℕ → List ℕ → List ℕ → ℕ → ℕ → ℕ → List ℕ
in_order area head rows body from upto =
    let a = part_laid area 256 rows 0 0 body from upto in
    let b = part_laid a 0 head 3 body 253 from upto in
    part_laid b 0 head 0 (body + 253) 3 from upto

-- all of it: the rows, the header's other words, and the word with the mark
abbrev pub whole_laid : List ℕ → List ℕ → List ℕ → ℕ → List ℕ
whole_laid area head rows body = laid (laid (laid area 256 (words_bytes rows) 0 body) 0 (words_bytes head) 8 248) 0 (words_bytes head) 0 8

-- ---- numbers

clip_grows : (x y s m : ℕ) → x ≤ y → min m (x - s) ≤ min m (y - s)
clip_grows x y s m h = omega arith

none : (a b : ℕ) → a ≤ b → a - b ≡ 0
none a b h = omega arith

-- nothing is to be written
pub in_order-none : (area head rows : List ℕ) (body from upto : ℕ) → upto ≤ from → area ≡ in_order area head rows body from upto
unfolding in_order laid
in_order-none area head rows body from upto h =
    let x : between from upto 0 body ≡ 0 = none _ _ (clip_grows upto from 0 body h) in
    let y : between from upto body 253 ≡ 0 = none _ _ (clip_grows upto from body 253 h) in
    let z : between from upto (body + 253) 3 ≡ 0 = none _ _ (clip_grows upto from (body + 253) 3 h) in
    rw (x, y, z)

-- all of a part lies between
whole_part : (upto start most : ℕ) → start + most ≤ upto → (clip 0 start most ≡ 0) × (between 0 upto start most ≡ most)
whole_part upto start most h = (omega arith, omega arith)

-- all of it is to be written: the rest of the mark's word may be written with the mark
pub in_order_whole : (area head rows : List ℕ) (body from upto : ℕ) → from ≡ 0 → 256 + body ≤ upto
    → whole_laid area head rows body ≡ in_order area head rows body from upto
unfolding in_order
in_order_whole area head rows body from upto start h =
    let x = whole_part upto 0 body (omega arith) in
    let y = whole_part upto body 253 (omega arith) in
    let z = whole_part upto (body + 253) 3 (omega arith) in
    let a = laid area 256 (words_bytes rows) 0 body in
    rw (start, x.1, x.0, y.1, y.0, z.1, z.0)
    (laid_swap a 0 (words_bytes head) 0 8 8 248 (omega arith) ∙ laid_on a 0 (words_bytes head) 0 8 248
    ∙ sym (laid_on a 0 (words_bytes head) 0 3 253) ∙ sym (laid_swap a 0 (words_bytes head) 0 3 3 253 (omega arith)))

-- a byte of a part that lies between: the part is not over where the stretch begins, nor where this byte stands
inside : (f u m j : ℕ) → j < min m u - min m f → (min m f ≡ f) × (f + j < m) × (f + j < u)
inside f u m j l = (omega arith, omega arith, omega arith)

-- where the next part begins in the stretch, if the stretch goes past the part before it
begins : (f u m : ℕ) → m ≤ u → f + (min m u - min m f) ≡ m + (f - m)
begins f u m h = omega arith

-- two parts, one after the other
two_parts : (x m n : ℕ) → min (m + n) x ≡ min m x + min n (x - m)
two_parts x m n = omega arith

apart : (a b c d : ℕ) → c ≤ a → d ≤ b → a + b - (c + d) ≡ a - c + (b - d)
apart a b c d h k = omega arith

both_parts : (f u m n : ℕ) → f ≤ u → min (m + n) u - min (m + n) f ≡ min m u - min m f + (min n (u - m) - min n (f - m))
both_parts f u m n h =
    let x : min m f ≤ min m u = omega arith in
    rw (two_parts u m n, two_parts f m n) (apart _ _ _ _ x (clip_grows f u m n h))

-- where the mark begins
joins : (f a b body : ℕ) → f + a ≡ body + (f - body) → f - body + b ≡ 253 + (f - body - 253) → f + (a + b) ≡ body + 253 + (f - (body + 253))
joins f a b body h k = omega arith

within : (f u size : ℕ) → min u size - f ≡ min size u - min size f
within f u size = omega arith

three_more : (x : ℕ) → x < 253 → 3 + x < 256
three_more x l = omega arith

low : {x : ℕ} → x < 3 → x < 256
low l = omega arith

less : (b u : ℕ) → b + 253 ≤ u → b ≤ u
less b u h = omega arith

left : (b u : ℕ) → b + 253 ≤ u → 253 ≤ u - b
left b u h = omega arith

none_of : (u f size : ℕ) → u ≤ f → min u size - f ≡ 0
none_of u f size h = omega arith

sub_grows : (f u b : ℕ) → f ≤ u → f - b ≤ u - b
sub_grows f u b h = omega arith

sub_twice : (x a b : ℕ) → x - a - b ≡ x - (a + b)
sub_twice x a b = omega arith

past : (f u b j : ℕ) → f - b + j < u - b → b ≤ u
past f u b j l = omega arith

begins_at : (f u m : ℕ) → m ≤ u → f + (min m (u - 0) - min m (f - 0)) ≡ m + (f - m)
begins_at f u m h = rw (sub-zero u, sub-zero f) (begins f u m h)

-- ---- the places

rows_place : (size body f j c : ℕ) → size ≡ 256 + body → c ≡ f - 0 → f - 0 + j < body → place_of size (f + j) ≡ 256 + (0 + c + j)
unfolding place_of
rows_place size body f j c long e l = let low : f + j < size - 256 = omega arith in rw (lt-ltb _ _ low) (omega arith)

rest_place : (size body f x j c : ℕ) → size ≡ 256 + body → f ≡ body + x → c ≡ x → x + j < 253 → place_of size (f + j) ≡ 0 + (3 + c + j)
unfolding place_of
rest_place size body f x j c long at e l =
    let high : size - 256 ≤ f + j = omega arith in
    let low : f + j < size - 3 = omega arith in
    rw (le-ltb _ _ high, lt-ltb _ _ low) (omega arith)

mark_place : (size body f x j c : ℕ) → size ≡ 256 + body → f ≡ body + 253 + x → c ≡ x → x + j < 3 → place_of size (f + j) ≡ 0 + (0 + c + j)
unfolding place_of
mark_place size body f x j c long at e l =
    let high : size - 256 ≤ f + j = omega arith in
    let more : size - 3 ≤ f + j = omega arith in
    rw (le-ltb _ _ high, le-ltb _ _ more) (omega arith)

in_head : (c x j n : ℕ) → c ≡ x → x + j < n → c + j < n
in_head c x j n e l = omega arith

-- ---- a part of the order

module _ (image area : List ℕ) (from upto body : ℕ) (long : length image ≡ 256 + body) where
  -- the rows
  rows_part : (now rows : List ℕ) → ((i : ℕ) → get_or image (256 + i) 0 ≡ get_or (words_bytes rows) i 0)
      → stretch image now from (between from upto 0 body) ≡ part_laid now 256 rows 0 0 body from upto
  rows_part now rows same =
      stretch-laid image now from 256 (words_bytes rows) (0 + clip from 0 body) (between from upto 0 body)
      (λ j l. let i = inside (from - 0) (upto - 0) body j l in rows_place (length image) body from j (clip from 0 body) long i.0 i.1)
      (λ j l. same (0 + clip from 0 body + j))

  -- the header behind the mark
  rest_part : (now head : List ℕ) → ((i : ℕ) → i < 256 → get_or image i 0 ≡ get_or (words_bytes head) i 0)
      → stretch image now (from + between from upto 0 body) (between from upto body 253) ≡ part_laid now 0 head 3 body 253 from upto
  rest_part now head same =
      stretch-laid image now (from + between from upto 0 body) 0 (words_bytes head) (3 + clip from body 253) (between from upto body 253)
      (λ j l.
      let i = inside (from - body) (upto - body) 253 j l in
      rest_place (length image) body (from + between from upto 0 body) (from - body) j (clip from body 253) long
      (begins_at from upto body (past from upto body j i.2)) i.0 i.1)
      (λ j l.
      let i = inside (from - body) (upto - body) 253 j l in
      let p : 3 + clip from body 253 + j ≡ 3 + (clip from body 253 + j) = add_assoc 3 (clip from body 253) j in
      rw (zero-add (3 + clip from body 253 + j))
      (same (3 + clip from body 253 + j) (rw p (three_more _ (in_head (clip from body 253) (from - body) j 253 i.0 i.1)))))

  -- the mark
  mark_part : (now head : List ℕ) → ((i : ℕ) → i < 256 → get_or image i 0 ≡ get_or (words_bytes head) i 0)
      → stretch image now (from + (between from upto 0 body + between from upto body 253)) (between from upto (body + 253) 3)
      ≡ part_laid now 0 head 0 (body + 253) 3 from upto
  mark_part now head same =
      stretch-laid image now (from + (between from upto 0 body + between from upto body 253)) 0 (words_bytes head) (0 + clip from (body + 253) 3)
      (between from upto (body + 253) 3)
      (λ j l.
      let i = inside (from - (body + 253)) (upto - (body + 253)) 3 j l in
      let far : body + 253 ≤ upto = past from upto (body + 253) j i.2 in
      let at = begins_at from upto body (less body upto far) in
      let on = begins (from - body) (upto - body) 253 (left body upto far) in
      mark_place (length image) body (from + (between from upto 0 body + between from upto body 253)) (from - (body + 253)) j (clip from (body + 253) 3) long
      (joins from (between from upto 0 body) (between from upto body 253) body at on) i.0 i.1)
      (λ j l.
      let i = inside (from - (body + 253)) (upto - (body + 253)) 3 j l in
      rw (zero-add (0 + clip from (body + 253) 3 + j), zero-add (clip from (body + 253) 3))
      (same (clip from (body + 253) 3 + j) (low (in_head (clip from (body + 253) 3) (from - (body + 253)) j 3 i.0 i.1))))

  -- how much of the three lies between is how much of the whole does
  all_parts : from ≤ upto
      → min upto (length image) - from ≡ between from upto 0 body + between from upto body 253 + between from upto (body + 253) 3
  all_parts h =
      let size : length image ≡ body + 256 = long ∙ add_comm 256 body in
      rw (
        size,
        within from upto (body + 256),
        both_parts from upto body 256 h,
        both_parts (from - body) (upto - body) 253 3 (sub_grows from upto body h),
        sub_twice upto body 253,
        sub_twice from body 253,
        sub-zero upto,
        sub-zero from,
      )
      (sym (add_assoc (min body upto - min body from) (between from upto body 253) (between from upto (body + 253) 3)))

  -- nothing lies between
  nothing : upto ≤ from → area ≡ written image area from upto
  unfolding written stretch
  nothing h = rw (none_of upto from (length image) h)

  -- BYTES `from` TO `upto` OF THE ORDER OF WRITING are those of the rows, the header and the mark that lie between
  pub in_order_lem : (head rows : List ℕ) → ((i : ℕ) → i < 256 → get_or image i 0 ≡ get_or (words_bytes head) i 0)
      → ((i : ℕ) → get_or image (256 + i) 0 ≡ get_or (words_bytes rows) i 0) → in_order area head rows body from upto ≡ written image area from upto
  unfolding in_order written
  in_order_lem head rows same_head same_rows = go (leb from upto) refl
    where
      go : (b : Bool) → leb from upto ≡ b → in_order area head rows body from upto ≡ written image area from upto
      go true e =
          rw (
            all_parts (leb-true _ _ e),
            ← (stretch_on image area from (between from upto 0 body + between from upto body 253) (between from upto (body + 253) 3)),
            ← (stretch_on image area from (between from upto 0 body) (between from upto body 253)),
          )
          (sym
          (ap (λ (l : List ℕ). stretch image (stretch image l (from + between from upto 0 body) (between from upto body 253))
          (from + (between from upto 0 body + between from upto body 253)) (between from upto (body + 253) 3)) (rows_part area rows same_rows)
          ∙ ap (λ (l : List ℕ). stretch image l (from + (between from upto 0 body + between from upto body 253)) (between from upto (body + 253) 3))
          (rest_part (part_laid area 256 rows 0 0 body from upto) head same_head)
          ∙ mark_part (part_laid (part_laid area 256 rows 0 0 body from upto) 0 head 3 body 253 from upto) head same_head))
      go false e =
          let h : upto ≤ from = omega (arith, leb-false from upto e) in
          sym (in_order-none area head rows body from upto h) ∙ nothing h
