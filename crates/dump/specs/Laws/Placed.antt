-- A part laid from the header's words and the rows': that is the stretch of the image that begins there.
use Rattle.std.specs.Prelude.{ℕ, zero, suc, ◌+◌, ◌-◌, ◌*◌, ◌/◌, ◌%◌, ◌≤◌, ◌<◌, min, ◌≡◌, refl, List, [], ◌++◌, length, get_or, take, drop}
use Rattle.words.specs.Prelude.{sym, ap, ◌∙◌, append-nil, zero-add, sub-zero}
use Rattle.words.specs.Prelude.{arith, length-take, length-drop, drop_of_length-le, get_or-take, get_or-drop, drop-cons, set_at}
use Rattle.words.specs.Prelude.{append_snoc, take-length, length-take-le}
use Rattle.words.specs.{Laws.Overwrite.overwrite_fits}
use Rattle.steps.specs.{Bytes.eight}
use Rattle.images.specs.{Layout.words_bytes}
use Rattle.dump.specs.{Parts.bytes_from, Parts.PartLaid, Laws.Laid.laid, Laws.Laid.laid_none, Laws.Laid.laid_as, Laws.Laid.laid_on, Laws.Laid.laid_swap}
use Rattle.dump.specs.{Laws.WordBytes.byte_of, Laws.WordBytes.word_byte, Laws.InOrder.whole_laid}
use Rattle.std.proofs.Common.{take-suc}

-- how many of n bytes from `at` on are the header's
abbrev pub head_share : ℕ → ℕ → ℕ
head_share at n = min n (256 - at)

-- the header's share, and behind it the rows'
abbrev pub head_laid : List ℕ → List ℕ → ℕ → ℕ → List ℕ
head_laid part head at n = laid part 0 (drop at (words_bytes head)) 0 (head_share at n)

abbrev pub rows_laid : List ℕ → List ℕ → ℕ → ℕ → List ℕ
rows_laid part rows at n = laid part (head_share at n) (drop (at - 256) (words_bytes rows)) 0 (n - head_share at n)

-- ---- bytes of later words

pub later_byte : (ws : List ℕ) (i j : ℕ) → get_or (words_bytes (drop i ws)) j 0 ≡ get_or (words_bytes ws) (8 * i + j) 0
later_byte ws i j =
    let place : 8 * i + j ≡ 8 * (i + j / 8) + j % 8 = omega arith in
    byte_of (drop i ws) j
    ∙ ap (λ (w : ℕ). get_or (eight w) (j % 8) 0) (get_or-drop i ws (j / 8) 0)
    ∙ sym (ap (λ (k : ℕ). get_or (words_bytes ws) k 0) place ∙ word_byte ws (i + j / 8) (j % 8) (omega arith))

-- Bytes from p on, the first of them one by one, the others from word i on.
pub laid_from : (part : List ℕ) (to : ℕ) (ws : List ℕ) (p i over n : ℕ) {mid later out : List ℕ} → p + over ≡ 8 * i → over ≤ n
    → mid ≡ laid part to (drop p (words_bytes ws)) 0 over → later ≡ drop i ws → out ≡ laid mid (to + over) (words_bytes later) 0 (n - over - 0)
    → out ≡ laid part to (drop p (words_bytes ws)) 0 n
laid_from part to ws p i over n {mid} e l f same g =
    let xs = drop p (words_bytes ws) in
    let all : over + (n - over) ≡ n = omega arith in
    (rw (same, sub-zero (n - over)) at g)
    ∙ laid_as mid (to + over) (words_bytes (drop i ws)) 0 to xs over (n - over) (omega arith)
    (λ j k.
    let place : 8 * i + (0 + j) ≡ p + (over + j) = omega arith in
    later_byte ws i (0 + j) ∙ ap (λ (q : ℕ). get_or (words_bytes ws) q 0) place ∙ sym (get_or-drop p (words_bytes ws) (over + j) 0))
    ∙ ap (λ (x : List ℕ). laid x to xs over (n - over)) f
    ∙ ap (λ (q : ℕ). laid (laid part to xs 0 over) to xs q (n - over)) (sym (zero-add over))
    ∙ laid_on part to xs 0 over (n - over)
    ∙ ap (λ (m : ℕ). laid part to xs 0 m) all

-- a part of rows alone has no share of the header
pub no_head : (part head : List ℕ) (at n : ℕ) → 256 ≤ at → part ≡ head_laid part head at n
no_head part head at n h =
    let none : head_share at n ≡ 0 = omega arith in
    rw none (laid_none part 0 (drop at (words_bytes head)) 0)

-- ---- the image

-- where the rows' share begins
rows_begin : (at n j : ℕ) → j < n - min n (256 - at) → at + (min n (256 - at) + j) ≡ 256 + (at - 256 + j)
rows_begin at n j l = omega arith

in_header : (at n j : ℕ) → j < min n (256 - at) → at + j < 256
in_header at n j l = omega arith

module _
    (image head rows : List ℕ) (same_head : (i : ℕ) → i < 256 → get_or image i 0 ≡ get_or (words_bytes head) i 0)
    (same_rows : (i : ℕ) → get_or image (256 + i) 0 ≡ get_or (words_bytes rows) i 0) where
  -- HEADER AND ROWS, each with its share, are the image's bytes from `at` on
  pub placed : (part : List ℕ) (at n : ℕ) → rows_laid (head_laid part head at n) rows at n ≡ laid part 0 (drop at image) 0 n
  placed part at n =
      let h = head_share at n in
      let all : h + (n - h) ≡ n = omega arith in
      ap (λ (x : List ℕ). rows_laid x rows at n)
      (laid_as part 0 (drop at (words_bytes head)) 0 0 (drop at image) 0 h refl
      (λ j l.
      get_or-drop at (words_bytes head) (0 + j) 0
      ∙ sym (get_or-drop at image (0 + j) 0 ∙ same_head (at + (0 + j)) (rw (zero-add j) (in_header at n j l)))))
      ∙ laid_as (laid part 0 (drop at image) 0 h) h (drop (at - 256) (words_bytes rows)) 0 0 (drop at image) h (n - h) (omega arith)
      (λ j l.
      get_or-drop (at - 256) (words_bytes rows) (0 + j) 0
      ∙ sym
      (get_or-drop at image (h + j) 0 ∙ ap (λ (q : ℕ). get_or image q 0) (rows_begin at n j l)
      ∙ same_rows (at - 256 + j) ∙ ap (λ (q : ℕ). get_or (words_bytes rows) (at - 256 + q) 0) (sym (zero-add j))))
      ∙ ap (λ (q : ℕ). laid (laid part 0 (drop at image) 0 h) 0 (drop at image) q (n - h)) (sym (zero-add h))
      ∙ laid_on part 0 (drop at image) 0 h (n - h)
      ∙ ap (λ (m : ℕ). laid part 0 (drop at image) 0 m) all

-- ---- over a buffer

-- the first bytes of a list, over those of a buffer
laid_first : (part xs : List ℕ) (n : ℕ) → n ≤ length part → n ≤ length xs → laid part 0 xs 0 n ≡ take n xs ++ drop n part
unfolding laid
laid_first part xs zero h k = refl
laid_first part xs (suc n) h k =
    let long : length (take n xs) ≡ n = length-take-le n xs (omega arith) in
    let place : 0 + (0 + n) ≡ n = omega arith in
    rw (
      place,
      laid_first part xs n (omega arith) (omega arith),
      drop-cons part n 0,
      zero-add n,
      set_at (take n xs) (get_or part n 0) (drop (suc n) part) (get_or xs n 0) n long,
      take-suc xs n 0,
    )
    (sym (append_snoc (take n xs) (get_or xs n 0) (drop (suc n) part)))

-- so many of the bytes from `at` on as there are and the buffer takes
pub part_laid_lem : (image part : List ℕ) (at n : ℕ) {out : List ℕ} → n ≡ min (length part) (length image - at) → out ≡ laid part 0 (drop at image) 0 n
    → PartLaid image at part n out
unfolding bytes_from
part_laid_lem image part at n e o =
    let xs = take (length part) (drop at image) in
    let long : length xs ≡ n = length-take (length part) (drop at image) ∙ ap (min (length part)) (length-drop at image) ∙ sym e in
    let same : laid part 0 (drop at image) 0 n ≡ laid part 0 xs 0 n =
    laid_as part 0 (drop at image) 0 0 xs 0 n refl (λ j l. sym (get_or-take (length part) (drop at image) (0 + j) 0 (omega arith))) in
    let whole : take n xs ≡ xs = ap (λ (m : ℕ). take m xs) (sym long) ∙ take-length xs in
    let fits : 0 + length xs ≤ length part = omega arith in
    record {
      count = sym long;
      leaves = o ∙ same ∙ laid_first part xs n (omega arith) (omega arith) ∙ rw whole (sym (overwrite_fits part 0 xs fits ∙ rw (long, zero-add n)));
    }

-- ---- all of it

module _
    (image head rows : List ℕ) (same_head : (i : ℕ) → i < 256 → get_or image i 0 ≡ get_or (words_bytes head) i 0)
    (same_rows : (i : ℕ) → get_or image (256 + i) 0 ≡ get_or (words_bytes rows) i 0) where
  -- what is laid of the header's words is laid of the image
  head_laid_lem : (now : List ℕ) (p n : ℕ) → p + n ≤ 256 → laid now 0 (words_bytes head) p n ≡ laid now 0 image p n
  head_laid_lem now p n h = laid_as now 0 (words_bytes head) p 0 image p n refl (λ j l. sym (same_head (p + j) (omega arith)))

  rows_laid_lem : (now : List ℕ) (n : ℕ) → laid now 256 (words_bytes rows) 0 n ≡ laid now 0 image 256 n
  rows_laid_lem now n = laid_as now 256 (words_bytes rows) 0 0 image 256 n refl (λ j l. rw (zero-add j) (sym (same_rows j)))

  -- rows, header and mark, in an area of the image's size
  pub whole_laid_lem : (area : List ℕ) (body : ℕ) → length image ≡ 256 + body → length area ≡ length image → whole_laid area head rows body ≡ image
  whole_laid_lem area body long same =
      let size = 256 + body in
      let a = laid area 0 image 256 body in
      let within : size ≤ length area = omega arith in
      let whole : take size image ≡ image = ap (λ (n : ℕ). take n image) (sym long) ∙ take-length image in
      let none : drop size area ≡ [] = drop_of_length-le area {i = size} (omega arith) in
      rw (rows_laid_lem area body, head_laid_lem a 8 248 (omega arith), head_laid_lem (laid a 0 image 8 248) 0 8 (omega arith))
      (laid_swap a 0 image 0 8 8 248 (omega arith) ∙ laid_on a 0 image 0 8 248 ∙ laid_swap area 0 image 0 256 256 body (omega arith)
      ∙ laid_on area 0 image 0 256 body ∙ laid_first area image size within (omega arith)
      ∙ rw (whole, none) (append-nil image))
