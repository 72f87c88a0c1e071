-- Parts one after another are the whole image, which is what a whole dump leaves.
use Rattle.std.specs.Prelude.{ℕ, ◌+◌, ◌/◌, ◌≤◌, ◌≡◌, refl, List, [], ◌∷◌, ◌++◌, length, take, drop}
use Rattle.words.specs.Prelude.{sym, ap, ◌∙◌, arith, take-add, drop-drop}
use Rattle.words.specs.Prelude.{take_all}
use Rattle.words.specs.{Limits.row_words, Laws.Records.records_fit}
use Rattle.records.specs.{declared.settings.Settings.Settings, declared.state.State.State, Lent.row_places, StateWords.words_of}
use Rattle.engine.specs.{Record.held_rows}
use Rattle.images.specs.{Layout.body_bytes, Layout.dump_bytes, Layout.window_of, Layout.image_of}
use Rattle.heads.specs.{Laws.Packed.head_words}
use Rattle.dump.specs.{Order.written, Parts.bytes_from, Laws.InOrder.in_order_lem, Laws.InOrder.in_order_whole, Laws.Image.image_long, Laws.Image.image-head}
use Rattle.dump.specs.{Laws.Image.image-body, Laws.Image.window_short, Laws.Placed.whole_laid_lem}

-- buffers of these lengths, each filled from where the one before it ends
unfoldable pub in_parts : List ℕ → ℕ → List ℕ → List ℕ
in_parts image at [] = []
in_parts image at (n ∷ ns) = bytes_from image at n ++ in_parts image (at + n) ns

-- the bytes that they have place for
unfoldable pub total : List ℕ → ℕ
total [] = 0
total (n ∷ ns) = n + total ns

-- in any number of parts is once
pub part_after_part : (image : List ℕ) (at : ℕ) (ns : List ℕ) → in_parts image at ns ≡ bytes_from image at (total ns)
unfolding in_parts total bytes_from
part_after_part image at [] = refl
part_after_part image at (n ∷ ns) =
    ap (λ (x : List ℕ). take n (drop at image) ++ x) (part_after_part image (at + n) ns)
    ∙ ap (λ (x : List ℕ). take n (drop at image) ++ take (total ns) x) (sym (drop-drop n at image))
    ∙ sym (take-add n (total ns) (drop at image))

-- PARTS ONE AFTER ANOTHER, with place for all of it, are the image.
pub parts_are_whole : (image : List ℕ) (ns : List ℕ) → length image ≤ total ns → in_parts image 0 ns ≡ image
parts_are_whole image ns h = part_after_part image 0 ns ∙ unfold bytes_from in take_all (total ns) image h

module _ (s : Settings) (t : State) (room : List ℕ) (held : t.counts.rows_held ≤ row_places s.slots room) where
  pub size_of : length (image_of s t room) ≡ dump_bytes s.slots s.depth
  unfolding image_of window_of held_rows dump_bytes
  size_of =
      image_long s.slots s.depth (words_of t) (window_of s t room)
      (window_short s.slots s.depth t.counts.rows_held room
      (records_fit (length room) (row_words s.slots) (omega arith) t.counts.rows_held held))

  -- A WHOLE DUMP into an area of the image's size leaves the image.
  pub whole_written : (area : List ℕ) → length area ≡ dump_bytes s.slots s.depth → written (image_of s t room) area 0 (length area) ≡ image_of s t room
  unfolding image_of dump_bytes
  whole_written area long =
      let K = s.slots in
      let D = s.depth in
      let ws = words_of t in
      let rows = window_of s t room in
      let head = head_words K D (length rows / row_words K) ws in
      let size : length (image_of s t room) ≡ 256 + body_bytes K D = size_of in
      sym (in_order_lem (image_of s t room) area 0 (length area) (body_bytes K D) size head rows (image-head K D ws rows) (image-body K D ws rows))
      ∙ sym (in_order_whole area head rows (body_bytes K D) 0 (length area) refl (omega arith))
      ∙ whole_laid_lem (image_of s t room) head rows (image-head K D ws rows) (image-body K D ws rows) area (body_bytes K D) size (long ∙ sym size)
