-- What a dump or a part writes is the image's: its words, its rows and its size, put together.
use Rattle.words.specs.Prelude.{ℕ, ◌+◌, ◌-◌, ◌*◌, ◌/◌, ◌≤◌, min, mul-le-mul_left, mul-le-mul_right, arith, ◌≡◌, sym, ap, ◌∙◌, List, length, drop}
use Rattle.words.specs.{Limits.row_words}
use Rattle.rows.specs.{History.history_of}
use Rattle.records.specs.{declared.settings.Settings.Settings, declared.state.State.State, Lent.row_places, StateWords.words_of}
use Rattle.images.specs.{Layout.body_bytes, Layout.dump_bytes, Layout.window_of, Layout.image_of}
use Rattle.heads.specs.{Laws.Packed.head_words}
use Rattle.dump.specs.{Order.written, Parts.PartLaid, Laws.Laid.laid_none, Laws.InOrder.in_order, Laws.Image.image-head, Laws.Image.image-body}
use Rattle.dump.specs.{Laws.Image.image-in_order, Laws.Placed.head_laid, Laws.Placed.rows_laid, Laws.Placed.placed, Laws.Placed.part_laid_lem}
use Rattle.dump.specs.{Laws.Parts.size_of}

-- D rows of the widest are few bytes
pub few_bytes : (slots depth : ℕ) → slots ≤ 64 → depth ≤ 4096 → depth * (8 * (7 + slots)) ≤ 2326528
few_bytes slots depth h k = omega (arith, mul-le-mul_left {m = 8 * (7 + slots)} {n = 568} depth (omega arith), mul-le-mul_right 568 k)

pub dumped : (s : Settings) (t : State) (room area : List ℕ) (from upto count body : ℕ) {out head kept : List ℕ}
    → t.counts.rows_held ≤ row_places s.slots room → kept ≡ window_of s t room → count ≡ (history_of s.slots kept).rows
    → head ≡ head_words s.slots s.depth count (words_of t) → body ≡ body_bytes s.slots s.depth
    → out ≡ in_order area head kept body from upto → out ≡ written (image_of s t room) area from upto
unfolding history_of
dumped s t room area from upto count body held k c h b o = rw (o, h, b, c, k) (image-in_order s t room area from upto held)

module _
    (s : Settings) (t : State) (room : List ℕ) (at : ℕ) (part : List ℕ) (held : t.counts.rows_held ≤ row_places s.slots room)
    {used : ℕ} (many : used ≡ min (length part) (dump_bytes s.slots s.depth - at)) where
  -- as many bytes as there are from `at` on
  count : used ≡ min (length part) (length (image_of s t room) - at)
  count = many ∙ ap (λ (n : ℕ). min (length part) (n - at)) (sym (size_of s t room held))

  -- a part with none of them
  pub parted_none : used ≡ 0 → PartLaid (image_of s t room) at part 0 part
  parted_none z = part_laid_lem (image_of s t room) part at 0 (sym z ∙ count) (laid_none part 0 (drop at (image_of s t room)) 0)

  -- the header's share and the rows'
  pub parted : (rows : ℕ) {head kept mid out : List ℕ} → kept ≡ window_of s t room → rows ≡ (history_of s.slots kept).rows
      → head ≡ head_words s.slots s.depth rows (words_of t) → mid ≡ head_laid part head at used → out ≡ rows_laid mid kept at used
      → PartLaid (image_of s t room) at part used out
  unfolding history_of image_of
  parted rows k c h m o =
      let K = s.slots in
      let D = s.depth in
      let ws = words_of t in
      let w = window_of s t room in
      part_laid_lem (image_of s t room) part at used count
      (rw (o, m, h, c, k)
      (placed (image_of s t room) (head_words K D (length w / row_words K) ws) w (image-head K D ws w) (image-body K D ws w) part at used))
