-- The window comes back from a whole image: its rows, word by word.
use Rattle.std.specs.Prelude.{ℕ, zero, suc, ◌+◌, ◌-◌, ◌*◌, ◌/◌, ◌%◌, ◌≤◌, ◌<◌, ◌≡◌, refl, List, [], ◌∷◌, length, get_or, take}
use Rattle.words.specs.Prelude.{sym, ap, ◌∙◌, ⊎_elim, mod-eq_of_lt, eq-or-lt_of_le}
use Rattle.words.specs.Prelude.{mul-div_cancel, mul_comm, arith, length-drop, List·get_or-append, ext_get_or, get_or_at, length-take-le}
use Rattle.words.specs.{Limits.row_words, Limits.most_slots, Limits.most_rows, Laws.Records.records_fit}
use Rattle.rows.specs.{History.last_rows}
use Rattle.table.specs.{Bytes.u16, Bytes.u32, Bytes.u64}
use Rattle.steps.specs.{Bytes.eight, Laws.Encoding.four_back}
use Rattle.records.specs.{declared.settings.Settings.Settings, declared.state.State.State, Lent.row_places, StateWords.words_of}
use Rattle.engine.specs.{Record.listed, Record.held_rows, Laws.Lengths.listed_long}
use Rattle.images.specs.{Layout.head_bytes, Layout.words_bytes, Layout.numbers, Layout.amounts, Layout.head, Layout.image, Layout.window_of, Layout.image_of}
use Rattle.images.specs.{Reading.slots_in, Reading.rows_in, Reading.words_at, Reading.window_in}
use Rattle.dump.specs.{Laws.WordBytes.word_byte, Laws.Image.image-body}
use Rattle.restart.specs.{RoundTrip.eight_back}
use Rattle.std.proofs.Math.Nat.{mul-sub}

-- ---- a word of a row

module _ (K D : ℕ) (ws rows : List ℕ) where
  byte_at : (i k p : ℕ) → k < 8 → p ≡ 256 + (8 * i + k) → get_or (image K D ws rows) p 0 ≡ get_or (eight (get_or rows i 0)) k 0
  byte_at i k p l e = ap (λ (q : ℕ). get_or (image K D ws rows) q 0) e ∙ image-body K D ws rows (8 * i + k) ∙ word_byte rows i k l

  pub word_at : (i : ℕ) → get_or rows i 0 < 18446744073709551616 → u64 (image K D ws rows) (256 + 8 * i) ≡ get_or rows i 0
  unfolding u16 u32 u64
  word_at i small =
      let x = image K D ws rows in
      let v = get_or rows i 0 in
      let e0 : get_or x (256 + 8 * i) 0 ≡ v % 4294967296 % 256 = byte_at i 0 _ (omega arith) (omega arith) in
      let e1 : get_or x (256 + 8 * i + 1) 0 ≡ v % 4294967296 / 256 % 256 = byte_at i 1 _ (omega arith) (omega arith) in
      let e2 : get_or x (256 + 8 * i + 2) 0 ≡ v % 4294967296 / 65536 % 256 = byte_at i 2 _ (omega arith) (omega arith) in
      let e3 : get_or x (256 + 8 * i + 2 + 1) 0 ≡ v % 4294967296 / 16777216 % 256 = byte_at i 3 _ (omega arith) (omega arith) in
      let e4 : get_or x (256 + 8 * i + 4) 0 ≡ v / 4294967296 % 256 = byte_at i 4 _ (omega arith) (omega arith) in
      let e5 : get_or x (256 + 8 * i + 4 + 1) 0 ≡ v / 4294967296 / 256 % 256 = byte_at i 5 _ (omega arith) (omega arith) in
      let e6 : get_or x (256 + 8 * i + 4 + 2) 0 ≡ v / 4294967296 / 65536 % 256 = byte_at i 6 _ (omega arith) (omega arith) in
      let e7 : get_or x (256 + 8 * i + 4 + 2 + 1) 0 ≡ v / 4294967296 / 16777216 % 256 = byte_at i 7 _ (omega arith) (omega arith) in
      rw (e0, e1, e2, e3, e4, e5, e6, e7) (eight_back v small)

  slots_said : slots_in (image K D ws rows) ≡ K % 256
  unfolding image head numbers amounts words_bytes
  slots_said = refl

  rows_said : length rows / row_words K < 4294967296 → rows_in (image K D ws rows) ≡ length rows / row_words K
  unfolding image head numbers amounts words_bytes u16 u32
  rows_said few = four_back (length rows / row_words K) few

-- ---- words one after another

pub listed_at : (n : ℕ) (f : ℕ → ℕ) (i : ℕ) → i < n → get_or (listed n f) i 0 ≡ f i
unfolding listed
listed_at zero f i l = absurd (omega arith)
listed_at (suc n) f i l = ⊎_elim
    (λ (e : i ≡ n). get_or_at (listed n f) (f n) [] 0 i (listed_long n f ∙ sym e) ∙ ap f (sym e))
    (λ (k : i < n). List·get_or-append (listed n f) (f n ∷ []) 0 i (omega (arith, listed_long n f)) ∙ listed_at n f i k)
    (eq-or-lt_of_le {n = i} {m = n} (omega arith))

-- ---- the window

fewer : (n m w : ℕ) → (n - m) * w ≡ n * w - m * w
fewer n m w = mul_comm (n - m) w ∙ mul-sub w n m ∙ ap (λ (a : ℕ). a - w * m) (mul_comm w n) ∙ ap (λ (a : ℕ). n * w - a) (mul_comm w m)

-- its rows are whole, and no more than D or than those held
pub record WholeWindow (s : Settings) (t : State) (room : List ℕ) : Type 0 where
  pub words : length (window_of s t room) ≡ length (window_of s t room) / row_words s.slots * row_words s.slots
  pub few : length (window_of s t room) / row_words s.slots ≤ s.depth
  pub held : length (window_of s t room) / row_words s.slots ≤ t.counts.rows_held

pub window_whole : (s : Settings) (t : State) (room : List ℕ) → t.counts.rows_held ≤ row_places s.slots room → WholeWindow s t room
unfolding window_of last_rows held_rows
window_whole s t room held =
    let w = row_words s.slots in
    let h = t.counts.rows_held in
    let D = s.depth in
    let long : length (take (h * w) room) ≡ h * w = length-take-le (h * w) room (records_fit (length room) w (omega arith) h held) in
    let count : h * w / w ≡ h = mul-div_cancel h (omega arith) in
    let kept : length (window_of s t room) ≡ (h - (h - D)) * w = simp (length-drop, long, count) (sym (fewer h (h - D) w)) in
    let rows : length (window_of s t room) / w ≡ h - (h - D) = ap (λ (n : ℕ). n / w) kept ∙ mul-div_cancel (h - (h - D)) (omega arith) in
    record { words = rw rows kept; few = rw rows (omega arith); held = rw rows (omega arith) }

module _ (s : Settings) (t : State) (room : List ℕ) (held : t.counts.rows_held ≤ row_places s.slots room)
    (slots : s.slots ≤ most_slots) (depth : s.depth ≤ most_rows) (words : (i : ℕ) → get_or (window_of s t room) i 0 < 18446744073709551616) where
  -- THE WINDOW COMES BACK from a whole image, word by word.
  pub window_comes_back : window_in (image_of s t room) ≡ window_of s t room
  unfolding image_of window_in words_at
  window_comes_back =
      let W = window_of s t room in
      let whole = window_whole s t room held in
      let few : length W / row_words s.slots < 4294967296 = omega (arith, whole.few) in
      let K : slots_in (image_of s t room) ≡ s.slots = slots_said s.slots s.depth (words_of t) W ∙ mod-eq_of_lt (omega arith) in
      let n : rows_in (image_of s t room) * row_words (slots_in (image_of s t room)) ≡ length W =
      rw (K, rows_said s.slots s.depth (words_of t) W few) (sym whole.words) in
      ext_get_or 0 (listed _ (λ j. u64 (image_of s t room) (head_bytes + 8 * j))) W (listed_long _ _ ∙ n)
      (λ i l.
      listed_at (rows_in (image_of s t room) * row_words (slots_in (image_of s t room))) (λ j. u64 (image_of s t room) (head_bytes + 8 * j)) i
      (rw (listed_long _ _) at l)
      ∙ word_at s.slots s.depth (words_of t) W i (words i))
