-- THE WAY BACK: an image that a restore accepts, patterns of NaN apart, is the image of the state and the rows that it leaves.
use Rattle.std.specs.Prelude.{ℕ, ◌+◌, ◌-◌, ◌*◌, ◌/◌, ◌%◌, ◌≤◌, ◌<◌, ◌≡◌, refl, Bool, true, false, ◌&&◌, List, leb, ltb, eqb, length, get_or, take, drop, Ok}
use Rattle.words.specs.Prelude.{sym, ap, ◌∙◌, mod-eq_of_lt, mul-div_cancel}
use Rattle.words.specs.Prelude.{mul_assoc, mul_comm, mul-le-mul_right, zero-add, zero-mul, arith, leb-true, eqb-true, ltb-true, ltb-false}
use Rattle.words.specs.Prelude.{List·get_or-eq_default, ext_get_or, take_at}
use Rattle.words.specs.{Limits.row_words, Words.overwrite, Laws.Overwrite.overwrite_fits, Laws.Records.records_fit}
use Rattle.rows.specs.{History.last_rows}
use Rattle.table.specs.{Bytes.u16, Bytes.u32, Bytes.u64, Bytes.Bytes}
use Rattle.steps.specs.{Bytes.eight}
use Rattle.records.specs.{declared.settings.Settings.Settings, StateWords.counts_of, StateWords.entered_of, StateWords.portfolio_of, StateWords.position_of}
use Rattle.records.specs.{StateWords.state_of, StateWords.words_of}
use Rattle.refusals.specs.{Lines.judged, Rooms.room_lines, Rooms.entry_below, Settings.setting_lines}
use Rattle.refusals.specs.{Laws.Lines.and_true, Laws.Lines.first_holds, Laws.Lines.both_fine}
use Rattle.engine.specs.{Record.listed, Record.held_rows, Laws.Lengths.listed_long}
use Rattle.images.specs.{Layout.head_bytes, Layout.dump_bytes, Layout.words_bytes, Layout.amounts, Layout.image, Layout.window_of, Layout.image_of, Reading.slots_in}
use Rattle.images.specs.{Reading.depth_in, Reading.seen_in, Reading.rows_in, Reading.order_in, Reading.kind_in, Reading.entered_in, Reading.entry_in, Reading.delay_in}
use Rattle.images.specs.{Reading.level_in, Reading.limit_in, Reading.words_in, Reading.state_in, Reading.words_at, Reading.row_place, Reading.window_in}
use Rattle.images.specs.{Refused.shape_fine, Refused.numbers_fine, Refused.used_or_zero, Refused.is_entry, Refused.unused_zero, Refused.zero_at, Refused.each_fine}
use Rattle.images.specs.{Refused.rows_fine, Refused.image_lines, Refused.restore_lines, Refused.restore_judged, Laws.Fine.shape_fine_lem, Laws.Fine.rows_few}
use Rattle.images.specs.{Laws.Fine.restore_fine}
use Rattle.heads.specs.{Laws.Packed.first_word, Laws.Packed.second_word, Laws.Packed.third_word, Laws.Packed.head_words}
use Rattle.dump.specs.{Laws.Image.image_long, Laws.Image.image-head, Laws.Image.image-body, Laws.WordBytes.words_long, Laws.WordBytes.byte_of}
use Rattle.restart.specs.{Window.listed_at, Laws.Again.Own, Laws.Again.kind_again, Laws.Again.order_again, Laws.Again.entered_again}
use Rattle.restart.specs.{Laws.Marked.shape_marked, Laws.ReadBytes.four_small, Laws.ReadBytes.two_small, Laws.ReadBytes.byte_read, Laws.RowsPass.one_of}

-- "patterns of NaN apart": each float of the header has the word that its float is written as, as every word but a NaN's is (`number_own`)
pub record Plain (x : List ℕ) : Type 0 where
  pub cash : Own (u64 x 32)
  pub qty : Own (u64 x 40)
  pub entry_price : Own (u64 x 48)
  pub entry_fee : Own (u64 x 64)
  pub fees_paid : Own (u64 x 72)
  pub extreme : Own (u64 x 80)
  pub close : Own (u64 x 96)
  pub level : Own (level_in x)
  pub limit : Own (limit_in x)
  pub funding : Own (u64 x 120)
  pub worst : Own (u64 x 128)

-- THE STATEMENT: dumping the state and the rows that a restore of an accepted image leaves gives the same bytes again.
abbrev pub WayBackTheorem : Type 0
WayBackTheorem =
    (s : Settings) (x rows : List ℕ) → Bytes x → Plain x → restore_judged s x rows ≡ Ok tt → image_of s (state_in x) (overwrite rows 0 (window_in x)) ≡ x

-- ---- what the lines of 19 have seen

record Seen (x : List ℕ) : Type 0 where
  shape : shape_fine x ≡ true
  numbers : numbers_fine x ≡ true
  unused : unused_zero x ≡ true
  spare : get_or x 19 0 ≡ 0
  spares : zero_at x 136 120 ≡ true
  rows : rows_fine x ≡ true

seen_lines : (x : List ℕ) → judged (image_lines x) ≡ Ok tt → Seen x
unfolding image_lines
seen_lines x h =
    let a = first_holds _ _ h in
    let b = first_holds _ _ a.1 in
    let c = first_holds _ _ b.1 in
    let d = first_holds _ _ c.1 in
    let e = first_holds _ _ d.1 in
    let f = first_holds _ _ e.1 in
    record { shape = a.0; numbers = b.0; unused = c.0; spare = eqb-true _ _ d.0; spares = e.0; rows = f.0 }

record Kinds (x : List ℕ) : Type 0 where
  order : order_in x ≤ 3
  kind : kind_in x ≤ 3
  entered : entered_in x ≤ 1

kinds : (x : List ℕ) → numbers_fine x ≡ true → Kinds x
unfolding numbers_fine
kinds x h =
    let a = (and_true _ (entry_below (entered_of (entered_in x) (entry_in x)) (seen_in x)) h).0 in
    let b = and_true _ (leb (entered_in x) 1) a in
    let c = and_true _ (leb (kind_in x) 3) b.0 in
    let d = and_true (leb (rows_in x) (depth_in x) && leb (rows_in x) (seen_in x)) (leb (order_in x) 3) c.0 in
    record { order = leb-true _ _ d.1; kind = leb-true _ _ c.1; entered = leb-true _ _ b.1 }

record Unused (x : List ℕ) : Type 0 where
  delay : used_or_zero (ltb 0 (order_in x)) (delay_in x) ≡ true
  kind : used_or_zero (is_entry (order_in x)) (kind_in x) ≡ true
  level : used_or_zero (ltb 0 (kind_in x)) (level_in x) ≡ true
  limit : used_or_zero (eqb (kind_in x) 3) (limit_in x) ≡ true
  entry : used_or_zero (ltb 0 (entered_in x)) (entry_in x) ≡ true

unused_parts : (x : List ℕ) → unused_zero x ≡ true → Unused x
unfolding unused_zero
unused_parts x h =
    let a = and_true _ (used_or_zero (ltb 0 (entered_in x)) (entry_in x)) h in
    let b = and_true _ (used_or_zero (eqb (kind_in x) 3) (limit_in x)) a.0 in
    let c = and_true _ (used_or_zero (ltb 0 (kind_in x)) (level_in x)) b.0 in
    let d = and_true (used_or_zero (ltb 0 (order_in x)) (delay_in x)) (used_or_zero (is_entry (order_in x)) (kind_in x)) c.0 in
    record { delay = d.0; kind = d.1; level = c.1; limit = b.1; entry = a.1 }

-- ---- the words

module _ (x : List ℕ) (bytes : Bytes x) (seen : Seen x) where
  words_again : Plain x → words_of (state_in x) ≡ words_in x
  unfolding state_in state_of words_of words_in counts_of position_of portfolio_of
  words_again plain =
      let known = kinds x seen.numbers in
      let free = unused_parts x seen.unused in
      let o = order_again (order_in x) (delay_in x) (kind_in x) (level_in x) (limit_in x) _ known.order free.delay free.kind free.level free.limit
      (kind_again (kind_in x) (level_in x) (limit_in x) known.kind free.level free.limit plain.level plain.limit) in
      let e = entered_again (entered_in x) (entry_in x) known.entered free.entry in
      rw (
        o.same,
        o.delay_same,
        o.waits.same,
        o.waits.level_same,
        o.waits.limit_same,
        e.0,
        e.1,
        plain.cash,
        plain.qty,
        plain.entry_price,
        plain.entry_fee,
        plain.fees_paid,
        plain.extreme,
        plain.close,
        plain.funding,
        plain.worst,
      )

  first_read : first_word (slots_in x) (depth_in x) ≡ u64 x 0
  unfolding u16 u32 u64 Bytes
  first_read =
      let m = shape_marked x seen.shape in
      let k : slots_in x % 256 ≡ slots_in x = mod-eq_of_lt (bytes 3) in
      let d : depth_in x % 65536 ≡ depth_in x = mod-eq_of_lt (two_small x bytes 6) in
      rw (k, d) (omega (arith, m.m₀, m.m₁, m.m₂, m.version))

  second_read : second_word (seen_in x) (rows_in x) ≡ u64 x 8
  unfolding u64
  second_read = rw (mod-eq_of_lt (four_small x bytes 8), mod-eq_of_lt (four_small x bytes 12))

  third_read : third_word (order_in x) (kind_in x) (entered_in x) (entry_in x) ≡ u64 x 16
  unfolding u16 u32 u64 Bytes
  third_read =
      let o : order_in x % 256 ≡ order_in x = mod-eq_of_lt (bytes 16) in
      let k : kind_in x % 256 ≡ kind_in x = mod-eq_of_lt (bytes 17) in
      let e : entered_in x % 256 ≡ entered_in x = mod-eq_of_lt (bytes 18) in
      let b : entry_in x % 4294967296 ≡ entry_in x = mod-eq_of_lt (four_small x bytes 20) in
      rw (o, k, e, b) (omega (arith, seen.spare))

  -- the header's words are those that it says
  head_read : head_words (slots_in x) (depth_in x) (rows_in x) (words_in x) ≡ listed 17 (λ q. u64 x (8 * q))
  unfolding head_words amounts words_in listed
  head_read = rw (first_read, second_read, third_read)

  -- ---- the rows

  rows_parts : (each_fine x (slots_in x) (rows_in x) ≡ true)
      × (zero_at x (row_place (slots_in x) (rows_in x)) (length x - row_place (slots_in x) (rows_in x)) ≡ true)
  unfolding rows_fine
  rows_parts = and_true _ _ seen.rows

  rows_long : length (window_in x) ≡ rows_in x * row_words (slots_in x)
  unfolding window_in words_at
  rows_long = listed_long _ _

  rows_count : length (window_in x) / row_words (slots_in x) ≡ rows_in x
  rows_count = ap (λ (n : ℕ). n / row_words (slots_in x)) rows_long ∙ mul-div_cancel (rows_in x) {n = row_words (slots_in x)} (omega arith)

  row_read : (i : ℕ) → i < rows_in x * row_words (slots_in x) → get_or (window_in x) i 0 ≡ u64 x (256 + 8 * i)
  unfolding window_in words_at
  row_read i l = listed_at (rows_in x * row_words (slots_in x)) (λ j. u64 x (head_bytes + 8 * j)) i l

  zero_behind : (at n i : ℕ) → zero_at x at n ≡ true → i < n → get_or x (at + i) 0 ≡ 0
  unfolding zero_at
  zero_behind at n i h l = eqb-true _ _ (one_of n (λ i. eqb (get_or x (at + i) 0) 0) h i l)

  -- ---- the bytes

  again : List ℕ
  again = image (slots_in x) (depth_in x) (words_in x) (window_in x)

  head_byte : (i : ℕ) → i < 256 → get_or again i 0 ≡ get_or x i 0
  unfolding again
  head_byte i l =
      image-head (slots_in x) (depth_in x) (words_in x) (window_in x) i l
      ∙ ap (λ (n : ℕ). get_or (words_bytes (head_words (slots_in x) (depth_in x) n (words_in x))) i 0) rows_count
      ∙ ap (λ (ws : List ℕ). get_or (words_bytes ws) i 0) head_read ∙ go (ltb i 136) refl
    where
      go : (b : Bool) → ltb i 136 ≡ b → get_or (words_bytes (listed 17 (λ q. u64 x (8 * q)))) i 0 ≡ get_or x i 0
      go true e =
          let small : i < 136 = ltb-true i 136 e in
          byte_of (listed 17 (λ q. u64 x (8 * q))) i
          ∙ ap (λ (w : ℕ). get_or (eight w) (i % 8) 0) (listed_at 17 (λ q. u64 x (8 * q)) (i / 8) (omega arith))
          ∙ byte_read x bytes (8 * (i / 8)) (i % 8) i (omega arith) (omega arith)
      go false e =
          let big : 136 ≤ i = ltb-false i 136 e in
          let place : 136 + (i - 136) ≡ i = omega arith in
          let long = words_long (listed 17 (λ q. u64 x (8 * q))) in
          List·get_or-eq_default (words_bytes (listed 17 (λ q. u64 x (8 * q)))) 0 {n = i} (omega (arith, long, listed_long 17 (λ q. u64 x (8 * q))))
          ∙ sym (ap (λ (p : ℕ). get_or x p 0) (sym place) ∙ zero_behind 136 120 (i - 136) seen.spares (omega arith))

  body_byte : (j : ℕ) → 256 + j < length x → get_or again (256 + j) 0 ≡ get_or x (256 + j) 0
  unfolding again
  body_byte j l =
      image-body (slots_in x) (depth_in x) (words_in x) (window_in x) j ∙ go (ltb j (8 * (rows_in x * row_words (slots_in x)))) refl
    where
      go : (b : Bool) → ltb j (8 * (rows_in x * row_words (slots_in x))) ≡ b → get_or (words_bytes (window_in x)) j 0 ≡ get_or x (256 + j) 0
      go true e =
          let small : j < 8 * (rows_in x * row_words (slots_in x)) = ltb-true j _ e in
          byte_of (window_in x) j
          ∙ ap (λ (w : ℕ). get_or (eight w) (j % 8) 0) (row_read (j / 8) (omega arith))
          ∙ byte_read x bytes (256 + 8 * (j / 8)) (j % 8) (256 + j) (omega arith) (omega arith)
      go false e =
          let n = rows_in x * row_words (slots_in x) in
          let big : 8 * n ≤ j = ltb-false j _ e in
          let place : row_place (slots_in x) (rows_in x) + (j - 8 * n) ≡ 256 + j = omega arith in
          List·get_or-eq_default (words_bytes (window_in x)) 0 {n = j} (omega (arith, words_long (window_in x), rows_long))
          ∙ sym (ap (λ (p : ℕ). get_or x p 0) (sym place)
          ∙ zero_behind (row_place (slots_in x) (rows_in x)) (length x - row_place (slots_in x) (rows_in x)) (j - 8 * n) rows_parts.1 (omega arith))

  again_long : length again ≡ length x
  unfolding again dump_bytes
  again_long =
      let K = slots_in x in
      let n = rows_in x in
      let few : n * (8 * row_words K) ≤ depth_in x * (8 * row_words K) = mul-le-mul_right (8 * row_words K) (rows_few x seen.numbers) in
      let turn : n * (8 * row_words K) ≡ 8 * (n * row_words K) =
      sym (mul_assoc n 8 (row_words K)) ∙ ap (λ (m : ℕ). m * row_words K) (mul_comm n 8) ∙ mul_assoc 8 n (row_words K) in
      image_long K (depth_in x) (words_in x) (window_in x) (omega (arith, rows_long)) ∙ sym (shape_fine_lem x seen.shape).long

  bytes_again : again ≡ x
  bytes_again =
      ext_get_or 0 again x again_long
      (λ i l. go i (ltb i 256) refl (omega (arith, l, again_long)))
    where
      go : (i : ℕ) (b : Bool) → ltb i 256 ≡ b → i < length x → get_or again i 0 ≡ get_or x i 0
      go i true e l = head_byte i (ltb-true i 256 e)
      go i false e l =
          let big : 256 ≤ i = ltb-false i 256 e in
          let place : 256 + (i - 256) ≡ i = omega arith in
          ap (λ (p : ℕ). get_or again p 0) (sym place) ∙ body_byte (i - 256) (omega arith) ∙ ap (λ (p : ℕ). get_or x p 0) place

  -- what its own state and rows are written as
  image_again : Plain x → image (slots_in x) (depth_in x) (words_of (state_in x)) (window_in x) ≡ x
  unfolding again
  image_again plain = rw (words_again plain) bytes_again

-- ---- what a restore leaves

-- rows written over the first words of a room are the window of what it then holds
window_held : (K D n : ℕ) (rows W : List ℕ) → length W ≡ n * row_words K → n ≤ D → length W ≤ length rows
    → last_rows K D (held_rows K n (overwrite rows 0 W)) ≡ W
unfolding last_rows held_rows
window_held K D n rows W long few fits =
    let held : take (n * row_words K) (overwrite rows 0 W) ≡ W =
    rw (← long, overwrite_fits rows 0 W (rw (zero-add (length W)) fits)) (take_at W (drop (0 + length W) rows) (length W) refl) in
    let count : length W / row_words K ≡ n = ap (λ (m : ℕ). m / row_words K) long ∙ mul-div_cancel n {n = row_words K} (omega arith) in
    let none : length W / row_words K - D ≡ 0 = omega arith in
    rw (held, none, zero-mul (row_words K)) refl

module _ (s : Settings) (x rows : List ℕ) (bytes : Bytes x) (plain : Plain x) (fine : restore_judged s x rows ≡ Ok tt) where
  seen : Seen x
  unfolding restore_judged restore_lines
  seen = seen_lines x (both_fine (image_lines x) _ (both_fine (setting_lines s) _ (both_fine (room_lines s rows) _ fine).1).1).0

  window_again : window_of s (state_in x) (overwrite rows 0 (window_in x)) ≡ window_in x
  unfolding window_of state_in state_of counts_of words_in
  window_again =
      let known = restore_fine s x rows fine in
      let w = row_words s.slots in
      let long : length (window_in x) ≡ rows_in x * w = rw (← known.slots) (rows_long x bytes seen) in
      let few : rows_in x ≤ s.depth = rw (← known.depth) known.few in
      let fits : rows_in x * w ≤ length rows = records_fit (length rows) w (omega arith) (rows_in x) (omega (arith, known.room)) in
      window_held s.slots s.depth (rows_in x) rows (window_in x) long few (omega arith)

  same_bytes : image_of s (state_in x) (overwrite rows 0 (window_in x)) ≡ x
  unfolding image_of
  same_bytes =
      let known = restore_fine s x rows fine in
      rw (window_again, ← known.slots, ← known.depth) (image_again x bytes seen plain)

-- AN ACCEPTED IMAGE IS ITS STATE'S.
pub image_back : WayBackTheorem
image_back s x rows bytes plain fine = same_bytes s x rows bytes plain fine
