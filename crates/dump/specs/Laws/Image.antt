-- An image's length, and each of its bytes as one of the header's or the rows' words.
use Rattle.std.specs.Prelude.{ℕ, zero, suc, ◌+◌, ◌-◌, ◌*◌, ◌/◌, ◌≤◌, ◌<◌, ◌≡◌, refl, List, [], ◌∷◌, ◌++◌, Bool, true, false, leb, length, get_or, take}
use Rattle.std.specs.Prelude.{replicate}
use Rattle.words.specs.Prelude.{sym, ap, ◌∙◌, zero-mul, sub-zero}
use Rattle.words.specs.Prelude.{mul-le-mul_right, mul-le-mul_left, add-mul, mul-div_cancel, mul_assoc, mul_comm, arith, leb-true, leb-false}
use Rattle.words.specs.Prelude.{length-append, length-drop, length-replicate, List·get_or-append, get_or-append-add, length-take-le}
use Rattle.words.specs.{Limits.row_words, Laws.Records.records_fit}
use Rattle.rows.specs.{History.last_rows}
use Rattle.records.specs.{declared.settings.Settings.Settings, declared.state.State.State, Lent.row_places, StateWords.words_of}
use Rattle.engine.specs.{Record.held_rows}
use Rattle.images.specs.{Layout.body_bytes, Layout.words_bytes, Layout.numbers, Layout.amounts, Layout.head, Layout.body, Layout.image, Layout.window_of}
use Rattle.images.specs.{Layout.image_of}
use Rattle.heads.specs.{Laws.Packed.head_words, Laws.Packed.head_packed}
use Rattle.dump.specs.{Order.written, Laws.InOrder.in_order, Laws.InOrder.in_order_lem, Laws.WordBytes.words_long}

-- zeros behind a list are what reading past its end gives
pub zeros_behind : (xs : List ℕ) (n i : ℕ) → get_or (xs ++ replicate n 0) i 0 ≡ get_or xs i 0
zeros_behind [] zero i = refl
zeros_behind [] (suc n) zero = refl
zeros_behind [] (suc n) (suc i) = zeros_behind [] n i
zeros_behind (x ∷ xs) n zero = refl
zeros_behind (x ∷ xs) n (suc i) = zeros_behind xs n i

head_long : (K D held : ℕ) (ws : List ℕ) → length (head K D held ws) ≡ 256
unfolding head numbers amounts words_bytes
head_long K D held ws = refl

module _ (K D : ℕ) (ws rows : List ℕ) where
  pub image_long : 8 * length rows ≤ body_bytes K D → length (image K D ws rows) ≡ 256 + body_bytes K D
  unfolding image body
  image_long fits =
      length-append (head K D (length rows / row_words K) ws) _
      ∙ omega (
        arith,
        head_long K D (length rows / row_words K) ws,
        length-append (words_bytes rows) (replicate (body_bytes K D - 8 * length rows) 0),
        words_long rows,
        length-replicate {A = ℕ} (body_bytes K D - 8 * length rows) 0,
      )

  pub image-head : (i : ℕ) → i < 256 → get_or (image K D ws rows) i 0 ≡ get_or (words_bytes (head_words K D (length rows / row_words K) ws)) i 0
  unfolding image
  image-head i l =
      let h = head K D (length rows / row_words K) ws in
      List·get_or-append h (body K D rows) 0 i (omega (arith, head_long K D (length rows / row_words K) ws))
      ∙ ap (λ (x : List ℕ). get_or x i 0) (sym (head_packed K D (length rows / row_words K) ws))
      ∙ zeros_behind (words_bytes (head_words K D (length rows / row_words K) ws)) 120 i

  pub image-body : (i : ℕ) → get_or (image K D ws rows) (256 + i) 0 ≡ get_or (words_bytes rows) i 0
  unfolding image body
  image-body i =
      ap (λ (n : ℕ). get_or (image K D ws rows) (n + i) 0) (sym (head_long K D (length rows / row_words K) ws))
      ∙ get_or-append-add (head K D (length rows / row_words K) ws) (body K D rows) i 0
      ∙ zeros_behind (words_bytes rows) (body_bytes K D - 8 * length rows) i

-- what is left of n rows when all but the last D are dropped
last_few : (n D w : ℕ) → n * w - (n - D) * w ≤ D * w
last_few n D w = go (leb n D) refl
  where
    whole : D ≤ n → n ≡ n - D + D
    whole h = omega arith

    go : (b : Bool) → leb n D ≡ b → n * w - (n - D) * w ≤ D * w
    go true e =
        let h : n ≤ D = leb-true n D e in
        let z : n - D ≡ 0 = omega arith in
        rw (z, zero-mul w, sub-zero (n * w)) (mul-le-mul_right w h)
    go false e =
        let h : D < n = leb-false n D e in
        let f : n * w ≡ (n - D) * w + D * w = ap (λ (m : ℕ). m * w) (whole (omega arith)) ∙ add-mul (n - D) D w in
        omega (arith, f)

-- the window has no more than D rows
pub window_short : (K D held : ℕ) (room : List ℕ) → held * row_words K ≤ length room
    → 8 * length (last_rows K D (take (held * row_words K) room)) ≤ body_bytes K D
unfolding last_rows
window_short K D held room h =
    let long : length (take (held * row_words K) room) ≡ held * row_words K = length-take-le (held * row_words K) room h in
    let count : held * row_words K / row_words K ≡ held = mul-div_cancel held (omega arith) in
    let few : length (last_rows K D (take (held * row_words K) room)) ≡ held * row_words K - (held - D) * row_words K =
    simp (length-drop, long, count) in
    let bytes : D * (8 * row_words K) ≡ 8 * (D * row_words K) =
    sym (mul_assoc D 8 (row_words K)) ∙ ap (λ (m : ℕ). m * row_words K) (mul_comm D 8) ∙ mul_assoc 8 D (row_words K) in
    rw (few, bytes) (mul-le-mul_left 8 (last_few held D (row_words K)))

-- WHAT A DUMP WRITES, part by part, is the image in the order of writing.
pub image-in_order : (s : Settings) (t : State) (room area : List ℕ) (from upto : ℕ) → t.counts.rows_held ≤ row_places s.slots room
    → in_order area (head_words s.slots s.depth (length (window_of s t room) / row_words s.slots) (words_of t)) (window_of s t room)
    (body_bytes s.slots s.depth) from upto
    ≡ written (image_of s t room) area from upto
unfolding image_of window_of held_rows
image-in_order s t room area from upto held =
    let fit = records_fit (length room) (row_words s.slots) (omega arith) t.counts.rows_held held in
    let short = window_short s.slots s.depth t.counts.rows_held room fit in
    in_order_lem (image_of s t room) area from upto (body_bytes s.slots s.depth) (image_long s.slots s.depth (words_of t) (window_of s t room) short)
    _ (window_of s t room) (image-head s.slots s.depth (words_of t) (window_of s t room)) (image-body s.slots s.depth (words_of t) (window_of s t room))
