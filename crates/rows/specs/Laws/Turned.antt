-- A list of rows turned: its words, its length, and when it stays as it was.
use Rattle.std.specs.Prelude.{ℕ, ◌+◌, ◌-◌, ◌*◌, ◌/◌, ◌<◌, ◌≤◌, ◌≡◌, List, ◌++◌, length, get_or, take, drop}
use Rattle.words.specs.Prelude.{sym, ap, ◌∙◌, ⊎_elim, append_assoc, append-nil, arith, zero-mul}
use Rattle.words.specs.Prelude.{mul-le-mul_right, div-mul-le_self, mul-div_cancel, length-append, length-take, length-drop}
use Rattle.words.specs.Prelude.{take-append-drop, drop_of_length-le, List·get_or-append, take_all, take_at, drop_at, get_or-append-add, get_or-take, get_or-drop}
use Rattle.words.specs.Prelude.{length-take-le, lt-ltb, le-ltb}
use Rattle.words.specs.{Laws.Numbers.less_or_not}
use Rattle.rows.specs.{Ring.ring_place, Ring.turned}

-- the words of whole rows
abbrev whole_words : ℕ → List ℕ → ℕ
whole_words w ws = length ws / w * w

-- row i, of those that there are, ends by their end
row_within : (places w i : ℕ) → i < places → i * w + w ≤ places * w
row_within places w i h = let whole : (i + 1) * w ≤ places * w = mul-le-mul_right w (omega arith) in omega arith

module _ (w start : ℕ) (ws : List ℕ) where
  fits : whole_words w ws ≤ length ws
  fits = div-mul-le_self (length ws) w

  whole_length : length (take (whole_words w ws) ws) ≡ whole_words w ws
  whole_length = length-take-le (whole_words w ws) ws fits

  -- turned, it is as long as it was
  pub turned-length : length (turned w start ws) ≡ length ws
  unfolding turned
  turned-length =
      let n = whole_words w ws in
      let h = fits in
      simp (length-append, length-drop, length-take) (omega arith)

  -- a row number past the last turns nothing
  pub turned_past : length ws / w ≤ start → turned w start ws ≡ ws
  unfolding turned
  turned_past h =
      let n = whole_words w ws in
      let late : length (take n ws) ≤ start * w = rw whole_length (mul-le-mul_right w h) in
      rw (drop_of_length-le (take n ws) late, take_all (start * w) (take n ws) late) (take-append-drop n ws)

  -- word j of row i stands where the ring has it
  pub turned_word : start < length ws / w → (i j : ℕ) → i < length ws / w → j < w
      → get_or (turned w start ws) (i * w + j) 0 ≡ get_or ws (ring_place (length ws / w) start i * w + j) 0
  unfolding turned ring_place
  turned_word h i j l m =
      let p = length ws / w in
      let n = whole_words w ws in
      let k = start * w in
      let whole = take n ws in
      let x = drop k whole in
      let y = take k whole in
      let here : i * w + w ≤ n = row_within p w i l in
      let before : k + w ≤ n = row_within p w start h in
      let long-x : length x ≡ n - k = length-drop k whole ∙ ap (λ (a : ℕ). a - k) whole_length in
      let long-y : length y ≡ k = length-take-le k whole (rw whole_length (omega arith)) in
      let long : length (x ++ y) ≡ n = length-append x y ∙ omega arith in
      let there : get_or (x ++ y ++ drop n ws) (i * w + j) 0 ≡ get_or (x ++ y) (i * w + j) 0 =
      List·get_or-append (x ++ y) (drop n ws) 0 (i * w + j) (omega arith) in
      rw (lt-ltb i p l)
      (there
      ∙ ⊎_elim
      (λ (early : start + i < p).
      let sum : (start + i) * w ≡ k + i * w = omega arith in
      let within : (start + i) * w + w ≤ n = row_within p w (start + i) early in
      let at : k + (i * w + j) ≡ (start + i) * w + j = omega arith in
      rw (lt-ltb (start + i) p early)
      (List·get_or-append x y 0 (i * w + j) (omega arith)
      ∙ get_or-drop k whole (i * w + j) 0
      ∙ ap (λ (a : ℕ). get_or whole a 0) at
      ∙ get_or-take n ws ((start + i) * w + j) 0 (omega arith)))
      (λ (late : p ≤ start + i).
      let t = start + i - p in
      let sum : (start + i) * w ≡ (t + p) * w = ap (λ (a : ℕ). a * w) {x = start + i} {y = t + p} (omega arith) in
      let within : t * w + w ≤ k = row_within start w t (omega arith) in
      let at : i * w + j ≡ length x + (t * w + j) = omega arith in
      rw (le-ltb (start + i) p late)
      (ap (λ (a : ℕ). get_or (x ++ y) a 0) at
      ∙ get_or-append-add x y (t * w + j) 0
      ∙ get_or-take k whole (t * w + j) 0 (omega arith)
      ∙ get_or-take n ws (t * w + j) 0 (omega arith)))
      (less_or_not (start + i) p))

-- row 0 first is how it stands
pub turned_none : (w : ℕ) (ws : List ℕ) → turned w 0 ws ≡ ws
unfolding turned
turned_none w ws = rw (zero-mul, append-nil) (take-append-drop (whole_words w ws) ws)

-- two parts of whole rows, the first of them `start` rows, and an end that is no row: they change places
pub turned_parts : (w start : ℕ) (ws x y rest : List ℕ) → ws ≡ x ++ (y ++ rest) → length x ≡ start * w → length x + length y ≡ length ws / w * w
    → turned w start ws ≡ y ++ (x ++ rest)
unfolding turned
turned_parts w start ws x y rest e l m =
    let n = whole_words w ws in
    let both : ws ≡ (x ++ y) ++ rest = e ∙ sym (append_assoc x y rest) in
    let long : length (x ++ y) ≡ n = length-append x y ∙ m in
    let front : take n ws ≡ x ++ y = ap (take n) both ∙ take_at (x ++ y) rest n long in
    let end : drop n ws ≡ rest = ap (drop n) both ∙ drop_at (x ++ y) rest n long in
    rw (front, end, drop_at x y (start * w) l, take_at x y (start * w) l) (append_assoc y x rest)

-- of a full room the rows alone turn as the room does
pub turned_whole : (w start : ℕ) (ws : List ℕ) → 0 < w → take (length ws / w * w) (turned w start ws) ≡ turned w start (take (length ws / w * w) ws)
unfolding turned
turned_whole w start ws some =
    let n = whole_words w ws in
    let whole = take n ws in
    let x = drop (start * w) whole in
    let y = take (start * w) whole in
    let long : length whole ≡ n = whole_length w start ws in
    let same : length whole / w * w ≡ n = ap (λ (a : ℕ). a / w * w) long ∙ ap (λ (a : ℕ). a * w) (mul-div_cancel (length ws / w) some) in
    let all : length (x ++ y) ≡ n = length-append x y ∙ simp (length-drop, length-take) (omega (arith, fits w start ws)) in
    take_at (x ++ y) (drop n ws) n all
    ∙ rw (same, take_all n whole (omega arith), drop_of_length-le whole {i = n} (omega arith), append-nil)
