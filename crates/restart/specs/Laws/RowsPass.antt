-- Rows that 11 would let pass: the row of a bar that it let pass, and a window to which such a row is added.
use Rattle.std.specs.Prelude.{ℕ, zero, suc, ◌+◌, ◌-◌, ◌*◌, ◌/◌, ◌%◌, ◌^◌, ◌≤◌, ◌<◌, ◌≡◌, refl, Bool, true, false, List, ◌++◌, ltb, eqb, length, get_or, drop, None, Ok}
use Rattle.words.specs.Prelude.{ap, ◌∙◌, ⊎_elim, eq-or-lt_of_le}
use Rattle.words.specs.Prelude.{add-mul, le-div_iff_mul-le, mul-div_cancel, mul-le-mul_right, arith, lt-ltb, le-ltb, ltb-true}
use Rattle.words.specs.Prelude.{length-append, length-drop, List·get_or-append, List·get_or-eq_default, get_or-append-add, get_or-drop}
use Rattle.words.specs.{Limits.row_words, Limits.most_slots}
use Rattle.rows.specs.{History.last_rows}
use Rattle.records.specs.{Bar.candle_of, Bar.funding_of}
use Rattle.refusals.specs.{Bar.bit_fine, Bar.slot_fine, Bar.every, Bar.slots_fine, Bar.candle_fine, Bar.bar_lines}
use Rattle.refusals.specs.{Lines.judged, Laws.Lines.and_true, Laws.Lines.first_holds}
use Rattle.engine.specs.{Record.row_word, Record.listed, Record.row_of, Laws.Lengths.row_long}
use Rattle.images.specs.{Refused.used_or_zero, Refused.absent_zero, Refused.row_fine}
use Rattle.restart.specs.{Boxes.row_at, Boxes.RowsPass, Window.listed_at}

-- ---- each number below n

pub every_of : (n : ℕ) (f : ℕ → Bool) → ((i : ℕ) → i < n → f i ≡ true) → every n f ≡ true
unfolding every
every_of zero f h = refl
every_of (suc n) f h = rw (every_of n f (λ i l. h i (omega arith)), h n (omega arith))

pub one_of : (n : ℕ) (f : ℕ → Bool) → every n f ≡ true → (i : ℕ) → i < n → f i ≡ true
unfolding every
one_of zero f h i l = absurd (omega arith)
one_of (suc n) f h i l =
    let p = and_true (every n f) (f n) h in
    ⊎_elim (λ (e : i ≡ n). ap f e ∙ p.1) (λ (k : i < n). one_of n f p.0 i k) (eq-or-lt_of_le {n = i} {m = n} (omega arith))

-- ---- the row of a bar

module _ (K : ℕ) (bar : List ℕ) where
  row_word_lem : (j : ℕ) → j < row_words K → get_or (row_of K bar) j 0 ≡ row_word bar j
  unfolding row_of
  row_word_lem j l = listed_at (row_words K) (row_word bar) j l

  row_past : (j : ℕ) → row_words K ≤ j → get_or (row_of K bar) j 0 ≡ 0
  row_past j l = List·get_or-eq_default (row_of K bar) 0 {n = j} (omega (arith, row_long K bar))

  -- its first seven words are the bar's
  first_seven : (j : ℕ) → j < 7 → get_or (row_of K bar) j 0 ≡ get_or bar j 0
  unfolding row_word
  first_seven j l = row_word_lem j (omega arith) ∙ rw (lt-ltb j 7 l)

  -- and so is the word of a slot that is there; that of an absent one is 0
  slot_word : (k : ℕ) (b : Bool) → k < K → eqb (get_or bar 6 0 / 2 ^ k % 2) 1 ≡ b → used_or_zero b (get_or (row_of K bar) (7 + k) 0) ≡ true
      × (b ≡ true → get_or (row_of K bar) (7 + k) 0 ≡ get_or bar (7 + k) 0)
  unfolding row_word
  slot_word k true l e =
      let back : 7 + k - 7 ≡ k = omega arith in
      (refl, λ h. row_word_lem (7 + k) (omega arith) ∙ rw (le-ltb (7 + k) 7 (omega arith), back, e))
  slot_word k false l e =
      let back : 7 + k - 7 ≡ k = omega arith in
      let none : get_or (row_of K bar) (7 + k) 0 ≡ 0 = row_word_lem (7 + k) (omega arith) ∙ rw (le-ltb (7 + k) 7 (omega arith), back, e) in
      (rw none, λ h. absurd (let z : ◌≡◌ {A = ℕ} 0 1 = cc in omega arith))

  same_candle : candle_fine (candle_of (row_of K bar)) ≡ candle_fine (candle_of bar)
  unfolding candle_of
  same_candle =
      rw (first_seven 1 (omega arith), first_seven 2 (omega arith), first_seven 3 (omega arith), first_seven 4 (omega arith), first_seven 5 (omega arith))

  no_funding : funding_of K (row_of K bar) ≡ None
  unfolding funding_of
  no_funding = rw (row_past (7 + K) (omega arith))

  slot_passes : (k : ℕ) → slot_fine K bar k ≡ true → slot_fine K (row_of K bar) k ≡ true
  unfolding bit_fine
  slot_passes k h = rw (first_seven 6 (omega arith)) (go (eqb (get_or bar 6 0 / 2 ^ k % 2) 1) (ltb k K) refl refl)
    where
      go : (b c : Bool) → eqb (get_or bar 6 0 / 2 ^ k % 2) 1 ≡ b → ltb k K ≡ c → bit_fine K (row_of K bar) (get_or bar 6 0 / 2 ^ k) k ≡ true
      go false c e f = rw e
      go true true e f = rw (e, f, (slot_word k true (ltb-true k K f) e).1 refl) (rw (e, f) at h)
      go true false e f = rw (e, f) (rw (e, f) at h)

  slots_pass : slots_fine K bar ≡ true → slots_fine K (row_of K bar) ≡ true
  unfolding slots_fine
  slots_pass h = every_of most_slots (slot_fine K (row_of K bar)) (λ k l. slot_passes k (one_of most_slots (slot_fine K bar) h k l))

  absent_pass : absent_zero K (row_of K bar) ≡ true
  unfolding absent_zero
  absent_pass = every_of K _ (λ k l. rw (first_seven 6 (omega arith)) (slot_word k _ l refl).0)

  -- what 11 looked at
  seen_fine : (seen : ℕ) → judged (bar_lines K bar seen) ≡ Ok tt → (candle_fine (candle_of bar) ≡ true) × (slots_fine K bar ≡ true)
  unfolding bar_lines
  seen_fine seen h =
      let candle = first_holds _ _ h in
      (candle.0, (first_holds _ _ candle.1).0)

  -- A BAR THAT 11 LETS PASS has a row that it would let pass.
  pub row_passes : (seen : ℕ) → judged (bar_lines K bar seen) ≡ Ok tt → row_fine K (row_of K bar) ≡ true
  unfolding row_fine bar_lines judged
  row_passes seen h =
      let looked = seen_fine seen h in
      rw (same_candle ∙ looked.0, slots_pass looked.1, no_funding, absent_pass)

-- ---- the rows of a window

pub listed_same : (n : ℕ) (f g : ℕ → ℕ) → ((j : ℕ) → j < n → f j ≡ g j) → listed n f ≡ listed n g
unfolding listed
listed_same zero f g h = refl
listed_same (suc n) f g h = rw (listed_same n f g (λ j l. h j (omega arith)), h n (omega arith))

module _ (K : ℕ) (ws : List ℕ) (pass : RowsPass K ws) where
  -- where the first rows go
  drop_pass : (g : ℕ) → g ≤ length ws / row_words K → RowsPass K (drop (g * row_words K) ws)
  unfolding RowsPass
  drop_pass g few i l =
      let w = row_words K in
      let gone : g * w ≤ length ws = (le-div_iff_mul-le {k = w} (omega arith)).0 few in
      let ends : (i + 1) * w ≤ length (drop (g * w) ws) = (le-div_iff_mul-le {k = w} (omega arith)).0 (omega arith) in
      let sum : (g + (i + 1)) * w ≡ g * w + (i + 1) * w = add-mul g (i + 1) w in
      let last : (g + (i + 1)) * w ≤ length ws = omega (arith, length-drop (g * w) ws) in
      let there : g + (i + 1) ≤ length ws / w = (le-div_iff_mul-le {k = w} (omega arith)).1 last in
      let place : (g + i) * w ≡ g * w + i * w = add-mul g i w in
      rw (listed_same w (λ j. get_or (drop (g * w) ws) (i * w + j) 0) (λ j. get_or ws ((g + i) * w + j) 0)
      (λ j k. get_or-drop (g * w) ws (i * w + j) 0 ∙ ap (λ (p : ℕ). get_or ws p 0) (omega arith)))
      (pass (g + i) (omega arith))

  pub last_pass : (D : ℕ) → RowsPass K (last_rows K D ws)
  unfolding last_rows
  last_pass D = drop_pass (length ws / row_words K - D) (omega arith)

  -- where a row is added: those that were there, and it
  module _ (n : ℕ) (bar : List ℕ) (long : length ws ≡ n * row_words K) where
    before_it : (i : ℕ) → i < n → row_at K (ws ++ row_of K bar) i ≡ row_at K ws i
    before_it i l =
        let w = row_words K in
        let ends : (i + 1) * w ≤ n * w = mul-le-mul_right w (omega arith) in
        let sum : (i + 1) * w ≡ i * w + 1 * w = add-mul i 1 w in
        listed_same w (λ j. get_or (ws ++ row_of K bar) (i * w + j) 0) (λ j. get_or ws (i * w + j) 0)
        (λ j k. List·get_or-append ws (row_of K bar) 0 (i * w + j) (omega arith))

    itself : row_at K (ws ++ row_of K bar) n ≡ row_of K bar
    unfolding row_of
    itself =
        let w = row_words K in
        listed_same w (λ j. get_or (ws ++ row_of K bar) (n * w + j) 0) (row_word bar)
        (λ j k. rw (← long) (get_or-append-add ws (row_of K bar) j 0) ∙ row_word_lem K bar j k)

    pub added_pass : row_fine K (row_of K bar) ≡ true → RowsPass K (ws ++ row_of K bar)
    unfolding RowsPass
    added_pass fine i l =
        let w = row_words K in
        let sum : (n + 1) * w ≡ n * w + 1 * w = add-mul n 1 w in
        let all : length (ws ++ row_of K bar) ≡ (n + 1) * w = omega (arith, length-append ws (row_of K bar), row_long K bar) in
        let count : length (ws ++ row_of K bar) / w ≡ n + 1 = ap (λ (m : ℕ). m / w) all ∙ mul-div_cancel (n + 1) {n = w} (omega arith) in
        let held : length ws / w ≡ n = ap (λ (m : ℕ). m / w) long ∙ mul-div_cancel n {n = w} (omega arith) in
        ⊎_elim
        (λ (e : i ≡ n). rw (e, itself) fine)
        (λ (k : i < n). rw (before_it i k) (pass i (omega arith)))
        (eq-or-lt_of_le {n = i} {m = n} (omega arith))
