-- A row judged by its words where they stand: prices and volume, the bits above K, and slot by slot, present and finite or absent and zero.
use Rattle.std.specs.Prelude.{ℕ, zero, suc, ◌+◌, ◌-◌, ◌*◌, ◌/◌, ◌%◌, ◌^◌, ◌≤◌, ◌<◌, ◌≡◌, refl, Bool, true, false, cond, ◌&&◌, ◌||◌, List, [], ◌∷◌, ltb, eqb, Err, Ok}
use Rattle.std.specs.Prelude.{length, get_or}
use Rattle.words.specs.Prelude.{sym, ap, ◌∙◌}
use Rattle.words.specs.Prelude.{⊎_elim, eq-or-lt_of_le, add-zero, add-suc, one-mul, pow-suc, zero-div, div-lt_iff_lt-mul, div-div-eq-div-mul, mul_comm}
use Rattle.words.specs.Prelude.{add-one, arith, lt-ltb, le-ltb, eq-eqb, ne_eqb, eqb-true, eqb-false, List·get_or-append}
use Rattle.words.specs.Prelude.{List·get_or-eq_default, pow-add, pow_pos, get_or_at}
use Rattle.words.specs.{Limits.row_words, declared.refusal.Refusal.Refusal}
use Rattle.floats.specs.{Floats.finite, Floats.float_of}
use Rattle.table.specs.{Bytes.u64}
use Rattle.records.specs.{Bar.candle_of, Bar.funding_of}
use Rattle.engine.specs.{Record.listed, Laws.Lengths.listed_long}
use Rattle.refusals.specs.{Bar.bit_fine, Bar.slot_fine, Bar.every}
use Rattle.refusals.specs.{Bar.slots_fine, Bar.candle_fine, Bar.bar_lines, Lines.judged}
use Rattle.images.specs.{Reading.words_at, Refused.is_fine, Refused.absent_zero, Refused.row_fine}

-- a present slot is finite, the word of an absent one 0
abbrev pub slot_plain : ℕ → ℕ → ℕ → Bool
slot_plain mask k w = cond (eqb (mask / 2 ^ k % 2) 1) (finite (float_of w)) (eqb w 0)

-- ---- of each number below n

and_all : (b : Bool) → (b && true) ≡ b
and_all true = refl
and_all false = refl

and_none : (b : Bool) → (b && false) ≡ false
and_none true = refl
and_none false = refl

and_assoc : (a b c : Bool) → (a && (b && c)) ≡ (a && b && c)
and_assoc true b c = refl
and_assoc false b c = refl

-- two tests of each are one
and_pairs : (a b c d : Bool) → ((a && c) && (b && d)) ≡ ((a && b) && (c && d))
and_pairs false b c d = refl
and_pairs true b true d = refl
and_pairs true true false d = refl
and_pairs true false false d = refl

every_both : (f g h : ℕ → Bool) (n : ℕ) → ((k : ℕ) → k < n → (f k && g k) ≡ h k) → (every n f && every n g) ≡ every n h
unfolding every
every_both f g h zero e = refl
every_both f g h (suc n) e =
    and_pairs (every n f) (every n g) (f n) (g n)
    ∙ ap (λ (b : Bool). b && (f n && g n)) (every_both f g h n (λ k l. e k (omega arith)))
    ∙ ap (λ (b : Bool). every n h && b) (e n (omega arith))

-- those below K, and those from K on
every_split : (f : ℕ → Bool) (K n : ℕ) → every (K + n) f ≡ (every K f && every n (λ j. f (K + j)))
unfolding every
every_split f K zero = rw (add-zero K) (sym (and_all (every K f)))
every_split f K (suc n) =
    rw (add-suc K n) (ap (λ (b : Bool). b && f (K + n)) (every_split f K n) ∙ sym (and_assoc (every K f) (every n (λ j. f (K + j))) (f (K + n))))

every_as : (f g : ℕ → Bool) (n : ℕ) → ((k : ℕ) → k < n → f k ≡ g k) → every n f ≡ every n g
unfolding every
every_as f g zero e = refl
every_as f g (suc n) e = rw (every_as f g n (λ k l. e k (omega arith)), e n (omega arith))

-- one number more
pub every_next : (f : ℕ → Bool) (n : ℕ) {a b : Bool} → a ≡ every n f → b ≡ f n → (a && b) ≡ every (n + 1) f
unfolding every
every_next f n e h = rw (e, h, add-one n)

-- ---- bits

abbrev unset : ℕ → ℕ → Bool
unset left j = cond (eqb (left / 2 ^ j % 2) 1) false true

-- the highest bit that there may be
top_bit : (left p : ℕ) → 0 < p → left < p * 2 → (left / p % 2 ≡ 1 → ⊥) → left < p
top_bit left p some l no_bit =
    let two : left / p < 2 = (div-lt_iff_lt-mul {k = p} some).1 (rw (mul_comm 2 p) l) in
    let none : left / p < 1 = omega arith in
    rw (one-mul p) at ((div-lt_iff_lt-mul {k = p} some).0 none)

-- 0 has none
no_bit : (n : ℕ) → 0 / 2 ^ n % 2 ≡ 1 → ⊥
no_bit n e = let z : 0 / 2 ^ n ≡ 0 = zero-div (2 ^ n) in omega arith

-- a number of n bits with none set is 0, and no other is
bits_unset : (n left : ℕ) → left < 2 ^ n → every n (unset left) ≡ eqb left 0
unfolding every
bits_unset zero left l = sym (eq-eqb left 0 (omega arith))
bits_unset (suc n) left l = go (eqb (left / 2 ^ n % 2) 1) refl (λ k. bits_unset n left k)
  where
    go : (b : Bool) → eqb (left / 2 ^ n % 2) 1 ≡ b → (left < 2 ^ n → every n (unset left) ≡ eqb left 0)
        → (every n (unset left) && cond b false true) ≡ eqb left 0
    go true e below = and_none (every n (unset left)) ∙ sym (ne_eqb left 0 (λ z. no_bit n (ap (λ (m : ℕ). m / 2 ^ n % 2) (sym z) ∙ eqb-true _ _ e)))
    go false e below =
        and_all (every n (unset left)) ∙ below (top_bit left (2 ^ n) (pow_pos n) (rw (← (pow-suc 2 n)) l) (eqb-false _ _ e))

-- ---- the row

and_turn : (a z b : Bool) → ((a && z) && b) ≡ (z && (a && b))
and_turn true true b = refl
and_turn true false b = refl
and_turn false true b = refl
and_turn false false b = refl

-- of a slot below K: 11, and that an absent one's word is 0
both_tests : (b f z : Bool) → (cond b f true && (b || z)) ≡ cond b f z
both_tests true f z = and_all f
both_tests false f z = refl

-- two lines of 11, and one that holds
by_lines : (a b : Bool) (r : Refusal) → is_fine (cond a (cond b (Ok tt) (Err r)) (Err r)) ≡ (a && b)
by_lines true true r = refl
by_lines true false r = refl
by_lines false b r = refl

module _ (K : ℕ) (row : List ℕ) where
  abbrev mask : ℕ
  mask = get_or row 6 0

  abbrev slot_word : ℕ → ℕ
  slot_word k = get_or row (7 + k) 0

  -- a bit at or above K has to be clear
  high_bit : (j : ℕ) → bit_fine K row (mask / 2 ^ (K + j)) (K + j) ≡ unset (mask / 2 ^ K) j
  unfolding bit_fine
  high_bit j =
      let late : ltb (K + j) K ≡ false = le-ltb (K + j) K (omega arith) in
      rw (late, pow-add 2 K j, ← (div-div-eq-div-mul mask (2 ^ K) (2 ^ j)))

  low_bit : (k : ℕ) → k < K → (bit_fine K row (mask / 2 ^ k) k && (eqb (mask / 2 ^ k % 2) 1 || eqb (slot_word k) 0)) ≡ slot_plain mask k (slot_word k)
  unfolding bit_fine
  low_bit k l = rw (lt-ltb k K l) (both_tests (eqb (mask / 2 ^ k % 2) 1) (finite (float_of (slot_word k))) (eqb (slot_word k) 0))

  module _ (few : K ≤ 64) (small : mask < 2 ^ 64) where
    above : mask / 2 ^ K < 2 ^ (64 - K)
    above =
        let whole : 64 ≡ 64 - K + K = omega arith in
        (div-lt_iff_lt-mul {k = 2 ^ K} (pow_pos K)).1 (rw (← (pow-add 2 (64 - K) K), ← whole) small)

    slots_judged : (slots_fine K row && absent_zero K row) ≡ (eqb (mask / 2 ^ K) 0 && every K (λ k. slot_plain mask k (slot_word k)))
    unfolding slots_fine absent_zero
    slots_judged =
        let f : ℕ → Bool = slot_fine K row in
        let absent : ℕ → Bool = λ k. eqb (mask / 2 ^ k % 2) 1 || eqb (slot_word k) 0 in
        let whole : 64 ≡ K + (64 - K) = omega arith in
        let high : every (64 - K) (λ j. f (K + j)) ≡ eqb (mask / 2 ^ K) 0 =
        every_as (λ j. f (K + j)) (unset (mask / 2 ^ K)) (64 - K) (λ j l. high_bit j) ∙ bits_unset (64 - K) (mask / 2 ^ K) above in
        let all : every 64 f ≡ (every K f && eqb (mask / 2 ^ K) 0) =
        ap (λ (n : ℕ). every n f) whole ∙ every_split f K (64 - K) ∙ ap (λ (b : Bool). every K f && b) high in
        ap (λ (b : Bool). b && every K absent) all ∙ and_turn (every K f) (eqb (mask / 2 ^ K) 0) (every K absent)
        ∙ ap (λ (b : Bool). eqb (mask / 2 ^ K) 0 && b) (every_both f absent (λ k. slot_plain mask k (slot_word k)) K low_bit)

    -- A ROW'S WORDS: no funding is behind its slots
    pub row_judged : length row ≡ 7 + K
        → row_fine K row ≡ (candle_fine (candle_of row) && (eqb (mask / 2 ^ K) 0 && every K (λ k. slot_plain mask k (slot_word k))))
    unfolding row_fine bar_lines judged funding_of
    row_judged long =
        let none : get_or row (7 + K) 0 ≡ 0 = List·get_or-eq_default row 0 (omega arith) in
        rw none
        (ap (λ (b : Bool). b && absent_zero K row) (by_lines (candle_fine (candle_of row)) (slots_fine K row) _)
        ∙ sym (and_assoc (candle_fine (candle_of row)) (slots_fine K row) (absent_zero K row))
        ∙ ap (λ (b : Bool). candle_fine (candle_of row) && b) slots_judged)

-- ---- of an image

listed_at : (n : ℕ) (f : ℕ → ℕ) (i : ℕ) → i < n → get_or (listed n f) i 0 ≡ f i
unfolding listed
listed_at zero f i l = absurd (omega arith)
listed_at (suc n) f i l = ⊎_elim
    (λ (h : i ≡ n). rw h (get_or_at (listed n f) (f n) [] 0 n (listed_long n f)))
    (λ (k : i < n). List·get_or-append (listed n f) (f n ∷ []) 0 i (omega (arith, listed_long n f)) ∙ listed_at n f i k)
    (eq-or-lt_of_le {n = i} {m = n} (omega arith))

module _ (x : List ℕ) (at K : ℕ) where
  -- the row's words are those that stand there
  word_read : (k : ℕ) → k < 7 + K → get_or (words_at x at (row_words K)) k 0 ≡ u64 x (at + 8 * k)
  unfolding words_at
  word_read k l = listed_at (7 + K) (λ j. u64 x (at + 8 * j)) k l

  candle_read : candle_fine (candle_of (words_at x at (row_words K)))
      ≡ (finite (float_of (u64 x (at + 8))) && finite (float_of (u64 x (at + 16))) && finite (float_of (u64 x (at + 24)))
      && finite (float_of (u64 x (at + 32))) && finite (float_of (u64 x (at + 40))))
  unfolding candle_of
  candle_read =
      rw (word_read 1 (omega arith), word_read 2 (omega arith), word_read 3 (omega arith), word_read 4 (omega arith), word_read 5 (omega arith))

  slot_read : (k : ℕ) → k < K → get_or (words_at x at (row_words K)) (7 + k) 0 ≡ u64 x (at + 56 + 8 * k)
  slot_read k l =
      let place : at + 8 * (7 + k) ≡ at + 56 + 8 * k = omega arith in
      word_read (7 + k) (omega arith) ∙ ap (u64 x) place

  -- THE ROW AT A PLACE: what is seen in the image's words is what its row is judged by
  pub row_read : K ≤ 64 → u64 x (at + 48) < 18446744073709551616 → {c f e : Bool}
      → c ≡ (finite (float_of (u64 x (at + 8))) && finite (float_of (u64 x (at + 16))) && finite (float_of (u64 x (at + 24)))
      && finite (float_of (u64 x (at + 32))) && finite (float_of (u64 x (at + 40))))
      → f ≡ eqb (u64 x (at + 48) / 2 ^ K) 0 → e ≡ every K (λ k. slot_plain (u64 x (at + 48)) k (u64 x (at + 56 + 8 * k)))
      → (c && f && e) ≡ row_fine K (words_at x at (row_words K))
  row_read few small {c} {f} {e} candle fits slots =
      let row = words_at x at (row_words K) in
      let long : length row ≡ 7 + K = unfold words_at in listed_long (7 + K) _ in
      let m : get_or row 6 0 ≡ u64 x (at + 48) = word_read 6 (omega arith) in
      let all : every K (λ k. slot_plain (get_or row 6 0) k (get_or row (7 + k) 0)) ≡ every K (λ k. slot_plain (u64 x (at + 48)) k (u64 x (at + 56 + 8 * k))) =
      every_as _ _ K (λ k l. ap (λ (w : ℕ). slot_plain (get_or row 6 0) k w) (slot_read k l) ∙ ap (λ (w : ℕ). slot_plain w k (u64 x (at + 56 + 8 * k))) m) in
      sym
      (row_judged K row few (rw m small) long
      ∙ ap (λ (b : Bool). b && (eqb (get_or row 6 0 / 2 ^ K) 0 && every K (λ k. slot_plain (get_or row 6 0) k (get_or row (7 + k) 0)))) (candle_read ∙ sym candle)
      ∙ ap (λ (b : Bool). c && (eqb (get_or row 6 0 / 2 ^ K) 0 && b)) (all ∙ sym slots)
      ∙ ap (λ (w : ℕ). c && (eqb (w / 2 ^ K) 0 && e)) m
      ∙ ap (λ (b : Bool). c && (b && e)) (sym fits)
      ∙ and_assoc c f e)
