-- A bar that 11 accepts for the stream's slots is, cut to an account's, one that 11 accepts for fewer.
use Rattle.std.specs.Prelude.{ℕ, zero, suc, ◌+◌, ◌-◌, ◌/◌, ◌%◌, ◌^◌, ◌<◌, ◌≤◌, ◌≡◌, refl, Bool, true, false, cond, List, [], ◌∷◌, ◌++◌, ltb, length, take, Ok}
use Rattle.std.specs.Prelude.{drop}
use Rattle.words.specs.Prelude.{sym, ap, ◌∙◌, ⊎_elim}
use Rattle.words.specs.Prelude.{div-eq_of_lt, mod-lt, lt_of_lt_of_le, arith, lt-ltb, length-append, length-drop, List·get_or-append}
use Rattle.words.specs.Prelude.{pow_mono, pow_pos, get_or-take, get_or-drop, get_or-append-add, get_or-append_seam, length-take-le}
use Rattle.words.specs.{Laws.Numbers.less_or_not, Limits.bar_words, Limits.most_slots, Words.word}
use Rattle.records.specs.{Bar.candle_of, Bar.funding_of}
use Rattle.refusals.specs.{Bar.bit_fine, Bar.slot_fine, Bar.every, Bar.slots_fine, Bar.candle_fine, Bar.funding_fine}
use Rattle.refusals.specs.{Bar.bar_lines, Laws.Lines.and_true, Laws.Lines.first_holds, Lines.line, Lines.judged}
use Rattle.accounts.specs.{Own.low_bits, Own.own_bar}
use Rattle.words.specs.declared.refusal.Refusal.TheVariants as Refusal
use Rattle.std.proofs.Math.Pow.{field, mod-mod-pow}

-- what is so of each number below n is so of k
every_each : (f : ℕ → Bool) (n k : ℕ) → k < n → every n f ≡ true → f k ≡ true
unfolding every
every_each f zero k h e = absurd (omega arith)
every_each f (suc n) k h e =
    ⊎_elim (λ (l : k < n). every_each f n k l (and_true (every n f) (f n) e).0)
    (λ (l : n ≤ k). let same : k ≡ n = omega arith in rw same (and_true (every n f) (f n) e).1) (less_or_not k n)

each_every : (f : ℕ → Bool) (n : ℕ) → ((k : ℕ) → k < n → f k ≡ true) → every n f ≡ true
unfolding every
each_every f zero g = refl
each_every f (suc n) g = rw (each_every f n (λ k h. g k (omega arith)), g n (omega arith))

-- three lines that hold are fine
three_hold : (a b c : Bool) (seen : ℕ) → a ≡ true → b ≡ true → c ≡ true
    → judged (line a (Refusal.Bar seen) ∷ line b (Refusal.Bar seen) ∷ line c (Refusal.Bar seen) ∷ []) ≡ Ok tt
unfolding judged
three_hold a b c seen p q r = rw (p, q, r)

-- the place is not looked at
pub fine_anywhere : (S : ℕ) (bar : List ℕ) (seen seen' : ℕ) → judged (bar_lines S bar seen) ≡ Ok tt → judged (bar_lines S bar seen') ≡ Ok tt
unfolding bar_lines
fine_anywhere S bar seen seen' h =
    let candle = first_holds _ _ h in
    let slots = first_holds _ _ candle.1 in
    three_hold _ _ _ seen' candle.0 slots.0 (first_holds _ _ slots.1).0

-- ---- the words of an account's own bar

module _ (S K : ℕ) (bar : List ℕ) (whole : length bar ≡ bar_words S) (few : K ≤ S) where
  abbrev head : List ℕ
  head = take 6 bar ++ (low_bits K (word bar 6) ∷ [])

  prices_long : length (take 6 bar) ≡ 6
  prices_long = length-take-le 6 bar (omega arith)

  head_long : length head ≡ 7
  head_long = rw (length-append, prices_long)

  row_long : length (head ++ take K (drop 7 bar)) ≡ 7 + K
  row_long = rw (length-append, head_long, length-take-le K (drop 7 bar) (simp length-drop (omega arith)))

  -- time, prices and volume
  own_price : (i : ℕ) → i < 6 → word (own_bar S K bar) i ≡ word bar i
  unfolding own_bar
  own_price i h =
      List·get_or-append (head ++ take K (drop 7 bar)) _ 0 i (omega (arith, row_long))
      ∙ (List·get_or-append head _ 0 i (omega (arith, head_long))
      ∙ (List·get_or-append (take 6 bar) _ 0 i (omega (arith, prices_long)) ∙ get_or-take 6 bar i 0 h))

  own_mask : word (own_bar S K bar) 6 ≡ low_bits K (word bar 6)
  unfolding own_bar
  own_mask =
      List·get_or-append (head ++ take K (drop 7 bar)) _ 0 6 (omega (arith, row_long))
      ∙ (List·get_or-append head _ 0 6 (omega (arith, head_long))
      ∙ (ap (λ (n : ℕ). word head n) (sym prices_long) ∙ get_or-append_seam (take 6 bar) (low_bits K (word bar 6)) [] 0))

  own_slot : (k : ℕ) → k < K → word (own_bar S K bar) (7 + k) ≡ word bar (7 + k)
  unfolding own_bar
  own_slot k h =
      List·get_or-append (head ++ take K (drop 7 bar)) _ 0 (7 + k) (omega (arith, row_long))
      ∙ (ap (λ (n : ℕ). word (head ++ take K (drop 7 bar)) (n + k)) (sym head_long)
      ∙ (get_or-append-add head (take K (drop 7 bar)) k 0 ∙ (get_or-take K (drop 7 bar) k 0 h ∙ get_or-drop 7 bar k 0)))

  own_funding : (j : ℕ) → word (own_bar S K bar) (7 + K + j) ≡ word bar (7 + S + j)
  unfolding own_bar
  own_funding j =
      ap (λ (n : ℕ). word (head ++ take K (drop 7 bar) ++ drop (7 + S) bar) (n + j)) (sym row_long)
      ∙ (get_or-append-add (head ++ take K (drop 7 bar)) (drop (7 + S) bar) j 0 ∙ get_or-drop (7 + S) bar j 0)

  -- ---- what 11 looks at

  own_candle : candle_of (own_bar S K bar) ≡ candle_of bar
  unfolding candle_of
  own_candle =
      rw (
        own_price 0 (omega arith),
        own_price 1 (omega arith),
        own_price 2 (omega arith),
        own_price 3 (omega arith),
        own_price 4 (omega arith),
        own_price 5 (omega arith),
      )

  own_paid : funding_of K (own_bar S K bar) ≡ funding_of S bar
  unfolding funding_of
  own_paid =
      let at : (K : ℕ) → (7 + K ≡ 7 + K + 0) × (8 + K ≡ 7 + K + 1) × (9 + K ≡ 7 + K + 2) = λ K. (omega arith, omega arith, omega arith) in
      rw ((at K).0, (at K).1, (at K).2, (at S).0, (at S).1, (at S).2, own_funding 0, own_funding 1, own_funding 2)

  -- a bit below K is the stream's
  low_bit : (k : ℕ) → k < K → low_bits K (word bar 6) / 2 ^ k % 2 ≡ word bar 6 / 2 ^ k % 2
  unfolding low_bits
  low_bit k h = go (ltb K most_slots)
    where
      cut : word bar 6 % 2 ^ K / 2 ^ k % 2 ≡ word bar 6 / 2 ^ k % 2
      cut =
          let split : K ≡ K - k + k = omega arith in
          let one : K - k ≡ K - k - 1 + 1 = omega arith in
          ap (λ (n : ℕ). word bar 6 % 2 ^ n / 2 ^ k % 2) split
          ∙ (ap (λ (n : ℕ). n % 2) (field (word bar 6) (K - k) k)
          ∙ (ap (λ (n : ℕ). word bar 6 / 2 ^ k % 2 ^ n % 2) one ∙ mod-mod-pow (word bar 6 / 2 ^ k) (K - k - 1) 1))

      go : (b : Bool) → cond b (word bar 6 % 2 ^ K) (word bar 6) / 2 ^ k % 2 ≡ word bar 6 / 2 ^ k % 2
      go true = cut
      go false = refl

  -- and there is none from K on
  no_bit : (k : ℕ) → K ≤ k → k < most_slots → low_bits K (word bar 6) / 2 ^ k ≡ 0
  unfolding low_bits
  no_bit k far h =
      rw (lt-ltb K most_slots (omega arith)) (div-eq_of_lt (lt_of_lt_of_le (mod-lt (word bar 6) (pow_pos K)) (pow_mono far)))

  own_bit : (k : ℕ) → k < most_slots → slot_fine S bar k ≡ true → slot_fine K (own_bar S K bar) k ≡ true
  unfolding bit_fine
  own_bit k h fine =
      ⊎_elim (λ (near : k < K). rw (own_mask, low_bit k near, lt-ltb k K near, own_slot k near) (rw (lt-ltb k S (omega arith)) at fine))
      (λ (far : K ≤ k). rw (own_mask, no_bit k far h)) (less_or_not k K)

  -- THE OWN PART OF A FINE BAR IS FINE, whatever the bars seen
  pub own_fine : (seen seen' : ℕ) → judged (bar_lines S bar seen) ≡ Ok tt → judged (bar_lines K (own_bar S K bar) seen') ≡ Ok tt
  unfolding bar_lines slots_fine
  own_fine seen seen' h =
      let candle : candle_fine (candle_of bar) ≡ true = (first_holds _ _ h).0 in
      let slots : every most_slots (slot_fine S bar) ≡ true = (first_holds _ _ (first_holds _ _ h).1).0 in
      let funding : funding_fine (funding_of S bar) ≡ true = (first_holds _ _ (first_holds _ _ (first_holds _ _ h).1).1).0 in
      let own : every most_slots (slot_fine K (own_bar S K bar)) ≡ true =
      each_every (slot_fine K (own_bar S K bar)) most_slots
      (λ k small. own_bit k small (every_each (slot_fine S bar) most_slots k small slots)) in
      three_hold _ _ _ seen' (rw own_candle candle) own (rw own_paid funding)
