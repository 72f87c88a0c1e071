-- A step as two words: its constant, and its head, one number whose digits are the other fields. Which heads tell that a step is good.
use Rattle.words.specs.Prelude.{ℕ, ◌+◌, ◌*◌, ◌/◌, ◌%◌, ◌≤◌, ◌<◌, ◌≡◌, refl, Bool, true, false, List, arith, get_or, ltb, lt-ltb, le-leb, ltb-true, ltb-false}
use Rattle.table.specs.{Bytes.u16, Bytes.u32, Bytes.u64}
use Rattle.steps.specs.{Bytes.is_comparison, Bytes.is_test_step, Bytes.fields, Bytes.of_words, Bytes.read_step, Bytes.step_at}
use Rattle.steps.specs.{Bytes.steps_in, Laws.Classes.test_in, Laws.Classes.test_rest, Laws.Classes.says_compare, Laws.Classes.says_cross}
use Rattle.steps.specs.{Laws.Classes.says_between, WellFormed.zeros, WellFormed.unused_fields_zero, WellFormed.bounded, WellFormed.good_step}
use Rattle.steps.proofs.{Said.says_const, Said.says_ref, Said.says_price, Said.says_jump}

-- ---- the words and the fields

-- A head splits into the fields that it is the sum of.
digits : (k s skip n bits : ℕ) → k < 256 → s < 256 → skip < 65536 → (head : ℕ) → head ≡ k + 256 * s + 65536 * skip + 4294967296 * n
    → fields k s skip n bits ≡ of_words head bits
digits k s skip n bits lk ls lskip head e =
    let past-kind : head / 256 ≡ s + 256 * skip + 16777216 * n = omega arith in
    let past-selector : head / 65536 ≡ skip + 65536 * n = omega arith in
    let is-k : head % 256 ≡ k = omega arith in
    let is-s : head / 256 % 256 ≡ s = rw past-kind (omega arith) in
    let is-skip : head / 65536 % 65536 ≡ skip = rw past-selector (omega arith) in
    let is-n : head / 4294967296 ≡ n = omega arith in
    rw (is-k, is-s, is-skip, is-n)

-- The step that is read from bytes is that of the two words there.
pub of_words_lem : (bs : List ℕ) (at : ℕ) → ((i : ℕ) → get_or bs i 0 < 256) → read_step bs at ≡ of_words (u64 bs at) (u64 bs (at + 8))
unfolding read_step u64 u32 u16
of_words_lem bs at below =
    digits (get_or bs at 0) (get_or bs (at + 1) 0) (u16 bs (at + 2)) (u32 bs (at + 4)) (u64 bs (at + 8)) (below at) (below (at + 1))
    (omega (arith, below (at + 2), below (at + 2 + 1))) (u64 bs at) (omega arith)

-- What is told of the two words is told of the step there.
pub told_there : (bs : List ℕ) (at : ℕ) → ((i : ℕ) → get_or bs i 0 < 256) → (head bits : ℕ) → head ≡ u64 bs at → bits ≡ u64 bs (at + 8)
    → (K D after : ℕ) → good_step K D after (of_words head bits) ≡ true → good_step K D after (read_step bs at) ≡ true
told_there bs at below head bits is const K D after good = rw (of_words_lem bs at below, ← is, ← const, good)

-- A head below 65,536 has a kind and a selector alone.
pub near : (bs : List ℕ) (p head : ℕ) → ((i : ℕ) → get_or bs i 0 < 256) → p < steps_in bs → head ≡ u64 bs (16 * p) → head < 65536
    → fields (head % 256) (head / 256) 0 0 (u64 bs (16 * p + 8)) ≡ step_at bs p
unfolding step_at
near bs p head below l is small =
    let selector : head / 256 % 256 ≡ head / 256 = omega arith in
    let skip : head / 65536 % 65536 ≡ 0 = omega arith in
    let n : head / 4294967296 ≡ 0 = omega arith in
    rw (lt-ltb p (steps_in bs) l, of_words_lem bs (16 * p) below, ← is, selector, skip, n)

-- ---- good steps, by their fields

module _ (K D after : ℕ) where
  -- a constant within the window
  constant : (n bits : ℕ) → n < D → good_step K D after (fields 1 0 0 n bits) ≡ true
  unfolding good_step unused_fields_zero bounded zeros
  constant n bits l = rw (says_const (fields 1 0 0 n bits) refl, lt-ltb n D l)

  -- a comparison, a cross or Between, by the two tests that tell which
  test : (k : ℕ) → is_test_step k ≡ true → (t u : Bool) → is_comparison k ≡ t → ltb k 24 ≡ u → good_step K D after (fields k 0 0 0 0) ≡ true
  unfolding good_step unused_fields_zero bounded zeros
  test k is true u e f = rw (says_compare (fields k 0 0 0 0) e)
  test k is false true e f = rw (says_cross (fields k 0 0 0 0) (test_rest k is e).0 (ltb-true k 24 f))
  test k is false false e f =
      let between : k ≡ 24 = omega (arith, (test_rest k is e).1, ltb-false k 24 f) in
      rw (says_between (fields k 0 0 0 0) between)

  -- a price within the window
  price : (p n : ℕ) → n < D → good_step K D after (fields 3 p 0 n 0) ≡ true
  unfolding good_step unused_fields_zero bounded zeros
  price p n l = rw (says_price (fields 3 p 0 n 0) refl, lt-ltb n D l)

  -- a slot that the rows have, within the window
  slot : (k n : ℕ) → k < K → n < D → good_step K D after (fields 2 k 0 n 0) ≡ true
  unfolding good_step unused_fields_zero bounded zeros
  slot k n few l = rw (says_ref (fields 2 k 0 n 0) refl, lt-ltb k K few, lt-ltb n D l)

  -- a jump that lands in the list or just past it
  jump : (k skip : ℕ) → 32 ≤ k → k < 34 → skip ≤ after → good_step K D after (fields k 0 skip 0 0) ≡ true
  unfolding good_step unused_fields_zero bounded zeros
  jump k skip lo hi l = rw (says_jump (fields k 0 skip 0 0) lo hi, le-leb skip after l)

-- ---- good steps, by their words

module _ (K D after head : ℕ) where
  -- All of the head below its n is 1: a constant, selector and skip zero.
  pub constant_told : (bits : ℕ) → head % 4294967296 ≡ 1 → head / 4294967296 < D → good_step K D after (of_words head bits) ≡ true
  constant_told bits e l =
      let n : ℕ = head / 4294967296 in
      rw (← digits 1 0 0 n bits (omega arith) (omega arith) (omega arith) head (omega arith)) (constant K D after n bits l)

  -- The whole head is a kind: the other fields are zero.
  pub test_told : is_test_step head ≡ true → good_step K D after (of_words head 0) ≡ true
  test_told is =
      rw (← digits head 0 0 0 0 (omega (arith, (test_in head is).1)) (omega arith) (omega arith) head (omega arith))
      (test K D after head is (is_comparison head) (ltb head 24) refl refl)

  -- A price's kind, and a skip of zero.
  pub price_told : head % 256 ≡ 3 → head / 65536 % 65536 ≡ 0 → head / 4294967296 < D → good_step K D after (of_words head 0) ≡ true
  price_told e f l = rw (e, f) (price K D after (head / 256 % 256) (head / 4294967296) l)

  -- A slot's kind, a selector below K, and a skip of zero.
  pub slot_told : head % 256 ≡ 2 → head / 65536 % 65536 ≡ 0 → head / 256 % 256 < K → head / 4294967296 < D → good_step K D after (of_words head 0) ≡ true
  slot_told e f few l = rw (e, f) (slot K D after (head / 256 % 256) (head / 4294967296) few l)

  -- A jump's kind with selector zero; the rest of the head is at most `after`, so that it is all skip.
  pub jump_told : after < 65536 → 32 ≤ head % 65536 → head % 65536 < 34 → head / 65536 ≤ after → good_step K D after (of_words head 0) ≡ true
  jump_told few lo hi l =
      let k : ℕ = head % 65536 in
      let skip : ℕ = head / 65536 in
      rw (← digits k 0 skip 0 0 (omega arith) (omega arith) (omega arith) head (omega arith)) (jump K D after k skip lo hi l)
