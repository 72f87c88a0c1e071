-- What appending alone leaves, and that a question over it gives what reading every close gives. Assumes nothing.
use Rattle.std.specs.Prelude.{ℕ, zero, suc, ◌+◌, ◌-◌, ◌*◌, ◌/◌, ◌%◌, ◌<◌, ◌≤◌, min, ◌≡◌, refl, Bool, true, false, cond, List, eqb, get_or, set, length}
use Rattle.words.specs.Prelude.{sym, ap, subst, ◌∙◌, add-zero}
use Rattle.words.specs.Prelude.{zero-add, add-suc, lt_irrefl, not-suc-le-zero, ℕ_discrete, arith, eqb-true, eqb-false, lt_of_le-ne}
use Rattle.words.specs.Prelude.{length-set, get_or-set_same, get_or-set_other}
use Rattle.blocks.specs.{declared.best.Best.Best, Reading.one, Reading.join, Reading.reading, Reading.Number, Blocks.block_bars, Blocks.block, Blocks.put}
use Rattle.blocks.specs.{Blocks.grown, Blocks.with_closes, Blocks.with_blocks, Reads.reads, Reads.front, Reads.begins_block}
use Rattle.blocks.specs.{Reads.best, Reads.onto, Reads.told, Laws.Joining.same, Laws.Joining.reading_on, Laws.Reads.block_begins, Laws.Reads.block_fits}
use Rattle.blocks.specs.{Laws.Reads.reads-block, Laws.Reads.reads_close, Laws.Reads.onto-reads}

-- every close is a number, and every block is what reading its bars gives, the last one as far as there are bars
pub record BlocksKept (held : ℕ) (closes blocks : List ℕ) : Type 0 where
  pub numbers : (i : ℕ) → i < held → Number (get_or closes i 0)
  pub blocked : (j : ℕ) → block_bars * j < held → block blocks j ≡ reading closes (block_bars * j) (min 63 (held - 1 - block_bars * j))

-- ---- a question

reading-one : (closes : List ℕ) (first : ℕ) → reading closes first 0 ≡ one (get_or closes first 0) first
unfolding reading
reading-one closes first = refl

-- single bars go on with a reading
closes_on : (closes : List ℕ) (first k n : ℕ) → with_closes closes (reading closes first k) (first + suc k) n ≡ reading closes first (k + n)
unfolding with_closes reading
closes_on closes first k zero = ap (reading closes first) (sym (add-zero k))
closes_on closes first k (suc n) =
    ap (λ (x : Best). join x (one (get_or closes (first + suc k + n) 0) (first + suc k + n))) (closes_on closes first k n)
    ∙ ap (λ (i : ℕ). join (reading closes first (k + n)) (one (get_or closes i 0) i)) (turn first k n) ∙ sym (ap (reading closes first) (add-suc k n))
  where
    turn : (x y z : ℕ) → x + suc y + z ≡ x + suc (y + z)
    turn x y z = omega arith

module _ (held : ℕ) (closes blocks : List ℕ) (kept : BlocksKept held closes blocks) where
  full_block : (j : ℕ) → 64 * j + 63 < held → block blocks j ≡ reading closes (64 * j) 63
  full_block j h =
      let all : min 63 (held - 1 - 64 * j) ≡ 63 = omega arith in
      kept.blocked j (omega arith) ∙ ap (reading closes (64 * j)) all

  -- whole blocks go on with a reading
  blocks_on : (first k j n : ℕ) → (0 < n → 64 * j ≡ first + suc k) → first + suc k + 64 * n ≤ held
      → with_blocks blocks (reading closes first k) j n ≡ reading closes first (k + 64 * n)
  unfolding with_blocks
  blocks_on first k j zero at h = ap (reading closes first) (sym (add-zero k))
  blocks_on first k j (suc n) at h =
      let here : 64 * j ≡ first + suc k = at (omega arith) in
      let start : 64 * (j + n) ≡ first + suc (k + 64 * n) = omega arith in
      ap (λ (x : Best). join x (block blocks (j + n))) (blocks_on first k j n (λ p. here) (omega arith))
      ∙ ap (join (reading closes first (k + 64 * n))) (full_block (j + n) (omega arith) ∙ ap (λ (i : ℕ). reading closes i 63) start)
      ∙ reading_on closes held kept.numbers first (k + 64 * n) 63 (omega arith) ∙ ap (reading closes first) (last k n)
    where
      last : (x y : ℕ) → x + 64 * y + 64 ≡ x + 64 * suc y
      last x y = omega arith

  -- all that is read after a reading goes on with it
  reads_on : (first k n : ℕ) → first + suc k + n ≤ held → onto closes blocks (reading closes first k) (reads (first + suc k) n) ≡ reading closes first (k + n)
  reads_on first k n h =
      let bar = first + suc k in
      let f = front bar n in
      let m = (n - f) / 64 in
      let end = bar + f + 64 * m in
      let r = bar + n - end in
      let most : f ≤ n = omega arith in
      let near : 64 * m ≤ n - f = omega arith in
      onto-reads closes blocks (reading closes first k) bar n
      ∙ ap (λ (x : Best). with_closes closes (with_blocks blocks x ((bar + f) / 64) m) end r) (closes_on closes first k f)
      ∙ ap (λ (x : Best). with_closes closes x end r) (blocks_on first (k + f) ((bar + f) / 64) m (aligned first k n) (fits first k n f (64 * m) h most near))
      ∙ ap (λ (i : ℕ). with_closes closes (reading closes first (k + f + 64 * m)) i r) (place first k f (64 * m))
      ∙ closes_on closes first (k + f + 64 * m) r ∙ ap (reading closes first) (count first k n f (64 * m) most near)
    where
      aligned : (x k n : ℕ) → 0 < (n - front (x + suc k) n) / 64
          → 64 * ((x + suc k + front (x + suc k) n) / 64) ≡ x + suc (k + front (x + suc k) n)
      aligned x k n some = omega arith

      fits : (x k n f c : ℕ) → x + suc k + n ≤ held → f ≤ n → c ≤ n - f → x + suc (k + f) + c ≤ held
      fits x k n f c l s t = omega arith

      place : (x k f c : ℕ) → x + suc k + f + c ≡ x + suc (k + f + c)
      place x k f c = omega arith

      count : (x k n f c : ℕ) → f ≤ n → c ≤ n - f → k + f + c + (x + suc k + n - (x + suc k + f + c)) ≡ k + n
      count x k n f c s t = omega arith

  -- A QUESTION GIVES WHAT READING EVERY CLOSE GIVES: over bar `first` and the n after it.
  pub told_is : (first n : ℕ) → first + suc n ≤ held → told closes blocks (reads first (suc n)) ≡ reading closes first n
  unfolding told best
  told_is first n h = go (begins_block first (suc n)) refl
    where
      go : (t : Bool) → begins_block first (suc n) ≡ t → told closes blocks (reads first (suc n)) ≡ reading closes first n
      go true e =
          let begins = block_begins first (suc n) e in
          let fits = block_fits first (suc n) e in
          let here : 64 * (first / 64) ≡ first = omega arith in
          let all : 63 + (suc n - 64) ≡ n = omega arith in
          ap (told closes blocks) (reads-block first (suc n) e)
          ∙ ap (λ (x : Best). onto closes blocks x (reads (first + 64) (suc n - 64)))
          (full_block (first / 64) (omega arith) ∙ ap (λ (i : ℕ). reading closes i 63) here)
          ∙ reads_on first 63 (suc n - 64) (omega arith) ∙ ap (reading closes first) all
      go false e =
          let rest : suc n - 1 ≡ n = omega arith in
          ap (told closes blocks) (reads_close first (suc n) (omega arith) e)
          ∙ ap (λ (x : Best). onto closes blocks x (reads (first + 1) (suc n - 1))) (sym (reading-one closes first))
          ∙ ap (λ (m : ℕ). onto closes blocks (reading closes first 0) (reads (first + 1) m)) rest
          ∙ reads_on first 0 n (omega arith) ∙ ap (reading closes first) (zero-add n)

-- ---- appending

-- closes from bar `held` on do not matter to a reading below it
reading_below : (closes : List ℕ) (held w first n : ℕ) → first + n < held → reading (set closes held w) first n ≡ reading closes first n
unfolding reading
reading_below closes held w first zero h =
    ap (λ (c : ℕ). one c first) (get_or-set_other closes held first w 0 (λ (e : first ≡ held). lt_irrefl held (omega arith)))
reading_below closes held w first (suc n) h =
    ap (λ (x : Best). join x (one (get_or (set closes held w) (first + suc n) 0) (first + suc n))) (reading_below closes held w first n (omega arith))
    ∙ ap (λ (c : ℕ). join (reading closes first n) (one c (first + suc n)))
    (get_or-set_other closes held (first + suc n) w 0 (λ (e : first + suc n ≡ held). lt_irrefl held (omega arith)))

module _ (blocks : List ℕ) (j : ℕ) (b : Best) where
  one_set : List ℕ
  one_set = set blocks (4 * j) b.high

  two_set : List ℕ
  unfolding one_set
  two_set = set one_set (4 * j + 1) b.high_bar

  three_set : List ℕ
  unfolding two_set
  three_set = set two_set (4 * j + 2) b.low

  -- the block that was written ..
  put_same : 4 * j + 4 ≤ length blocks → block (put blocks j b) j ≡ b
  unfolding one_set two_set three_set
  put_same h =
      same
      (get_or-set_other three_set (4 * j + 3) (4 * j) _ 0 (λ e. omega arith) ∙ get_or-set_other two_set (4 * j + 2) (4 * j) _ 0 (λ e. omega arith)
      ∙ get_or-set_other one_set (4 * j + 1) (4 * j) _ 0 (λ e. omega arith) ∙ get_or-set_same blocks (4 * j) _ 0 (omega arith))
      (get_or-set_other three_set (4 * j + 3) (4 * j + 1) _ 0 (λ e. omega arith) ∙ get_or-set_other two_set (4 * j + 2) (4 * j + 1) _ 0 (λ e. omega arith)
      ∙ get_or-set_same one_set (4 * j + 1) _ 0 (long_one h))
      (get_or-set_other three_set (4 * j + 3) (4 * j + 2) _ 0 (λ e. omega arith) ∙ get_or-set_same two_set (4 * j + 2) _ 0 (long_two h))
      (get_or-set_same three_set (4 * j + 3) _ 0 (long_three h))
    where
      long_one : 4 * j + 4 ≤ length blocks → 4 * j + 1 < length one_set
      long_one h = simp length-set (omega arith)

      long_two : 4 * j + 4 ≤ length blocks → 4 * j + 2 < length two_set
      long_two h = simp length-set (omega arith)

      long_three : 4 * j + 4 ≤ length blocks → 4 * j + 3 < length three_set
      long_three h = simp length-set (omega arith)

  -- .. and every other
  word_other : (x : ℕ) → (x / 4 ≡ j → ⊥) → get_or (put blocks j b) x 0 ≡ get_or blocks x 0
  unfolding one_set two_set three_set
  word_other x n =
      get_or-set_other three_set (4 * j + 3) x _ 0 (λ e. n (omega arith)) ∙ get_or-set_other two_set (4 * j + 2) x _ 0 (λ e. n (omega arith))
      ∙ get_or-set_other one_set (4 * j + 1) x _ 0 (λ e. n (omega arith)) ∙ get_or-set_other blocks (4 * j) x _ 0 (λ e. n (omega arith))

  put_other : (i : ℕ) → (i ≡ j → ⊥) → block (put blocks j b) i ≡ block blocks i
  put_other i n =
      same (word_other (4 * i) (λ e. n (omega arith))) (word_other (4 * i + 1) (λ e. n (omega arith)))
      (word_other (4 * i + 2) (λ e. n (omega arith))) (word_other (4 * i + 3) (λ e. n (omega arith)))

-- the block of bar `held` with it is what reading its bars gives
grown_is : (held : ℕ) (closes blocks : List ℕ) (w : ℕ) → BlocksKept held closes blocks → held < length closes
    → grown blocks held w ≡ reading (set closes held w) (64 * (held / 64)) (held - 64 * (held / 64))
unfolding grown reading
grown_is held closes blocks w kept fits = go (eqb (held % 64) 0) refl
  where
    here : get_or (set closes held w) held 0 ≡ w
    here = get_or-set_same closes held w 0 fits

    go : (t : Bool) → eqb (held % 64) 0 ≡ t → cond t (one w held) (join (block blocks (held / 64)) (one w held))
        ≡ reading (set closes held w) (64 * (held / 64)) (held - 64 * (held / 64))
    go true e =
        let none : held % 64 ≡ 0 = eqb-true _ _ e in
        let start : 64 * (held / 64) ≡ held = omega arith in
        let first : held - 64 * (held / 64) ≡ 0 = omega arith in
        sym (ap (reading (set closes held w) (64 * (held / 64))) first ∙ ap (λ (i : ℕ). one (get_or (set closes held w) i 0) i) start
        ∙ ap (λ (c : ℕ). one c held) here)
    go false e =
        let some : held % 64 ≡ 0 → ⊥ = eqb-false _ _ e in
        let before : min 63 (held - 1 - 64 * (held / 64)) ≡ held - 1 - 64 * (held / 64) = omega arith in
        let next : held - 64 * (held / 64) ≡ suc (held - 1 - 64 * (held / 64)) = omega arith in
        let last : 64 * (held / 64) + suc (held - 1 - 64 * (held / 64)) ≡ held = omega arith in
        ap (λ (x : Best). join x (one w held)) (kept.blocked (held / 64) (omega arith) ∙ ap (reading closes (64 * (held / 64))) before
        ∙ sym (reading_below closes held w (64 * (held / 64)) (held - 1 - 64 * (held / 64)) (omega arith)))
        ∙ sym (ap (reading (set closes held w) (64 * (held / 64))) next
        ∙ ap (λ (i : ℕ). join (reading (set closes held w) (64 * (held / 64)) (held - 1 - 64 * (held / 64))) (one (get_or (set closes held w) i 0) i)) last
        ∙ ap (λ (c : ℕ). join (reading (set closes held w) (64 * (held / 64)) (held - 1 - 64 * (held / 64))) (one c held)) here)

-- APPENDING KEEPS IT.
pub appended_kept : (held : ℕ) (closes blocks : List ℕ) (w : ℕ) → BlocksKept held closes blocks → held < length closes
    → 4 * (held / 64) + 4 ≤ length blocks → Number w → BlocksKept (held + 1) (set closes held w) (put blocks (held / 64) (grown blocks held w))
appended_kept held closes blocks w kept fits room number = record {
  numbers = λ i h. a_number i h (ℕ_discrete i held);
  blocked = λ j h. a_block j h (ℕ_discrete j (held / 64));
}
  where
    a_number : (i : ℕ) → i < held + 1 → Dec (i ≡ held) → Number (get_or (set closes held w) i 0)
    a_number i h (yes e) = subst Number (sym (ap (λ (k : ℕ). get_or (set closes held w) k 0) e ∙ get_or-set_same closes held w 0 fits)) number
    a_number i h (no n) = subst Number (sym (get_or-set_other closes held i w 0 n)) (kept.numbers i (lt_of_le-ne (omega arith) n))

    a_block : (j : ℕ) → 64 * j < held + 1 → Dec (j ≡ held / 64)
        → block (put blocks (held / 64) (grown blocks held w)) j ≡ reading (set closes held w) (64 * j) (min 63 (held + 1 - 1 - 64 * j))
    a_block j h (yes e) =
        let count : held - 64 * (held / 64) ≡ min 63 (held + 1 - 1 - 64 * j) = omega arith in
        ap (block (put blocks (held / 64) (grown blocks held w))) e ∙ put_same blocks (held / 64) (grown blocks held w) room
        ∙ grown_is held closes blocks w kept fits ∙ ap (reading (set closes held w) (64 * (held / 64))) count
        ∙ ap (λ (k : ℕ). reading (set closes held w) (64 * k) (min 63 (held + 1 - 1 - 64 * j))) (sym e)
    a_block j h (no n) =
        let far : 64 * j + 64 ≤ held = whole_before held j n h in
        put_other blocks (held / 64) (grown blocks held w) j n ∙ kept.blocked j (begun held j far) ∙ ap (reading closes (64 * j)) (all_before held j far)
        ∙ sym (ap (reading (set closes held w) (64 * j)) (all_now held j far) ∙ reading_below closes held w (64 * j) 63 (ended held j far))
      where
        whole_before : (y x : ℕ) → (x ≡ y / 64 → ⊥) → 64 * x < y + 1 → 64 * x + 64 ≤ y
        whole_before y x m l = omega arith

        begun : (y x : ℕ) → 64 * x + 64 ≤ y → 64 * x < y
        begun y x l = omega arith

        ended : (y x : ℕ) → 64 * x + 64 ≤ y → 64 * x + 63 < y
        ended y x l = omega arith

        all_before : (y x : ℕ) → 64 * x + 64 ≤ y → min 63 (y - 1 - 64 * x) ≡ 63
        all_before y x l = omega arith

        all_now : (y x : ℕ) → 64 * x + 64 ≤ y → min 63 (y + 1 - 1 - 64 * x) ≡ 63
        all_now y x l = omega arith

-- nothing was appended yet, whatever the rooms hold
pub empty_kept : (closes blocks : List ℕ) → BlocksKept 0 closes blocks
empty_kept closes blocks = record { numbers = λ i h. absurd (not-suc-le-zero h); blocked = λ j h. absurd (not-suc-le-zero h) }
