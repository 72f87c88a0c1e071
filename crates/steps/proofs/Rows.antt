-- A leaf n rows before the newest, in a list of words.
use Rattle.std.specs.Prelude.{None, Some}
use Rattle.words.specs.Prelude.{ℕ, ◌+◌, ◌-◌, ◌*◌, ◌<◌, ◌≤◌, ◌≡◌, sym, ap, ◌∙◌, cond, ⊎_elim, List, arith, lt-ltb, le-ltb, ltb, length}
use Rattle.words.specs.{Laws.Numbers.less_or_not}
use Rattle.floats.specs.{Floats.float_of}
use Rattle.rows.specs.{History.History, History.history_of, Ring.ring_place, Ring.ring_of, Laws.RowEnds.row_ends, Laws.Ring.place_within, Laws.Ring.ring_row}
use Rattle.table.specs.{Trees.Operand, Trees.const, Trees.ref, Trees.price}
use Rattle.rules.specs.{Values.words_from, Values.price_of, Values.slot_of}
use Rattle.rules.specs.{Meaning.series_at, Meaning.value, Meaning.newest, Laws.Meaning.const-value, Laws.Meaning.ref_value, Laws.Meaning.price-value}
use Rattle.rules.specs.{Laws.Meaning.price_series, Laws.Meaning.slot_series}
use Rattle.steps.specs.{Machine.ago}
use Rattle.table.specs.declared.series.Series.TheVariants as Over

pub there_ago : (h : History) (a : Operand) (n : ℕ) → n < h.rows → ago h a n ≡ value h a (h.rows - 1 - n)
unfolding ago newest
there_ago h a n l = rw (lt-ltb n h.rows l)

pub ago_late : (h : History) (a : Operand) (held n : ℕ) → held ≡ h.rows → held ≤ n → ago h a n ≡ None
unfolding ago
ago_late h a held n is l = rw (← is, le-ltb n held l)

pub ago-const : (h : History) (held n bits : ℕ) → held ≡ h.rows → n < held → ago h (const bits) n ≡ Some (float_of bits)
ago-const h held n bits is l = there_ago h (const bits) n (rw is at l) ∙ const-value h (h.rows - 1 - n) (omega arith) bits

-- rows that begin at row `first` are as many as the list has
pub ring_held : (K first : ℕ) (ws : List ℕ) (held : ℕ) → held ≡ (history_of K ws).rows → held ≡ (ring_of K first ws).rows
unfolding ring_of
ring_held K first ws held is = is

-- of `held` rows that begin at row `first`
module _ (K first : ℕ) (ws : List ℕ) (held n : ℕ) (is : held ≡ (history_of K ws).rows) (fits : first ≤ held) where
  all : held ≡ (ring_of K first ws).rows
  all = ring_held K first ws held is

  -- row i of them
  pub row_there : (i : ℕ) → i < held → (ring_of K first ws).word i ≡ words_from ws (ring_place held first i * (7 + K))
  row_there i l =
      ring_row K first ws i (rw is at fits) (rw is at l)
      ∙ (unfold history_of in ap (λ (r : ℕ). words_from ws (ring_place r first i * (7 + K))) (sym is))

  -- it ends by the list's end
  pub place_ends : (i : ℕ) → i < held → ring_place held first i * (7 + K) + (7 + K) ≤ length ws
  place_ends i l = row_ends K ws (ring_place held first i) (rw (← is) (place_within held first i fits l))

  -- a price and a slot of it
  pub price_in : (p i : ℕ) → i < held → series_at (ring_of K first ws) (Over.Price p) i ≡ Some (price_of (words_from ws (ring_place held first i * (7 + K))) p)
  price_in p i l = price_series (ring_of K first ws) i (rw all at l) p ∙ rw (row_there i l)

  pub slot_in : (k i : ℕ) → i < held → series_at (ring_of K first ws) (Over.Slot k) i ≡ slot_of (words_from ws (ring_place held first i * (7 + K))) k
  slot_in k i l = slot_series (ring_of K first ws) i (rw all at l) k ∙ rw (row_there i l)

  pub ago-ref : (k : ℕ) → n < held → ago (ring_of K first ws) (ref k) n ≡ slot_of (words_from ws (ring_place held first (held - 1 - n) * (7 + K))) k
  ago-ref k l =
      let h = ring_of K first ws in
      there_ago h (ref k) n (rw all at l)
      ∙ ref_value h (h.rows - 1 - n) (omega (arith, all)) k
      ∙ rw (← all, row_there (held - 1 - n) (omega arith))

  pub ago-price : (p : ℕ) → n < held
      → ago (ring_of K first ws) (price p) n ≡ Some (price_of (words_from ws (ring_place held first (held - 1 - n) * (7 + K))) p)
  ago-price p l =
      let h = ring_of K first ws in
      there_ago h (price p) n (rw all at l)
      ∙ price-value h (h.rows - 1 - n) (omega (arith, all)) p
      ∙ rw (← all, row_there (held - 1 - n) (omega arith))

-- where the row n before the newest stands
pub place_ago : (held first n : ℕ) → first ≤ held → n < held → ring_place held first (held - 1 - n) ≡ cond (ltb n first) (first - 1 - n) (held - 1 - (n - first))
unfolding ring_place
place_ago held first n f l =
    let within = lt-ltb (held - 1 - n) held (omega arith) in
    ⊎_elim
    (λ (near : n < first).
    let at : first + (held - 1 - n) - held ≡ first - 1 - n = omega arith in
    rw (within, le-ltb (first + (held - 1 - n)) held (omega arith), lt-ltb n first near, at))
    (λ (far : first ≤ n).
    let at : first + (held - 1 - n) ≡ held - 1 - (n - first) = omega arith in
    rw (within, lt-ltb (first + (held - 1 - n)) held (omega arith), le-ltb n first far, at))
    (less_or_not n first)

-- where the newest would stand, if there is none
pub place_none : (held first w : ℕ) → held ≡ 0 → ring_place held first (held - 1) * w ≡ 0
unfolding ring_place
place_none held first w none =
    let at : held - 1 ≡ 0 = omega arith in
    rw (le-ltb (held - 1) held (omega (arith, none)), at) (omega arith)
