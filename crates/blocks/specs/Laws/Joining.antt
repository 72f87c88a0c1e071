-- Joining stretches of numbers: three may be joined from either end, so two readings, one after the other, joined are one. Assumes nothing.
use Rattle.std.specs.Prelude.{ℕ, zero, suc, ◌+◌, ◌<◌, ◌≡◌, refl, Bool, true, false, cond, List, get_or}
use Rattle.words.specs.Prelude.{sym, ap, ◌∙◌, false≢true, true≢false, add-zero, add-suc}
use Rattle.words.specs.Prelude.{arith}
use Rattle.blocks.specs.{declared.best.Best.Best, Reading.above, Reading.below, Reading.one, Reading.join, Reading.reading, Reading.Number}
use Rattle.blocks.specs.{Laws.Order.twice, Laws.Order.not_twice}

-- two that are equal word by word
pub same : {h i l j h' i' l' j' : ℕ} → h ≡ h' → i ≡ i' → l ≡ l' → j ≡ j'
    → ◌≡◌ {A = Best} (record { high = h; high_bar = i; low = l; low_bar = j }) (record { high = h'; high_bar = i'; low = l'; low_bar = j' })
same p q r s = rw (p, q, r, s) refl

-- both its words are numbers
pub record Numbers (a : Best) : Type 0 where
  pub high : Number a.high
  pub low : Number a.low

chosen : (t : Bool) (x y : ℕ) → Number x → Number y → Number (cond t x y)
chosen true x y p q = p
chosen false x y p q = q

pub join_numbers : {a b : Best} → Numbers a → Numbers b → Numbers (join a b)
unfolding join
join_numbers {a} {b} p q = record {
  high = chosen (above b.high a.high) b.high a.high q.high p.high;
  low = chosen (below b.low a.low) b.low a.low q.low p.low;
}

-- ---- one side: the later of two where it is over the earlier, else the earlier

-- the choice from three, by the three tests between them; the choice is of the word, or of its bar
pick : (ab bc ac : Bool) (x y z : ℕ) → (ab ≡ true → bc ≡ true → ac ≡ true) → (ab ≡ false → bc ≡ false → ac ≡ false)
    → cond (cond ab bc ac) z (cond ab y x) ≡ cond (cond bc ac ab) (cond bc z y) x
pick true true true x y z f g = refl
pick true true false x y z f g = absurd (false≢true (f refl refl))
pick true false ac x y z f g = refl
pick false true ac x y z f g = refl
pick false false true x y z f g = absurd (true≢false (g refl refl))
pick false false false x y z f g = refl

-- a test on a choice is the choice of two tests
on_choice : (test : ℕ → Bool) (t : Bool) (x y : ℕ) → test (cond t y x) ≡ cond t (test y) (test x)
on_choice test true x y = refl
on_choice test false x y = refl

-- by any order that goes on in turn, as `below` and `above` of numbers do
module _ (over : ℕ → ℕ → Bool) (a b c : ℕ) (f : over b a ≡ true → over c b ≡ true → over c a ≡ true)
    (g : over b a ≡ false → over c b ≡ false → over c a ≡ false) where
  side : (x y z : ℕ) → cond (over c (cond (over b a) b a)) z (cond (over b a) y x)
      ≡ cond (over (cond (over c b) c b) a) (cond (over c b) z y) x
  side x y z =
      ap (λ (t : Bool). cond t z (cond (over b a) y x)) (on_choice (over c) (over b a) a b)
      ∙ pick (over b a) (over c b) (over c a) x y z f g
      ∙ sym (ap (λ (t : Bool). cond t (cond (over c b) z y) x) (on_choice (λ (w : ℕ). over w a) (over c b) b c))

-- THREE STRETCHES may be joined from either end.
pub join_assoc : (a b c : Best) → Numbers a → Numbers b → Numbers c → join (join a b) c ≡ join a (join b c)
unfolding join
join_assoc a b c p q r = same (up a.high b.high c.high) (up a.high_bar b.high_bar c.high_bar)
    (down a.low b.low c.low) (down a.low_bar b.low_bar c.low_bar)
  where
    up : (x y z : ℕ) → cond (above c.high (cond (above b.high a.high) b.high a.high)) z (cond (above b.high a.high) y x)
        ≡ cond (above (cond (above c.high b.high) c.high b.high) a.high) (cond (above c.high b.high) z y) x
    up = side above a.high b.high c.high
        (twice a.high b.high c.high p.high q.high r.high)
        (not_twice a.high b.high c.high p.high q.high r.high)

    down : (x y z : ℕ) → cond (below c.low (cond (below b.low a.low) b.low a.low)) z (cond (below b.low a.low) y x)
        ≡ cond (below (cond (below c.low b.low) c.low b.low) a.low) (cond (below c.low b.low) z y) x
    down = side below a.low b.low c.low
        (λ e f. twice c.low b.low a.low r.low q.low p.low f e)
        (λ e f. not_twice c.low b.low a.low r.low q.low p.low f e)

-- ---- readings

module _ (closes : List ℕ) (held : ℕ) (numbers : (i : ℕ) → i < held → Number (get_or closes i 0)) where
  one_numbers : (i : ℕ) → i < held → Numbers (one (get_or closes i 0) i)
  one_numbers i h = record { high = numbers i h; low = numbers i h }

  pub reading_numbers : (first n : ℕ) → first + n < held → Numbers (reading closes first n)
  unfolding reading
  reading_numbers first zero h = one_numbers first (omega arith)
  reading_numbers first (suc n) h = join_numbers (reading_numbers first n (omega arith)) (one_numbers (first + suc n) h)

  -- TWO READINGS, one after the other, joined are one reading.
  pub reading_on : (first n m : ℕ) → first + n + suc m < held
      → join (reading closes first n) (reading closes (first + suc n) m) ≡ reading closes first (n + suc m)
  unfolding reading
  reading_on first n zero h = sym (ap (reading closes first) (add-suc n 0 ∙ ap suc (add-zero n)))
  reading_on first n (suc m) h =
      let a = reading closes first n in
      let b = reading closes (first + suc n) m in
      let i = first + suc n + suc m in
      let next : i ≡ first + suc (n + suc m) = omega arith in
      sym (join_assoc a b (one (get_or closes i 0) i) (reading_numbers first n (omega arith)) (reading_numbers (first + suc n) m (omega arith))
      (one_numbers i (omega arith)))
      ∙ ap (λ (x : Best). join x (one (get_or closes i 0) i)) (reading_on first n m (omega arith))
      ∙ ap (λ (k : ℕ). join (reading closes first (n + suc m)) (one (get_or closes k 0) k)) next
      ∙ sym (ap (reading closes first) (add-suc n (suc m)))
