-- What Highest and Lowest answer, said of the values that they look over and not of how these are gone through: the answer is one of them, none is
-- better, and of equals the oldest is kept. Over numbers: infinite ones too, a NaN not.
use Rattle.std.specs.Prelude.{ℕ, zero, suc, ◌+◌, ◌-◌, ◌≤◌, ◌<◌, ◌≡◌, refl, Bool, true, false, cond, leb, Float, Option, Some}
use Rattle.words.specs.Prelude.{is_nan}
use Rattle.words.specs.Prelude.{sym, ap, ◌∙◌, true≢false, arith}
use Rattle.words.specs.Prelude.{leb-true, leb-false}
use Rattle.floats.specs.{Floats.◌≺◌, Floats.◌≼◌, Laws.Order.not-below, Laws.Order.not_above, Laws.Order.numbers, Laws.Order.itself, Laws.Order.in_turn}
use Rattle.rows.specs.{History.History}
use Rattle.table.specs.{declared.series.Series.Series, Trees.extreme}
use Rattle.rules.specs.{Values.better, Values.took, Values.pick, Meaning.series_at}
use Rattle.rules.specs.{Meaning.extreme_over, Meaning.value, Laws.Meaning.extreme_late, Laws.Meaning.extreme_value}
use Rattle.std.specs.Float.Ieee as Ieee
use Rattle.table.specs.Named as Named

-- An order of floats: at most, and below.
pub record Order : Type 0 where
  pub at_most : Float → Float → Bool
  pub below : Float → Float → Bool

-- Highest goes up, Lowest down.
abbrev pub upward : Order
upward = record { at_most = λ x y. x ≼ y; below = λ x y. x ≺ y }

abbrev pub downward : Order
downward = record { at_most = λ x y. y ≼ x; below = λ x y. y ≺ x }

-- x is the best of f 0 to f m, the oldest first: "it starts at the oldest, and a later one takes its place only if strictly greater (for Lowest,
-- strictly less)".
pub record Best (o : Order) (f : ℕ → Float) (m : ℕ) (x : Float) : Type 0 where
  -- it is one of them
  pub at : ℕ
  pub among : at ≤ m
  pub one : x ≡ f at
  -- none is better
  pub none_better : (j : ℕ) → j ≤ m → o.at_most (f j) x ≡ true
  -- of equals the oldest is kept: each that is older than it is worse
  pub oldest : (j : ℕ) → j < at → o.below (f j) x ≡ true

-- The value is there and is the best of f 0 to f m.
pub record Answers (o : Order) (f : ℕ → Float) (m : ℕ) (v : Option Float) : Type 0 where
  pub x : Float
  pub there : v ≡ Some x
  pub best : Best o f m x

-- numbers, from the oldest on, at the bars from `first` to `first + m`
pub record Numbers (h : History) (s : Series) (first m : ℕ) (f : ℕ → Float) : Type 0 where
  pub shows : (j : ℕ) → j ≤ m → series_at h s (first + j) ≡ Some (f j)
  pub number : (j : ℕ) → j ≤ m → is_nan (f j) ≡ false

-- ---- what is asked of an order, and that both are such

record Ordered (o : Order) (kind : ℕ) : Type 0 where
  takes : (best later : Float) → took kind best later ≡ cond (o.below best later) later best
  alike : (x : Float) → is_nan x ≡ false → o.at_most x x ≡ true
  on : (x y z : Float) → o.at_most x y ≡ true → o.at_most y z ≡ true → o.at_most x z ≡ true
  so : (x y : Float) → o.below x y ≡ true → o.at_most x y ≡ true
  other : (x y : Float) → is_nan x ≡ false → is_nan y ≡ false → o.below x y ≡ false → o.at_most y x ≡ true
  strict : (x y z : Float) → is_nan z ≡ false → o.at_most x y ≡ true → o.below y z ≡ true → o.below x z ≡ true

below-at_most : (x y : Float) → x ≺ y ≡ true → x ≼ y ≡ true
unfolding Ieee.le
below-at_most x y h = rw h

-- what cannot be no is yes
unless_no : (b : Bool) → (b ≡ false → ⊥) → b ≡ true
unless_no true h = refl
unless_no false h = absurd (h refl)

-- x ≼ y ≺ z, and so x ≺ z: else z ≼ x, and so z ≼ y
up_strict : (x y z : Float) → is_nan z ≡ false → x ≼ y ≡ true → y ≺ z ≡ true → x ≺ z ≡ true
up_strict x y z n h k =
    unless_no (x ≺ z) (λ e. true≢false (sym k ∙ not_above z y (in_turn z x y (not-below z x n (numbers x y h).0 e) h)))

-- z ≺ y ≼ x, and so z ≺ x
down_strict : (x y z : Float) → is_nan z ≡ false → y ≼ x ≡ true → z ≺ y ≡ true → z ≺ x ≡ true
down_strict x y z n h k =
    unless_no (z ≺ x) (λ e. true≢false (sym k ∙ not_above y z (in_turn y x z h (not-below x z (numbers y x h).1 n e))))

rises : Ordered upward Named.highest
unfolding took better
rises = record {
  takes = λ best later. refl;
  alike = itself;
  on = in_turn;
  so = below-at_most;
  other = λ x y p q e. not-below y x q p e;
  strict = up_strict;
}

falls : Ordered downward Named.lowest
unfolding took better
falls = record {
  takes = λ best later. refl;
  alike = itself;
  on = λ x y z h k. in_turn z y x k h;
  so = λ x y h. below-at_most y x h;
  other = λ x y p q e. not-below x y p q e;
  strict = down_strict;
}

-- ---- one value more

module _ (o : Order) (kind : ℕ) (laws : Ordered o kind) (f : ℕ → Float) where
  one_more : (m : ℕ) (x : Float) → ((j : ℕ) → j ≤ suc m → is_nan (f j) ≡ false) → Best o f m x → (b : Bool) → o.below x (f (suc m)) ≡ b
      → Best o f (suc m) (cond b (f (suc m)) x)
  one_more m x number best true e = record {
    at = suc m;
    among = omega arith;
    one = refl;
    none_better = λ j l. up_to j (leb j m) refl l;
    oldest = λ j l. laws.strict (f j) x (f (suc m)) (number (suc m) (omega arith)) (best.none_better j (omega arith)) e;
  }
    where
      up_to : (j : ℕ) (b : Bool) → leb j m ≡ b → j ≤ suc m → o.at_most (f j) (f (suc m)) ≡ true
      up_to j true d l = laws.on (f j) x (f (suc m)) (best.none_better j (leb-true j m d)) (laws.so x (f (suc m)) e)
      up_to j false d l =
          let last : j ≡ suc m = omega (arith, leb-false j m d) in
          rw last (laws.alike (f (suc m)) (number (suc m) (omega arith)))
  one_more m x number best false e = record {
    at = best.at;
    among = omega (arith, best.among);
    one = best.one;
    none_better = λ j l. up_to j (leb j m) refl l;
    oldest = best.oldest;
  }
    where
      x-number : is_nan x ≡ false
      x-number = ap is_nan best.one ∙ number best.at (omega (arith, best.among))

      up_to : (j : ℕ) (b : Bool) → leb j m ≡ b → j ≤ suc m → o.at_most (f j) x ≡ true
      up_to j true d l = best.none_better j (leb-true j m d)
      up_to j false d l =
          let last : j ≡ suc m = omega (arith, leb-false j m d) in
          rw last (laws.other x (f (suc m)) x-number (number (suc m) (omega arith)) e)

  fewer : (h : History) (s : Series) (first m : ℕ) → Numbers h s first (suc m) f → Numbers h s first m f
  fewer h s first m all = record { shows = λ j l. all.shows j (omega arith); number = λ j l. all.number j (omega arith) }

  over : (h : History) (s : Series) (first m : ℕ) → Numbers h s first m f → Answers o f m (extreme_over h kind s first m)
  unfolding extreme_over pick
  over h s first zero all =
      let here : first + 0 ≡ first = omega arith in
      record {
        x = f 0;
        there = ap (series_at h s) (sym here) ∙ all.shows 0 (omega arith);
        best = record {
          at = 0;
          among = omega arith;
          one = refl;
          none_better = λ j l. (let none : j ≡ 0 = omega arith in rw none (laws.alike (f 0) (all.number 0 (omega arith))));
          oldest = λ j l. absurd (omega arith);
        };
      }
  over h s first (suc m) all =
      let before = over h s first m (fewer h s first m all) in
      record {
        x = cond (o.below before.x (f (suc m))) (f (suc m)) before.x;
        there = rw (before.there, all.shows (suc m) (omega arith)) (ap Some (laws.takes before.x (f (suc m))));
        best = one_more m before.x all.number before.best (o.below before.x (f (suc m))) refl;
      }

  at_bar : (h : History) (s : Series) (n i : ℕ) → n - 1 ≤ i → Numbers h s (i - (n - 1)) (n - 1) f → Answers o f (n - 1) (value h (extreme kind s n) i)
  at_bar h s n i l all = rw (extreme_value h kind s n i, extreme_late h kind s n i l) (over h s (i - (n - 1)) (n - 1) all)

-- HIGHEST: "over the bar and the n − 1 before it", where there are as many and each is a number.
pub highest : (f : ℕ → Float) (h : History) (s : Series) (n i : ℕ) → n - 1 ≤ i → Numbers h s (i - (n - 1)) (n - 1) f
    → Answers upward f (n - 1) (value h (extreme Named.highest s n) i)
highest f h s n i l all = at_bar upward Named.highest rises f h s n i l all

-- LOWEST, the same the other way round.
pub lowest : (f : ℕ → Float) (h : History) (s : Series) (n i : ℕ) → n - 1 ≤ i → Numbers h s (i - (n - 1)) (n - 1) f
    → Answers downward f (n - 1) (value h (extreme Named.lowest s n) i)
lowest f h s n i l all = at_bar downward Named.lowest falls f h s n i l all
