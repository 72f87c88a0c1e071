-- No sum of so many finite floats passes the 34 words: they read back as it is. Assumes nothing.
use Rattle.std.specs.Prelude.{◌≡◌, refl, Bool, true, false, cond, List, ℕ, zero, suc, ◌+◌, ◌-◌, ◌*◌, ◌/◌, ◌%◌, ◌^◌, ◌≤◌, ◌<◌, leb, ltb, eqb, length, ℤ, pos}
use Rattle.std.specs.Prelude.{negsuc, ◌+ℤ◌, nat_abs}
use Rattle.words.specs.Prelude.{sym, subst, ◌∙◌, true≢false}
use Rattle.words.specs.Prelude.{mod-lt, le_trans, le_of_eq, le_of_lt, zero-mul, suc-mul, mul-one, arith, ltb-true, ne_eqb, lit≤}
use Rattle.words.specs.Prelude.{pow_pos, pow_mono, shl_lt, sub_ℕ, nan, inf, binary64, odd, of_fields, of_bits, HasValue}
use Rattle.words.specs.Prelude.{odd_sign}
use Rattle.words.specs.{Limits.most_count}
use Rattle.floats.specs.{Floats.float_of, Floats.finite, Root.field_units, Root.units_of}
use Rattle.totals.specs.{Number.place, Exact.residue, Exact.signed, Exact.step, Exact.units_in, Exact.number_in, Exact.words_for, Exact.sum_size}
use Rattle.totals.specs.{Trades.Trade, Trades.pnl_sum, Laws.Places.place-pow, Laws.Residues.signed_up, Laws.Residues.signed_down, Laws.Sums.number_for}
use Rattle.totals.specs.{Laws.Trades.Acceptable, Laws.Trades.none, Laws.Trades.more, Laws.Trades.acceptable-finite}
use Rattle.std.proofs.Common.{add-le-add}

-- ---- a finite float and its units

-- an exponent's field of all ones makes no finite float
ones : (s : Bool) (x t : ℕ) → x ≡ 2047 → finite (of_fields binary64 s x t) ≡ false
unfolding of_fields
ones s x t e = subst (λ (y : ℕ). finite (of_fields binary64 s y t) ≡ false) (sym e) (go (eqb t 0))
  where
    go : (b : Bool) → finite (cond b (inf s) nan) ≡ false
    go true = refl
    go false = refl

-- so a finite one has another
pub field_below : (w : ℕ) → finite (float_of w) ≡ true → w % 2 ^ 63 / 2 ^ 52 < 2047
unfolding of_bits
field_below w h = most (w % 2 ^ 63 / 2 ^ 52) (width w) (λ (e : w % 2 ^ 63 / 2 ^ 52 ≡ 2047). true≢false (sym h
    ∙ ones (leb (2 ^ 63) w) (w % 2 ^ 63 / 2 ^ 52) (w % 2 ^ 52) e))
  where
    width : (x : ℕ) → x % 2 ^ 63 / 2 ^ 52 < 2048
    width x = omega arith

    most : (x : ℕ) → x < 2048 → (x ≡ 2047 → ⊥) → x < 2047
    most x l n = omega arith

-- the value of fields, with its sign
fields : (s : Bool) (x t : ℕ) → x < 2047 → HasValue (of_fields binary64 s x t) s (field_units x t) (2 ^ 1074)
unfolding of_fields
fields s zero t h = subst (λ (z : ℕ). HasValue (odd 53 s t 0 1074) s z (2 ^ 1074)) (mul-one t) (odd_sign 53 s t 0 1074)
fields s (suc x) t h =
    subst (λ (b : Bool). HasValue (cond b (cond (eqb t 0) (inf s) nan) (odd 53 s (2 ^ 52 + t) x 1074)) s ((2 ^ 52 + t) * 2 ^ x) (2 ^ 1074))
    (sym (ne_eqb (suc x) 2047 (differ x h))) (odd_sign 53 s (2 ^ 52 + t) x 1074)
  where
    differ : (y : ℕ) → suc y < 2047 → suc y ≡ 2047 → ⊥
    differ y g e = omega arith

-- A FINITE FLOAT is its units times 2 ^ -1074: so `pnl_sum` adds what the floats are worth.
pub float_is_units : (w : ℕ) → finite (float_of w) ≡ true → HasValue (float_of w) (leb (2 ^ 63) w) (units_of (w % 2 ^ 63)) (2 ^ 1074)
unfolding units_of of_bits
float_is_units w h =
    subst (λ (t : ℕ). HasValue (of_fields binary64 (leb (2 ^ 63) w) (w % 2 ^ 63 / 2 ^ 52) (w % 2 ^ 52)) (leb (2 ^ 63) w) (field_units (w % 2 ^ 63 / 2 ^ 52) t)
    (2 ^ 1074))
    (low w) (fields (leb (2 ^ 63) w) (w % 2 ^ 63 / 2 ^ 52) (w % 2 ^ 52) (field_below w h))
  where
    low : (x : ℕ) → x % 2 ^ 52 ≡ x % 2 ^ 63 % 2 ^ 52
    low x = omega arith

-- ---- bounds

-- a finite float is below 2 ^ 1024, so below 2 ^ 2098 units
units_below : (e t : ℕ) → e < 2047 → t < 2 ^ 52 → field_units e t ≤ 2 ^ 2098
units_below zero t h l = le_trans (le_of_lt l) (pow_mono {i = 52} {j = 2098} (lit≤ tt))
units_below (suc e) t h l = le_trans (le_of_lt (shl_lt 53 e (both t l))) (pow_mono (most e h))
  where
    both : (x : ℕ) → x < 2 ^ 52 → 2 ^ 52 + x < 2 ^ 53
    both x k = omega arith

    most : (x : ℕ) → suc x < 2047 → 53 + x ≤ 2098
    most x k = omega arith

step_size : (down : Bool) (x : ℕ) → nat_abs (step down x) ≡ x
step_size false x = refl
step_size true zero = refl
step_size true (suc x) = refl

whole_below : (w : ℕ) → finite (float_of w) ≡ true → nat_abs (units_in w) ≤ 2 ^ 2098
unfolding units_in units_of
whole_below w h = le_trans (le_of_eq (step_size (leb (2 ^ 63) w) _)) (units_below (w % 2 ^ 63 / 2 ^ 52) (w % 2 ^ 63 % 2 ^ 52) (field_below w h) (mod-lt
    (w % 2 ^ 63) (pow_pos 52)))

difference : (a b : ℕ) → nat_abs (sub_ℕ a (suc b)) ≤ a + suc b
difference a b = go (ltb a (suc b)) refl
  where
    go : (t : Bool) → ltb a (suc b) ≡ t → nat_abs (cond t (negsuc (suc b - suc a)) (pos (a - suc b))) ≤ a + suc b
    go true e = let below : a < suc b = ltb-true a (suc b) e in omega arith
    go false e = omega arith

sum_below : (x y : ℤ) → nat_abs (x +ℤ y) ≤ nat_abs x + nat_abs y
sum_below (pos a) (pos b) = omega arith
sum_below (pos a) (negsuc b) = difference a b
sum_below (negsuc a) (pos b) = le_trans (difference b a) (turn a b)
  where
    turn : (p q : ℕ) → q + suc p ≤ suc p + q
    turn p q = omega arith
sum_below (negsuc a) (negsuc b) = omega arith

-- so many of them
pub list_below : {ts : List Trade} → Acceptable ts → nat_abs (pnl_sum ts) ≤ length ts * 2 ^ 2098
unfolding pnl_sum
list_below none = le_of_eq (sym (zero-mul (2 ^ 2098)))
list_below (more {t} {ts} h f) =
    le_trans (sum_below (units_in t.pnl) (pnl_sum ts))
    (le_trans (add-le-add (whole_below t.pnl (acceptable-finite t h)) (list_below f))
    (le_of_eq (turn (2 ^ 2098) (length ts * 2 ^ 2098) ∙ sym (suc-mul (length ts) (2 ^ 2098)))))
  where
    turn : (x y : ℕ) → x + y ≡ y + x
    turn x y = omega arith

read_back : (m : ℕ) (z : ℤ) → nat_abs z + nat_abs z + 2 ≤ m → signed m (residue m z) ≡ z
read_back m (pos a) h = signed_up a (near a m h)
  where
    near : (x y : ℕ) → x + x + 2 ≤ y → x + x < y
    near x y l = omega arith
read_back m (negsuc a) h = signed_down a (near a m h)
  where
    near : (x y : ℕ) → suc x + suc x + 2 ≤ y → x + x + 2 ≤ y
    near x y l = omega arith

-- UP TO 2 ^ 32 - 1 TRADES: the 34 words of their exact sum read back as that sum.
pub reads_back : {ts : List Trade} → Acceptable ts → length ts ≤ most_count → number_in (words_for (pnl_sum ts)) ≡ pnl_sum ts
reads_back {ts} f few =
    number_for (pnl_sum ts)
    ∙ read_back (place sum_size) (pnl_sum ts) (le_trans (twice _ _ (le_trans (list_below f) (many (length ts) few))) room)
  where
    many : (n : ℕ) → n ≤ most_count → n * 2 ^ 2098 ≤ 2 ^ 2130
    many n h = le_of_lt (shl_lt 32 2098 (under n h))
      where
        under : (x : ℕ) → x ≤ most_count → x < 2 ^ 32
        under x l = omega arith

    twice : (x y : ℕ) → x ≤ y → x + x + 2 ≤ y + y + 2
    twice x y h = omega arith

    room : 2 ^ 2130 + 2 ^ 2130 + 2 ≤ place sum_size
    room = le_trans (lit≤ tt) (le_of_eq (sym (place-pow sum_size)))
