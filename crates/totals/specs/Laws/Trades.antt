-- Lists of trades: read one after another, counted, joined, rearranged. Assumes nothing.
use Rattle.std.specs.Prelude.{◌≡◌, refl, Bool, true, false, cond, ◌&&◌, List, [], ◌∷◌, ◌++◌, ℕ, zero, suc, ◌+◌, ◌-◌, ◌<◌, ◌≤◌, leb, length, ℤ, ◌+ℤ◌}
use Rattle.words.specs.Prelude.{sym, ap, ◌∙◌, false≢true}
use Rattle.words.specs.Prelude.{zero-add, add_assoc, le_of_suc-le-suc, not-suc-le-zero, arith, leb-true, +ℤ_assoc, +ℤ_comm, +ℤ_idl}
use Rattle.floats.specs.{Floats.float_of, Floats.finite}
use Rattle.totals.specs.{Exact.units_in, Trades.Trade, Trades.trade_at, Trades.trades_from, Trades.acceptable, Trades.good_start, Trades.bit_of}
use Rattle.totals.specs.{Trades.count_of, Trades.pnl_sum}

-- trade i and those after it
pub trades_next : (n i : ℕ) (words : List ℕ) → i < n → trades_from (n - i) i words ≡ trade_at i words ∷ trades_from (n - (i + 1)) (i + 1) words
unfolding trades_from
trades_next n i words h = ap (λ (k : ℕ). trades_from k i words) left
  where
    left : n - i ≡ suc (n - (i + 1))
    left = omega arith

-- past the last there is none
pub trades_none : (n i : ℕ) (words : List ℕ) → n ≤ i → trades_from (n - i) i words ≡ []
unfolding trades_from
trades_none n i words h = ap (λ (k : ℕ). trades_from k i words) left
  where
    left : n - i ≡ 0
    left = omega arith

pub length_trades : (n i : ℕ) (words : List ℕ) → length (trades_from n i words) ≡ n
unfolding trades_from
length_trades zero i words = refl
length_trades (suc n) i words = ap suc (length_trades n (i + 1) words)

-- ---- those that are acceptable

and_true : (a b : Bool) → a && b ≡ true → (a ≡ true) × (b ≡ true)
and_true true b h = (refl, h)
and_true false b h = absurd (false≢true h)

pub acceptable_reason : (t : Trade) → acceptable t ≡ true → (1 ≤ t.reason) × (t.reason ≤ 6)
unfolding acceptable
acceptable_reason t h =
    let reasons = (and_true (leb 1 t.reason && leb t.reason 6) (finite (float_of t.pnl)) h).0 in
    let both = and_true (leb 1 t.reason) (leb t.reason 6) reasons in
    (leb-true 1 t.reason both.0, leb-true t.reason 6 both.1)

pub acceptable-finite : (t : Trade) → acceptable t ≡ true → finite (float_of t.pnl) ≡ true
unfolding acceptable
acceptable-finite t h = (and_true (leb 1 t.reason && leb t.reason 6) (finite (float_of t.pnl)) h).1

pub good_next : (t : Trade) (ts : List Trade) → acceptable t ≡ true → good_start (t ∷ ts) ≡ t ∷ good_start ts
unfolding good_start
good_next t ts h = rw h

pub good_ends : (t : Trade) (ts : List Trade) → acceptable t ≡ false → good_start (t ∷ ts) ≡ []
unfolding good_start
good_ends t ts h = rw h

pub data Acceptable : List Trade → Type 0 where
  none : Acceptable []
  more : {t : Trade} {ts : List Trade} → acceptable t ≡ true → Acceptable ts → Acceptable (t ∷ ts)

-- all are acceptable, and so all are there
pub good_all : {ts : List Trade} → Acceptable ts → good_start ts ≡ ts
unfolding good_start
good_all none = refl
good_all (more {t} {ts} h a) = rw h (ap (λ (us : List Trade). t ∷ us) (good_all a))

-- none is left out where as many are there
pub all_good : (ts : List Trade) → length ts ≤ length (good_start ts) → good_start ts ≡ ts
unfolding good_start
all_good [] h = refl
all_good (t ∷ ts) h = go (acceptable t) (all_good ts) h
  where
    go : (b : Bool) → (length ts ≤ length (good_start ts) → good_start ts ≡ ts) → suc (length ts) ≤ length (cond b (t ∷ good_start ts) [])
        → cond b (t ∷ good_start ts) [] ≡ t ∷ ts
    go true rest l = ap (λ (us : List Trade). t ∷ us) (rest (le_of_suc-le-suc l))
    go false rest l = absurd (not-suc-le-zero l)

-- ---- joined

pub count_append : (so : Trade → Bool) (xs ys : List Trade) → count_of so (xs ++ ys) ≡ count_of so xs + count_of so ys
unfolding count_of
count_append so [] ys = sym (zero-add (count_of so ys))
count_append so (x ∷ xs) ys = ap (λ (n : ℕ). bit_of (so x) + n) (count_append so xs ys) ∙ sym (add_assoc (bit_of (so x)) (count_of so xs) (count_of so ys))

pub sum_append : (xs ys : List Trade) → pnl_sum (xs ++ ys) ≡ pnl_sum xs +ℤ pnl_sum ys
unfolding pnl_sum
sum_append [] ys = sym (+ℤ_idl (pnl_sum ys))
sum_append (x ∷ xs) ys =
    ap (λ (z : ℤ). units_in x.pnl +ℤ z) (sum_append xs ys) ∙ sym (+ℤ_assoc (units_in x.pnl) (pnl_sum xs) (pnl_sum ys))

-- ---- rearranged: the same trades, each as often

pub data Rearranged : List Trade → List Trade → Type 0 where
  none : Rearranged [] []
  keep : {xs ys : List Trade} (x : Trade) → Rearranged xs ys → Rearranged (x ∷ xs) (x ∷ ys)
  swap : {xs : List Trade} (x y : Trade) → Rearranged (x ∷ y ∷ xs) (y ∷ x ∷ xs)
  then : {xs ys zs : List Trade} → Rearranged xs ys → Rearranged ys zs → Rearranged xs zs

-- REARRANGED LISTS have one sum ..
pub sum_rearranged : {xs ys : List Trade} → Rearranged xs ys → pnl_sum xs ≡ pnl_sum ys
unfolding pnl_sum
sum_rearranged none = refl
sum_rearranged (keep x r) = ap (λ (z : ℤ). units_in x.pnl +ℤ z) (sum_rearranged r)
sum_rearranged (swap {xs} x y) =
    let a = units_in x.pnl in
    let b = units_in y.pnl in
    sym (+ℤ_assoc a b (pnl_sum xs)) ∙ ap (λ (z : ℤ). z +ℤ pnl_sum xs) (+ℤ_comm a b) ∙ +ℤ_assoc b a (pnl_sum xs)
sum_rearranged (then r s) = sum_rearranged r ∙ sum_rearranged s

-- .. and one count of whatever is counted.
pub count_rearranged : (so : Trade → Bool) {xs ys : List Trade} → Rearranged xs ys → count_of so xs ≡ count_of so ys
unfolding count_of
count_rearranged so none = refl
count_rearranged so (keep x r) = ap (λ (n : ℕ). bit_of (so x) + n) (count_rearranged so r)
count_rearranged so (swap {xs} x y) = turn (bit_of (so x)) (bit_of (so y)) (count_of so xs)
  where
    turn : (a b c : ℕ) → a + (b + c) ≡ b + (a + c)
    turn a b c = omega arith
count_rearranged so (then r s) = count_rearranged so r ∙ count_rearranged so s
