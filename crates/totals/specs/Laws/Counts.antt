-- The eight counts: with one trade more, with those of more trades, and their bounds. Assumes nothing.
use Rattle.std.specs.Prelude.{◌≡◌, refl, Bool, true, false, cond, List, [], ◌∷◌, ◌++◌, ℕ, zero, suc, ◌+◌, ◌-◌, ◌<◌, ◌≤◌, leb, length, get_or, drop, set}
use Rattle.words.specs.Prelude.{sym, ap, ◌∙◌, false≢true}
use Rattle.words.specs.Prelude.{arith, leb-true, le-leb, drop_of_length-le, drop-cons}
use Rattle.words.specs.{Words.word, Limits.most_count}
use Rattle.totals.specs.{Trades.Trade, Trades.trade, Trades.bit_of, Trades.count_of, Trades.ended_by, Trades.won, Trades.lost, Totals.count_size}
use Rattle.totals.specs.{Totals.AllAtMost, Totals.all_small, Totals.with_counts, Laws.Trades.count_append}

-- eight of them, each equal to another
pub eight_same : {a b c d e f g h a' b' c' d' e' f' g' h' : ℕ} → a ≡ a' → b ≡ b' → c ≡ c' → d ≡ d' → e ≡ e' → f ≡ f' → g ≡ g' → h ≡ h'
    → a ∷ b ∷ c ∷ d ∷ e ∷ f ∷ g ∷ h ∷ [] ≡ a' ∷ b' ∷ c' ∷ d' ∷ e' ∷ f' ∷ g' ∷ h' ∷ []
eight_same i j k l m n o p = cc

-- a list of eight is its eight words
pub eight : (c : List ℕ) → length c ≡ count_size
    → c ≡ word c 0 ∷ word c 1 ∷ word c 2 ∷ word c 3 ∷ word c 4 ∷ word c 5 ∷ word c 6 ∷ word c 7 ∷ []
eight c e =
    at 0 (omega arith) ∙ ap (λ l. word c 0 ∷ l) (at 1 (omega arith) ∙ ap (λ l. word c 1 ∷ l) (at 2 (omega arith) ∙ ap (λ l. word c 2 ∷ l)
    (at 3 (omega arith) ∙ ap (λ l. word c 3 ∷ l) (at 4 (omega arith) ∙ ap (λ l. word c 4 ∷ l) (at 5 (omega arith) ∙ ap (λ l. word c 5 ∷ l)
    (at 6 (omega arith) ∙ ap (λ l. word c 6 ∷ l) (at 7 (omega arith) ∙ ap (λ l. word c 7 ∷ l) (drop_of_length-le c {i = 8} (omega arith)))))))))
  where
    at : (i : ℕ) → i < 8 → drop i c ≡ word c i ∷ drop (suc i) c
    at i h = drop-cons c i 0 (omega arith)

-- ---- one trade more

-- what the code sets: one count of a reason, wins, losses
abbrev pub counted : List ℕ → ℕ → ℕ → ℕ → List ℕ
counted c at win loss = set (set (set c at (get_or c at 0 + 1)) 6 (get_or c 6 0 + win)) 7 (get_or c 7 0 + loss)

-- of eight words
abbrev Counts : (a b c d e f g h r win loss : ℕ) → Type 0
Counts a b c d e f g h r win loss =
    counted (a ∷ b ∷ c ∷ d ∷ e ∷ f ∷ g ∷ h ∷ []) (r - 1) win loss
    ≡ (a + (bit_of (ended_by 1 (trade 0 r)) + 0)) ∷ (b + (bit_of (ended_by 2 (trade 0 r)) + 0)) ∷ (c + (bit_of (ended_by 3 (trade 0 r)) + 0))
    ∷ (d + (bit_of (ended_by 4 (trade 0 r)) + 0)) ∷ (e + (bit_of (ended_by 5 (trade 0 r)) + 0)) ∷ (f + (bit_of (ended_by 6 (trade 0 r)) + 0))
    ∷ (g + (win + 0)) ∷ (h + (loss + 0)) ∷ []

by_reason : (a b c d e f g h r win loss : ℕ) → 1 ≤ r → r ≤ 6 → Counts a b c d e f g h r win loss
unfolding bit_of
by_reason a b c d e f g h zero win loss p q = absurd (omega arith)
by_reason a b c d e f g h (suc zero) win loss p q =
    eight_same (omega arith) (omega arith) (omega arith) (omega arith) (omega arith) (omega arith) (omega arith) (omega arith)
by_reason a b c d e f g h (suc (suc zero)) win loss p q =
    eight_same (omega arith) (omega arith) (omega arith) (omega arith) (omega arith) (omega arith) (omega arith) (omega arith)
by_reason a b c d e f g h (suc (suc (suc zero))) win loss p q =
    eight_same (omega arith) (omega arith) (omega arith) (omega arith) (omega arith) (omega arith) (omega arith) (omega arith)
by_reason a b c d e f g h (suc (suc (suc (suc zero)))) win loss p q =
    eight_same (omega arith) (omega arith) (omega arith) (omega arith) (omega arith) (omega arith) (omega arith) (omega arith)
by_reason a b c d e f g h (suc (suc (suc (suc (suc zero))))) win loss p q =
    eight_same (omega arith) (omega arith) (omega arith) (omega arith) (omega arith) (omega arith) (omega arith) (omega arith)
by_reason a b c d e f g h (suc (suc (suc (suc (suc (suc zero)))))) win loss p q =
    eight_same (omega arith) (omega arith) (omega arith) (omega arith) (omega arith) (omega arith) (omega arith) (omega arith)
by_reason a b c d e f g h (suc (suc (suc (suc (suc (suc (suc r))))))) win loss p q = absurd (omega arith)

pub counts_one : (c : List ℕ) (pnl reason : ℕ) → length c ≡ count_size → 1 ≤ reason → reason ≤ 6
    → counted c (reason - 1) (bit_of (won (trade pnl reason))) (bit_of (lost (trade pnl reason))) ≡ with_counts c (trade pnl reason ∷ [])
unfolding with_counts count_of
counts_one c pnl reason e p q =
    ap (λ (d : List ℕ). counted d (reason - 1) (bit_of (won (trade pnl reason))) (bit_of (lost (trade pnl reason)))) (eight c e)
    ∙ by_reason (word c 0) (word c 1) (word c 2) (word c 3) (word c 4) (word c 5) (word c 6) (word c 7) reason _ _ p q

-- ---- more trades

pub length_counts : (c : List ℕ) (ts : List Trade) → length (with_counts c ts) ≡ count_size
unfolding with_counts
length_counts c ts = refl

-- with none they are as they were
pub counts_none : (c : List ℕ) → length c ≡ count_size → with_counts c [] ≡ c
unfolding with_counts count_of
counts_none c e =
    eight_same (omega arith) (omega arith) (omega arith) (omega arith) (omega arith) (omega arith) (omega arith) (omega arith) ∙ sym (eight c e)

-- some and then more
pub counts_twice : (c : List ℕ) (xs ys : List Trade) → with_counts (with_counts c xs) ys ≡ with_counts c (xs ++ ys)
unfolding with_counts
counts_twice c xs ys = eight_same (on 0 _) (on 1 _) (on 2 _) (on 3 _) (on 4 _) (on 5 _) (on 6 _) (on 7 _)
  where
    on : (i : ℕ) (so : Trade → Bool) → word c i + count_of so xs + count_of so ys ≡ word c i + count_of so (xs ++ ys)
    on i so = let all : count_of so (xs ++ ys) ≡ count_of so xs + count_of so ys = count_append so xs ys in omega arith

-- ---- bounds

pub bit_most : (b : Bool) → bit_of b ≤ 1
unfolding bit_of
bit_most true = omega arith
bit_most false = omega arith

-- a trade adds at most one to each
pub one_more : (m : ℕ) (c : List ℕ) (t : Trade) → AllAtMost m c → AllAtMost (m + 1) (with_counts c (t ∷ []))
unfolding with_counts count_of
one_more m c t h zero = omega (arith, h 0, bit_most (ended_by 1 t))
one_more m c t h (suc zero) = omega (arith, h 1, bit_most (ended_by 2 t))
one_more m c t h (suc (suc zero)) = omega (arith, h 2, bit_most (ended_by 3 t))
one_more m c t h (suc (suc (suc zero))) = omega (arith, h 3, bit_most (ended_by 4 t))
one_more m c t h (suc (suc (suc (suc zero)))) = omega (arith, h 4, bit_most (ended_by 5 t))
one_more m c t h (suc (suc (suc (suc (suc zero))))) = omega (arith, h 5, bit_most (ended_by 6 t))
one_more m c t h (suc (suc (suc (suc (suc (suc zero)))))) = omega (arith, h 6, bit_most (won t))
one_more m c t h (suc (suc (suc (suc (suc (suc (suc zero))))))) = omega (arith, h 7, bit_most (lost t))
one_more m c t h (suc (suc (suc (suc (suc (suc (suc (suc i)))))))) = omega arith

-- what `all_small` says
pub small_all : (c : List ℕ) → all_small c ≡ true → AllAtMost most_count c
unfolding all_small
small_all [] h i = omega arith
small_all (x ∷ c) h i = go (leb x most_count) refl h i (small_all c)
  where
    go : (b : Bool) → leb x most_count ≡ b → cond b (all_small c) false ≡ true → (j : ℕ) → (all_small c ≡ true → AllAtMost most_count c)
        → get_or (x ∷ c) j 0 ≤ most_count
    go true e k zero rest = leb-true x most_count e
    go true e k (suc j) rest = rest k j
    go false e k j rest = absurd (false≢true k)

-- .. and what says it
pub all_small_lem : (c : List ℕ) → AllAtMost most_count c → all_small c ≡ true
unfolding all_small
all_small_lem [] h = refl
all_small_lem (x ∷ c) h = rw (le-leb x most_count (h 0)) (all_small_lem c (λ i. h (suc i)))
