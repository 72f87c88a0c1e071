-- EQUAL RUNS: no lines exactly where the lists of trades are equal, and the equity of the points. Assumes nothing.
use Rattle.std.specs.Prelude.{ℕ, zero, suc, ◌+◌, ◌*◌, ◌/◌, ◌%◌, ◌<◌, ◌≤◌, min, ◌≡◌, refl, List, [], ◌∷◌, get_or, length, Ok}
use Rattle.words.specs.Prelude.{sym, ap, subst, ◌∙◌, ⊎_elim, arith}
use Rattle.words.specs.Prelude.{ext_get_or}
use Rattle.words.specs.{Limits.trade_words}
use Rattle.differences.specs.{Lines.Line, Lines.points, Lines.trades, Lines.equity_at, Lines.differences, Truth.Says, Truth.equity, Truth.trade}
use Rattle.differences.specs.{Compared.compared, Laws.Written.no_lines, Truth.more_trades}
use Rattle.differences.specs.{Truth.more_points, Truth.AllAndOnly, Truth.Equal, Laws.First.same_or, Laws.First.not_last, Laws.Said.at_place}
use Rattle.differences.specs.{Laws.Said.within, Laws.Said.its_place, Laws.Said.lines_so, Laws.AllAndOnly.came}
use mathlib.Core.List.Memᴰ

-- one of as many as both have
below_both : (k x y : ℕ) → x ≡ y → k < x → k < min x y
below_both k x y s h = omega arith

module _ (e t e' t' : List ℕ) where
  -- of equal runs no line is so
  none_so : Equal e t e' t' → (l : Line) → Says e t e' t' l → ⊥
  none_so q l (equity k h d u is) = d (q.same k (ours k (points e) (points e') h))
    where
      ours : (k x y : ℕ) → k < min x y → k < x
      ours k x y h = omega arith
  none_so q l (trade x w h b d is) = d (ap (λ (z : List ℕ). get_or z (trade_words * x + w) 0) q.list)
  none_so q l (more_trades d is) = d (ap trades q.list)
  none_so q l (more_points d is) = d q.many

  equal_none : (ls : List Line) → AllAndOnly e t e' t' ls → Equal e t e' t' → ls ≡ []
  equal_none [] a q = refl
  equal_none (l ∷ ls) a q = absurd (none_so q l (a.only l (Memᴰ.head refl)))

  -- where no line stands, nothing that a line could tell of differs
  module _ (p : length t % trade_words ≡ 0) (q : length t' % trade_words ≡ 0) (a : AllAndOnly e t e' t' []) where
    unsaid : (l : Line) → Says e t e' t' l → ⊥
    unsaid l s = Memᴰ.not-nil (a.all l s)

    same_points : points e ≡ points e'
    same_points = ⊎_elim (λ (s : points e ≡ points e'). s) (λ (d : points e ≡ points e' → ⊥). absurd (unsaid _ (more_points d refl)))
        (same_or (points e) (points e'))

    same_trades : trades t ≡ trades t'
    same_trades = ⊎_elim (λ (s : trades t ≡ trades t'). s) (λ (d : trades t ≡ trades t' → ⊥). absurd (unsaid _ (more_trades d refl)))
        (same_or (trades t) (trades t'))

    same_equity : (n : ℕ) → n ≤ points e → (k : ℕ) → k < n → equity_at e k ≡ equity_at e' k
    same_equity zero h k l = absurd (omega arith)
    same_equity (suc n) h k l =
        let u = same_equity n (less n (points e) h) in
        ⊎_elim
        (λ (s : k ≡ n). subst (λ (z : ℕ). equity_at e z ≡ equity_at e' z) (sym s)
        (⊎_elim (λ (r : equity_at e n ≡ equity_at e' n). r)
        (λ (d : equity_at e n ≡ equity_at e' n → ⊥). absurd (unsaid _ (equity n (below_both n (points e) (points e') same_points h) d u refl)))
        (same_or (equity_at e n) (equity_at e' n))))
        (λ (v : k ≡ n → ⊥). u k (not_last k n l v))
        (same_or k n)
      where
        less : (x y : ℕ) → suc x ≤ y → x ≤ y
        less x y h = omega arith

    same_length : length t ≡ length t'
    same_length = long (length t) (length t') p q same_trades
      where
        long : (x y : ℕ) → x % 10 ≡ 0 → y % 10 ≡ 0 → x / 10 ≡ y / 10 → x ≡ y
        long x y p q s = omega arith

    same_word : (i : ℕ) → i < length t → get_or t i 0 ≡ get_or t' i 0
    same_word i h = ⊎_elim (λ (s : get_or t i 0 ≡ get_or t' i 0). s)
        (λ (d : get_or t i 0 ≡ get_or t' i 0 → ⊥). absurd (unsaid _
        (trade (i / 10) (i % 10) (its_place i (min (trades t) (trades t')) (of_both i (length t) (length t') p same_trades h)) (within i)
        (λ s. d (ap (λ (z : ℕ). get_or t z 0) (sym (at_place i)) ∙ s ∙ ap (λ (z : ℕ). get_or t' z 0) (at_place i))) refl)))
        (same_or (get_or t i 0) (get_or t' i 0))
      where
        of_both : (i x y : ℕ) → x % 10 ≡ 0 → x / 10 ≡ y / 10 → i < x → i < 10 * min (x / 10) (y / 10)
        of_both i x y p s h = omega arith

    none_equal : Equal e t e' t'
    none_equal = record {
      list = ext_get_or 0 t t' same_length same_word;
      many = same_points;
      same = same_equity (points e) (reached (points e));
    }
      where
        reached : (x : ℕ) → x ≤ x
        reached x = omega arith

  pub equal_silent : Equal e t e' t' → differences e t e' t' ≡ []
  equal_silent = equal_none (differences e t e' t') (lines_so e t e' t')

  pub silent_equal : length t % trade_words ≡ 0 → length t' % trade_words ≡ 0 → differences e t e' t' ≡ [] → Equal e t e' t'
  silent_equal p q s = none_equal p q (subst (AllAndOnly e t e' t') s (lines_so e t e' t'))

  -- EQUAL RUNS, of an answer: there are no lines exactly where the runs are equal.
  pub none_exactly : (room : List ℕ) (n : ℕ) (after : List ℕ) → compared e t e' t' room ≡ record { answer = Ok n; room = after }
      → (n ≡ 0 → Equal e t e' t') × (Equal e t e' t' → n ≡ 0)
  none_exactly room n after h =
      let c = came e t e' t' room n after h in (
        λ z. silent_equal c.whole_list c.whole_other (no_lines (differences e t e' t') (c.count ∙ z)),
        λ q. sym c.count ∙ ap length (equal_silent q),
      )
