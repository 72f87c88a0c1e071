-- What reading every close gives is the highest and the lowest of them, each with its earliest bar. Assumes nothing.
use Rattle.std.specs.Prelude.{ℕ, zero, suc, ◌+◌, ◌<◌, ◌≤◌, ◌≡◌, refl, Bool, true, false, cond, List, get_or}
use Rattle.words.specs.Prelude.{sym, subst, ◌∙◌, true≢false, ℕ_discrete, add-zero, arith}
use Rattle.words.specs.Prelude.{lt_of_le-ne}
use Rattle.blocks.specs.{Reading.above, Reading.below, Reading.join, Reading.reading, Reading.Number, Reading.Earliest, Reading.HighAndLow}
use Rattle.blocks.specs.{Laws.Order.twice, Laws.Order.not_twice, Laws.Order.not_itself}

-- an order of words, as far as the search for the best needs it
record Ordered (over : ℕ → ℕ → Bool) (Of : ℕ → Type 0) : Type 0 where
  itself : (a : ℕ) → Of a → over a a ≡ false
  turn : (a b c : ℕ) → Of a → Of b → Of c → over a b ≡ true → over b c ≡ true → over a c ≡ true
  not_turn : (a b c : ℕ) → Of a → Of b → Of c → over a b ≡ false → over b c ≡ false → over a c ≡ false

by_above : Ordered above Number
by_above = record {
  itself = not_itself;
  turn = λ a b c p q r f g. twice c b a r q p g f;
  not_turn = λ a b c p q r f g. not_twice c b a r q p g f;
}

by_below : Ordered below Number
by_below = record { itself = not_itself; turn = twice; not_turn = not_twice }

module _ (over : ℕ → ℕ → Bool) (o : Ordered over Number) (closes : List ℕ) (held : ℕ) (numbers : (i : ℕ) → i < held → Number (get_or closes i 0)) where
  -- a bar by itself
  alone : (first last : ℕ) → first ≡ last → last < held → Earliest over closes first last (get_or closes first 0) first
  alone first last e h = record {
    from = omega arith;
    upto = omega arith;
    own = refl;
    none_over = λ i f l. at i (omega arith);
    before_under = λ i f l. absurd (omega arith);
  }
    where
      at : (i : ℕ) → i ≡ first → over (get_or closes i 0) (get_or closes first 0) ≡ false
      at i s = subst (λ (k : ℕ). over (get_or closes k 0) (get_or closes first 0) ≡ false) (sym s) (o.itself (get_or closes first 0) (numbers first (omega arith)))

  module _ (first last word bar : ℕ) (h : suc last < held) (begun : first ≤ suc last) (best : Earliest over closes first last word bar) where
    new : ℕ
    new = get_or closes (suc last) 0

    is_number : (i : ℕ) → i ≤ suc last → Number (get_or closes i 0)
    is_number i l = numbers i (omega arith)

    its_number : Number word
    its_number = subst Number (sym best.own) (is_number bar (omega (arith, best.upto)))

    -- the next one is over the best: it is the best now
    taken : over new word ≡ true → Earliest over closes first (suc last) new (suc last)
    unfolding new
    taken up = record {
      from = begun;
      upto = omega arith;
      own = refl;
      none_over = λ i f l. all i f l (ℕ_discrete i (suc last));
      before_under = λ i f l. under (over (get_or closes (suc last) 0) (get_or closes i 0)) i f l refl;
    }
      where
        not_over : (t : Bool) (i : ℕ) → first ≤ i → i ≤ last → over (get_or closes i 0) (get_or closes (suc last) 0) ≡ t → t ≡ false
        not_over false i f l e = refl
        not_over true i f l e =
            absurd (true≢false (sym (o.turn (get_or closes i 0) (get_or closes (suc last) 0) word (is_number i (omega arith))
            (is_number (suc last) (omega arith)) its_number e up) ∙ best.none_over i f l))

        all : (i : ℕ) → first ≤ i → i ≤ suc last → Dec (i ≡ suc last) → over (get_or closes i 0) (get_or closes (suc last) 0) ≡ false
        all i f l (yes e) = subst (λ (k : ℕ). over (get_or closes k 0) (get_or closes (suc last) 0) ≡ false) (sym e)
            (o.itself (get_or closes (suc last) 0) (is_number (suc last) (omega arith)))
        all i f l (no n) = let before : i < suc last = lt_of_le-ne l n in not_over _ i f (omega arith) refl

        under : (t : Bool) (i : ℕ) → first ≤ i → i < suc last → over (get_or closes (suc last) 0) (get_or closes i 0) ≡ t → t ≡ true
        under true i f l e = refl
        under false i f l e =
            absurd (true≢false (sym up ∙ o.not_turn (get_or closes (suc last) 0) (get_or closes i 0) word (is_number (suc last) (omega arith))
            (is_number i (omega arith)) its_number e (best.none_over i f (omega arith))))

    -- it is not: the best stays
    stays : over new word ≡ false → Earliest over closes first (suc last) word bar
    unfolding new
    stays down = record {
      from = best.from;
      upto = omega (arith, best.upto);
      own = best.own;
      none_over = λ i f l. all i f l (ℕ_discrete i (suc last));
      before_under = best.before_under;
    }
      where
        all : (i : ℕ) → first ≤ i → i ≤ suc last → Dec (i ≡ suc last) → over (get_or closes i 0) word ≡ false
        all i f l (yes e) = subst (λ (k : ℕ). over (get_or closes k 0) word ≡ false) (sym e) down
        all i f l (no n) = let before : i < suc last = lt_of_le-ne l n in best.none_over i f (omega arith)

    -- either way
    next : (t : Bool) → over new word ≡ t → Earliest over closes first (suc last) (cond t new word) (cond t (suc last) bar)
    unfolding new
    next true e = taken e
    next false e = stays e

module _ (closes : List ℕ) (held : ℕ) (numbers : (i : ℕ) → i < held → Number (get_or closes i 0)) where
  -- WHAT IS READ IS THE HIGHEST AND THE LOWEST, each with its earliest bar.
  pub reading_is : (first n : ℕ) → first + n < held → HighAndLow closes first (first + n) (reading closes first n)
  unfolding reading join new
  reading_is first zero h = record {
    high = alone above by_above closes held numbers first (first + 0) (sym (add-zero first)) h;
    low = alone below by_below closes held numbers first (first + 0) (sym (add-zero first)) h;
  }
  reading_is first (suc n) h =
      let before = reading_is first n (omega arith) in
      let last : first + suc n ≡ suc (first + n) = omega arith in
      let more : suc (first + n) < held = omega arith in
      let begun : first ≤ suc (first + n) = omega arith in
      rw last (record {
        high = next above by_above closes held numbers first (first + n) _ _ more begun before.high _ refl;
        low = next below by_below closes held numbers first (first + n) _ _ more begun before.low _ refl;
      })
