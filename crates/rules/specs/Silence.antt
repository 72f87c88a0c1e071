-- A test that reaches back as many bars as there are rows, or more, answers no. Assumes nothing.
use Rattle.std.specs.Prelude.{ℕ, ◌-◌, ◌≤◌, ◌<◌, ◌≡◌, refl, Bool, true, false, not, cond, ◌&&◌, ltb, leb, eqb, None}
use Rattle.words.specs.Prelude.{sym, true≢false, arith, ltb-true, ltb-false}
use Rattle.words.specs.Prelude.{leb-true, leb-false, eqb-false}
use Rattle.rows.specs.{History.History}
use Rattle.table.specs.{Trees.Operand, Trees.const, Trees.ref, Trees.price, Trees.prev, Trees.arith as sums, Trees.extreme, Trees.reach, Trees.Condition}
use Rattle.table.specs.{Trees.compare, Trees.cross, Trees.between, Trees.trend, Trees.every, Trees.any, Trees.negated, Trees.in_position, Trees.bars_since}
use Rattle.table.specs.{Trees.reach_of, Silent.is_test}
use Rattle.rules.specs.{declared.position.PositionState.PositionState, Values.combined, Values.compared}
use Rattle.rules.specs.{Values.crossed, Values.within, Values.trended, Meaning.newest, Meaning.there, Meaning.value, Meaning.holds, Meaning.says}
use Rattle.rules.specs.{Laws.Meaning.extreme_early, Laws.Meaning.past, Laws.Missing.missing_there, Laws.Missing.both_late, Laws.Missing.compared_late}
use Rattle.rules.specs.{Laws.Missing.trended_late, Laws.Missing.within_low, Laws.Missing.within_high, Laws.Missing.within_value}
use Rattle.rules.specs.{Laws.Missing.crossed_first, Laws.Missing.crossed_second}

-- ---- an operand that reaches back beyond bar 0 is missing

far : (h : History) (a : Operand) (i : ℕ) → i < reach a → value h a i ≡ None
unfolding value reach
far h (const bits) i l = absurd (omega arith)
far h (ref slot) i l = absurd (omega arith)
far h (price selector) i l = absurd (omega arith)
far h (prev a n) i l = go (λ k. far h a (i - n) k) (ltb i n) refl
  where
    go : (i - n < reach a → value h a (i - n) ≡ None) → (b : Bool) → ltb i n ≡ b → there h i (cond b None (value h a (i - n))) ≡ None
    go below true e = missing_there h i
    go below false e = rw (below (omega (arith, ltb-false i n e))) (missing_there h i)
far h (extreme k s n) i l = extreme_early h k s n i l
far h (sums k a b) i l = go (λ m. far h a i m) (λ m. far h b i m) (ltb i (reach a)) refl
  where
    go : (i < reach a → value h a i ≡ None) → (i < reach b → value h b i ≡ None) → (t : Bool) → ltb i (reach a) ≡ t
        → combined k (value h a i) (value h b i) ≡ None
    go left right true e = rw (left (ltb-true i (reach a) e)) (unfold combined in refl)
    go left right false e = rw (right (omega (arith, ltb-false i (reach a) e))) (both_late k (value h a i))

-- at the newest bar, where there are no more rows than it reaches back
gone : (h : History) (a : Operand) → h.rows ≤ reach a → value h a (newest h) ≡ None
unfolding newest
gone h a l = go (ltb 0 h.rows) refl
  where
    go : (b : Bool) → ltb 0 h.rows ≡ b → value h a (h.rows - 1) ≡ None
    go true e = far h a (h.rows - 1) (omega (arith, ltb-true 0 h.rows e))
    go false e = past h a (h.rows - 1) (omega (arith, ltb-false 0 h.rows e))

-- ---- a test over no more rows than it reaches back

module _ (h : History) (p : PositionState) where
  few_compare : (k : ℕ) (a b : Operand) → h.rows ≤ reach_of (compare k a b) → holds h p (compare k a b) (newest h) ≡ false
  unfolding holds reach_of
  few_compare k a b l = go (leb h.rows (reach a)) refl
    where
      go : (t : Bool) → leb h.rows (reach a) ≡ t → compared k (value h a (newest h)) (value h b (newest h)) ≡ false
      go true e = rw (gone h a (leb-true h.rows (reach a) e)) (unfold compared in refl)
      go false e = rw (gone h b (omega (arith, leb-false h.rows (reach a) e))) (compared_late k (value h a (newest h)))

  few_between : (x l u : Operand) → h.rows ≤ reach_of (between x l u) → holds h p (between x l u) (newest h) ≡ false
  unfolding holds reach_of
  few_between x l u f = go (leb h.rows (reach x)) (leb h.rows (reach l)) refl refl
    where
      go : (s t : Bool) → leb h.rows (reach x) ≡ s → leb h.rows (reach l) ≡ t
          → within (value h x (newest h)) (value h l (newest h)) (value h u (newest h)) ≡ false
      go true t e g = rw (gone h x (leb-true h.rows (reach x) e)) (within_value (value h l (newest h)) (value h u (newest h)))
      go false true e g = rw (gone h l (leb-true h.rows (reach l) g)) (within_low (value h x (newest h)) (value h u (newest h)))
      go false false e g =
          rw (gone h u (omega (arith, leb-false h.rows (reach x) e, leb-false h.rows (reach l) g)))
          (within_high (value h x (newest h)) (value h l (newest h)))

  few_cross : (k : ℕ) (a b : Operand) → h.rows ≤ reach_of (cross k a b) → holds h p (cross k a b) (newest h) ≡ false
  unfolding holds reach_of newest
  few_cross k a b l = go (eqb (h.rows - 1) 0) refl
    where
      go : (t : Bool) → eqb (h.rows - 1) 0 ≡ t
          → (not t && crossed k (value h a (h.rows - 1)) (value h b (h.rows - 1)) (value h a (h.rows - 1 - 1)) (value h b (h.rows - 1 - 1))) ≡ false
      go true e = refl
      go false e = side (ltb (h.rows - 1 - 1) (reach a)) refl
        where
          side : (u : Bool) → ltb (h.rows - 1 - 1) (reach a) ≡ u
              → crossed k (value h a (h.rows - 1)) (value h b (h.rows - 1)) (value h a (h.rows - 1 - 1)) (value h b (h.rows - 1 - 1)) ≡ false
          side true g =
              rw (far h a (h.rows - 1 - 1) (ltb-true (h.rows - 1 - 1) (reach a) g))
              (crossed_first k (value h a (h.rows - 1)) (value h b (h.rows - 1)) (value h b (h.rows - 1 - 1)))
          side false g =
              rw (far h b (h.rows - 1 - 1) (omega (arith, ltb-false (h.rows - 1 - 1) (reach a) g, eqb-false (h.rows - 1) 0 e)))
              (crossed_second k (value h a (h.rows - 1)) (value h b (h.rows - 1)) (value h a (h.rows - 1 - 1)))

  few_trend : (k : ℕ) (a : Operand) (n : ℕ) → h.rows ≤ reach_of (trend k a n) → holds h p (trend k a n) (newest h) ≡ false
  unfolding holds reach_of newest
  few_trend k a n l = go (ltb (h.rows - 1) n) refl
    where
      then_missing : n ≤ h.rows - 1 → value h a (h.rows - 1 - n) ≡ None
      then_missing late = side (ltb 0 h.rows) refl
        where
          side : (u : Bool) → ltb 0 h.rows ≡ u → value h a (h.rows - 1 - n) ≡ None
          side true g = far h a (h.rows - 1 - n) (omega (arith, ltb-true 0 h.rows g))
          side false g = past h a (h.rows - 1 - n) (omega (arith, ltb-false 0 h.rows g))

      go : (t : Bool) → ltb (h.rows - 1) n ≡ t → (not t && trended k (value h a (h.rows - 1)) (value h a (h.rows - 1 - n))) ≡ false
      go true e = refl
      go false e = rw (then_missing (ltb-false (h.rows - 1) n e)) (trended_late k (value h a (h.rows - 1)))

  -- SILENCE: over no more rows than it reaches back, a test says no, whatever the rows hold.
  pub test_silent : (c : Condition) → is_test c ≡ true → h.rows ≤ reach_of c → says h p c ≡ false
  unfolding is_test says
  test_silent (compare k a b) t l = few_compare k a b l
  test_silent (cross k a b) t l = few_cross k a b l
  test_silent (between x lo hi) t l = few_between x lo hi l
  test_silent (trend k a n) t l = few_trend k a n l
  test_silent (every cs) t l = absurd (true≢false (sym t))
  test_silent (any cs) t l = absurd (true≢false (sym t))
  test_silent (negated c) t l = absurd (true≢false (sym t))
  test_silent (in_position w) t l = absurd (true≢false (sym t))
  test_silent (bars_since s k) t l = absurd (true≢false (sym t))
