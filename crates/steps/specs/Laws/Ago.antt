-- Operands n rows before the newest bar: laws that the translation rests on.
use Rattle.std.specs.Prelude.{ℕ, ◌+◌, ◌-◌, ◌≤◌, ◌<◌, ◌≡◌, refl, Bool, true, false, not, cond, ◌&&◌, ltb, eqb, Float, None, Option}
use Rattle.words.specs.Prelude.{sym, ap, ◌∙◌, arith, sub-zero, lt-ltb, le-ltb}
use Rattle.words.specs.Prelude.{ltb-true, ltb-false, eqb-true, eqb-false}
use Rattle.rows.specs.{History.History}
use Rattle.table.specs.{Trees.Operand, Trees.prev, Trees.arith as sums}
use Rattle.rules.specs.{Values.combined, Values.compared, Values.crossed}
use Rattle.rules.specs.{Values.trended, Meaning.there, Meaning.value, Meaning.newest, Laws.Missing.compared_late, Laws.Missing.crossed_first, Laws.Meaning.past}
use Rattle.steps.specs.{Machine.ago, Translation.trend_test}

module _ (h : History) where
  pub arith_ago : (k : ℕ) (a b : Operand) (n : ℕ) → ago h (sums k a b) n ≡ combined k (ago h a n) (ago h b n)
  unfolding ago value combined
  arith_ago k a b n = go (ltb n h.rows)
    where
      go : (t : Bool) → cond t (combined k (value h a (newest h - n)) (value h b (newest h - n))) None
          ≡ combined k (cond t (value h a (newest h - n)) None) (cond t (value h b (newest h - n)) None)
      go true = refl
      go false = refl

  -- Prev adds its n to the look-back
  pub prev-ago : (a : Operand) (m n : ℕ) → ago h (prev a m) n ≡ ago h a (n + m)
  unfolding ago value there newest
  prev-ago a m n = go (ltb n h.rows) (ltb (h.rows - 1 - n) m) refl refl
    where
      go : (t u : Bool) → ltb n h.rows ≡ t → ltb (h.rows - 1 - n) m ≡ u → ago h (prev a m) n ≡ ago h a (n + m)
      go false u e f = simp (e, le-ltb (n + m) h.rows (omega (arith, ltb-false n h.rows e)))
      go true true e f =
          simp (
            e,
            f,
            lt-ltb (h.rows - 1 - n) h.rows (omega (arith, ltb-true n h.rows e)),
            le-ltb (n + m) h.rows
                (omega (arith, ltb-true (h.rows - 1 - n) m f)),
          )
      go true false e f =
          let at : h.rows - 1 - n - m ≡ h.rows - 1 - (n + m) = omega arith in
          simp (
            e,
            f,
            at,
            lt-ltb (h.rows - 1 - n) h.rows (omega (arith, ltb-true n h.rows e)),
            lt-ltb (n + m) h.rows
                (omega (arith, ltb-true n h.rows e, ltb-false (h.rows - 1 - n) m f)),
          )

  at_ago : (a : Operand) (n : ℕ) → n ≤ newest h → ago h a n ≡ value h a (newest h - n)
  unfolding ago newest
  at_ago a n le = go (ltb n h.rows) refl
    where
      go : (t : Bool) → ltb n h.rows ≡ t → ago h a n ≡ value h a (h.rows - 1 - n)
      go true e = rw e
      go false e = rw e (sym (past h a (h.rows - 1 - n) (omega (arith, ltb-false n h.rows e))))

  pub now_ago : (a : Operand) → ago h a 0 ≡ value h a (newest h)
  now_ago a = at_ago a 0 (omega arith) ∙ ap (value h a) (sub-zero (newest h))

  late_ago : (a : Operand) (n : ℕ) → newest h < n → ago h a n ≡ None
  unfolding ago newest
  late_ago a n l = rw (le-ltb n h.rows (omega arith))

-- Rising and Falling are comparisons of their own
trend_test_lem : (k : ℕ) (x y : Option Float) → compared (trend_test k) x y ≡ trended k x y
unfolding trended
trend_test_lem k x y = go (eqb k 25)
  where
    go : (t : Bool) → compared (cond t 16 17) x y ≡ cond t (compared 16 x y) (compared 17 x y)
    go true = refl
    go false = refl

-- a missing value answers no, which covers "no at bar 0" and "too few bars"
module _ (h : History) where
  pub cross_ago : (k : ℕ) (a b : Operand) → crossed k (ago h a 0) (ago h b 0) (ago h a 1) (ago h b 1)
      ≡ not (eqb (newest h) 0) && crossed k (value h a (newest h)) (value h b (newest h)) (value h a (newest h - 1)) (value h b (newest h - 1))
  cross_ago k a b = go (eqb (newest h) 0) refl
    where
      go : (t : Bool) → eqb (newest h) 0 ≡ t → crossed k (ago h a 0) (ago h b 0) (ago h a 1) (ago h b 1)
          ≡ not t && crossed k (value h a (newest h)) (value h b (newest h)) (value h a (newest h - 1)) (value h b (newest h - 1))
      go true e = rw (late_ago h a 1 (omega (arith, eqb-true (newest h) 0 e))) (crossed_first k (ago h a 0) (ago h b 0) (ago h b 1))
      go false e =
          let one : 1 ≤ newest h = omega (arith, eqb-false (newest h) 0 e) in
          rw (now_ago h a, now_ago h b, at_ago h a 1 one, at_ago h b 1 one)

  pub trend_ago : (k : ℕ) (a : Operand) (n : ℕ) → compared (trend_test k) (ago h a 0) (ago h a n)
      ≡ not (ltb (newest h) n) && trended k (value h a (newest h)) (value h a (newest h - n))
  trend_ago k a n = go (ltb (newest h) n) refl
    where
      go : (t : Bool) → ltb (newest h) n ≡ t
          → compared (trend_test k) (ago h a 0) (ago h a n) ≡ not t && trended k (value h a (newest h)) (value h a (newest h - n))
      go true e = rw (late_ago h a n (ltb-true (newest h) n e)) (compared_late (trend_test k) (ago h a 0))
      go false e = rw (now_ago h a, at_ago h a n (ltb-false (newest h) n e)) (trend_test_lem k _ _)
