-- THE WINDOW, whatever its length. Assumes nothing.
use Rattle.std.specs.Prelude.{ℕ, ◌-◌, ◌≤◌, ◌<◌, ◌≡◌, refl, Bool, true, false, not, cond, List, leb}
use Rattle.words.specs.Prelude.{ap, arith, lt-leb, leb-true, leb-false}
use Rattle.rows.specs.{History.History, History.history_of, History.last_rows}
use Rattle.table.specs.{Trees.Condition, Trees.Conditions, Trees.compare, Trees.cross, Trees.between, Trees.trend, Trees.every, Trees.any, Trees.negated}
use Rattle.table.specs.{Trees.in_position, Trees.bars_since, Trees.none, Trees.more, Trees.reach_of, Trees.reach_of_all, Silent.is_test, Silent.silent}
use Rattle.rules.specs.{declared.position.PositionState.PositionState, Meaning.newest, Meaning.holds, Meaning.all_hold, Meaning.any_holds, Meaning.says}
use Rattle.rules.specs.{Window.Without, Window.without_first, Window.window, Shortage.unless_silent, Shortage.struck_out, Shortage.struck_out_all}
use Rattle.rules.specs.{Silence.test_silent}

module _ (K d : ℕ) (ws : List ℕ) (p : PositionState) where
  h : History
  h = history_of K ws

  w : History
  w = history_of K (last_rows K d ws)

  few : w.rows ≤ d
  unfolding w
  few =
      let part : Without (history_of K ws) (history_of K (last_rows K d ws)) ((history_of K ws).rows - d) =
      unfold last_rows history_of in without_first K ((history_of K ws).rows - d) ws (omega arith) in
      omega (arith, part.count)

  -- a test: as over all rows where it is near, no where it is far
  test : (c : Condition) → is_test c ≡ true → holds w p c (newest w) ≡ holds h p (unless_silent d c) (newest h)
  unfolding unless_silent silent h w
  test c is = rw is (go (leb d (reach_of c)) refl)
    where
      go : (t : Bool) → leb d (reach_of c) ≡ t → holds (history_of K (last_rows K d ws)) p c (newest (history_of K (last_rows K d ws)))
          ≡ holds (history_of K ws) p (cond t (any none) c) (newest (history_of K ws))
      go true e = unfold holds says in test_silent (history_of K (last_rows K d ws)) p c is (unfold w in omega (arith, few, leb-true d (reach_of c) e))
      go false e = unfold says in window K d ws p c (leb-false d (reach_of c) e)

  mutual
    unfolding struck_out holds is_test

    at : (c : Condition) → holds w p c (newest w) ≡ holds h p (struck_out d c) (newest h)
    at (compare k a b) = test (compare k a b) refl
    at (cross k a b) = test (cross k a b) refl
    at (between x l u) = test (between x l u) refl
    at (trend k a n) = test (trend k a n) refl
    at (every cs) = all_at cs
    at (any cs) = any_at cs
    at (negated c) = ap not (at c)
    at (in_position wanted) = refl
    at (bars_since selector k) = refl

    all_at : (cs : Conditions) → all_hold w p cs (newest w) ≡ all_hold h p (struck_out_all d cs) (newest h)
    all_at none = refl
    all_at (more c cs) = rw (at c, all_at cs)

    any_at : (cs : Conditions) → any_holds w p cs (newest w) ≡ any_holds h p (struck_out_all d cs) (newest h)
    any_at none = refl
    any_at (more c cs) = rw (at c, any_at cs)

-- ANY WINDOW: for every d, rows, position and condition, over the last d rows the condition says what it says over all rows with each
-- test that reaches back d bars or more replaced by no.
pub any-window : (K d : ℕ) (ws : List ℕ) (p : PositionState) (c : Condition)
    → says (history_of K (last_rows K d ws)) p c ≡ says (history_of K ws) p (struck_out d c)
unfolding says
any-window K d ws p c = unfold h w in at K d ws p c

-- ENOUGH: a condition that reaches back less than d bars has nothing struck out.
mutual
  unfolding struck_out struck_out_all unless_silent silent is_test reach_of

  pub enough : (d : ℕ) (c : Condition) → reach_of c < d → struck_out d c ≡ c
  enough d (compare k a b) l = rw (lt-leb d (reach_of (compare k a b)) l)
  enough d (cross k a b) l = rw (lt-leb d (reach_of (cross k a b)) l)
  enough d (between x lo hi) l = rw (lt-leb d (reach_of (between x lo hi)) l)
  enough d (trend k a n) l = rw (lt-leb d (reach_of (trend k a n)) l)
  enough d (every cs) l = ap every (enough_all d cs l)
  enough d (any cs) l = ap any (enough_all d cs l)
  enough d (negated c) l = ap negated (enough d c l)
  enough d (in_position w) l = refl
  enough d (bars_since s k) l = refl

  enough_all : (d : ℕ) (cs : Conditions) → reach_of_all cs < d → struck_out_all d cs ≡ cs
  enough_all d none l = refl
  enough_all d (more c cs) l = rw (enough d c (omega arith), enough_all d cs (omega arith))
