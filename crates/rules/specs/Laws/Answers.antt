-- The answer as the evaluator finds it. Assumes nothing.
use Rattle.std.specs.Prelude.{ℕ, ◌<◌, ◌≡◌, refl, Bool, true, false, cond, List, eqb}
use Rattle.words.specs.Prelude.{ap, arith, eqb-true, eqb-false}
use Rattle.words.specs.{Limits.most_nesting}
use Rattle.rows.specs.{History.History}
use Rattle.table.specs.{Header.count, Header.root, Forest.trees, Forest.forest_of, Checked.checked}
use Rattle.table.specs.{Ends.ends_beside, Reading.first_of, Reading.conditions, Reading.tree_of, declared.trees.Tree.Tree, declared.trees.Tree.TheVariants.Entry}
use Rattle.table.specs.{declared.trees.Tree.TheVariants.Exit, declared.trees.Tree.TheVariants.ShortEntry, declared.trees.Tree.TheVariants.ShortExit}
use Rattle.table.specs.{Header.tree_number}
use Rattle.rules.specs.{declared.position.PositionState.PositionState, Meaning.holds, Meaning.says, Flat.flat_condition_at, Laws.FlatReading.tree_joined}
use Rattle.table.specs.{Outcome.accepts}

pub tree_of_four : (tree : Tree) → tree_number tree < 4
tree_of_four Entry = omega arith
tree_of_four Exit = omega arith
tree_of_four ShortEntry = omega arith
tree_of_four ShortExit = omega arith

-- An absent tree says no.
pub absent_says : (t : List ℕ) (x : ℕ) → count t x ≡ 0 → (h : History) (s : PositionState) → says h s (tree_of t x) ≡ false
unfolding says holds tree_of forest_of trees conditions first_of
absent_says t x none h s = rw none

-- The flat reading of a tree of an accepted table says what the tree says.
pub flat_says : (t : List ℕ) (n r : ℕ) → checked t ≡ accepts n r → (x : ℕ) → x < 4 → (h : History) (s : PositionState)
    → cond (eqb (count t x) 0) false (says h s (flat_condition_at most_nesting t (ends_beside t) (root t x))) ≡ says h s (tree_of t x)
flat_says t n r ok x l h s = go (eqb (count t x) 0) refl
  where
    go : (b : Bool) → eqb (count t x) 0 ≡ b → cond b false (says h s (flat_condition_at most_nesting t (ends_beside t) (root t x))) ≡ says h s (tree_of t x)
    go true e = rw (absent_says t x (eqb-true (count t x) 0 e) h s)
    go false e = ap (says h s) (tree_joined t n r ok x l (omega (arith, eqb-false (count t x) 0 e)))
