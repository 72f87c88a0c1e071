-- The answer of a rule, case by case. Assumes nothing.
use Rattle.std.specs.Prelude.{Err, Ok, Result}
use Rattle.words.specs.Prelude.{ℕ, ◌≡◌, sym, ap, ◌∙◌, Bool, true, false, cond, List, eqb}
use Rattle.words.specs.{Limits.most_nesting, declared.refusal.Refusal.Refusal}
use Rattle.rows.specs.{History.history_of, History.whole_rows}
use Rattle.table.specs.{Header.slots}
use Rattle.table.specs.{Header.count, Header.root, Checked.checked, Ends.ends_beside, declared.trees.Tree.Tree, Header.tree_number}
use Rattle.rules.specs.{declared.position.PositionState.PositionState}
use Rattle.rules.specs.{Meaning.says, Flat.flat_condition_at, Answers.state_right, Answers.judged}
use Rattle.rules.specs.{Answers.after_check, Answers.answered, Laws.Answers.tree_of_four, Laws.Answers.flat_says}
use Rattle.table.specs.{declared.answer.Accepted.Accepted}
use Rattle.table.specs.{Outcome.accepts}

module _ (t : List ℕ) (tree : Tree) (rows : List ℕ) (s : PositionState) where
  pub refused : (a : Result Accepted Refusal) (why : Refusal) → a ≡ checked t → a ≡ Err why → Err why ≡ answered t tree rows s
  unfolding answered after_check
  refused a why e f = rw (← e, f)

  module _ (a : Result Accepted Refusal) (n r : ℕ) (found : a ≡ checked t) (accepted : a ≡ accepts n r) (whole : Bool) (w : whole ≡ whole_rows (slots t) rows) where
    ok : checked t ≡ accepts n r
    ok = sym found ∙ accepted

    pub unwhole : whole ≡ false → Err Refusal.Records ≡ answered t tree rows s
    unfolding answered after_check judged
    unwhole e = rw (ok, ← w, e)

    module _ (e : whole ≡ true) (right : Bool) (p : right ≡ state_right s) where
      pub unright : right ≡ false → Err Refusal.Records ≡ answered t tree rows s
      unfolding answered after_check judged
      unright f = rw (ok, ← w, ← p, e, f)

      pub answers : right ≡ true → (ends : List ℕ) → ends ≡ ends_beside t → (x : ℕ) → x ≡ tree_number tree → (b : Bool)
          → b ≡ cond (eqb (count t x) 0) false (says (history_of (slots t) rows) s (flat_condition_at most_nesting t ends (root t x)))
          → Ok b ≡ answered t tree rows s
      unfolding answered after_check judged
      answers f ends g x h b i =
          rw (ok, ← w, ← p, e, f) (ap Ok (i ∙ rw (g, h) (flat_says t n r ok (tree_number tree) (tree_of_four tree) (history_of (slots t) rows) s)))
