-- A question among many, and the verdict on all of them. Assumes nothing.
use Rattle.std.specs.Prelude.{Err, Ok, Result}
use Rattle.words.specs.Prelude.{ℕ, ◌+◌, ◌-◌, ◌*◌, ◌<◌, ◌≤◌, ◌≡◌, sym, ap, ◌∙◌, subst, List, [], ◌∷◌, add-one, arith, div-le_self, length, take}
use Rattle.words.specs.{declared.refusal.Refusal.Refusal, Words.overwrite}
use Rattle.rows.specs.{History.history_of}
use Rattle.table.specs.{Header.slots}
use Rattle.table.specs.{Checked.checked}
use Rattle.rules.specs.{declared.position.PositionState.PositionState}
use Rattle.chain.specs.{Chain.ChainLine, Lines.chain_words, Explained.explanation}
use Rattle.refusals.specs.{Lines.judged}
use Rattle.questions.specs.{Position.position_at, Over.asked_rows, Over.rows_to, Over.explanation_over, Over.place_words, Over.lines_over, Over.counts_over}
use Rattle.questions.specs.{Over.over_lines, Over.over_by, Over.over_verdict, Laws.Fine.OverFine, Laws.Fine.over_fine, Laws.Upto.upto_fits}
use Rattle.refusals.specs.{Lines.Verdict}
use Rattle.table.specs.{declared.answer.Accepted.Accepted}
use Rattle.table.specs.{Outcome.accepts}

-- a place of n lies in a list of n places
pub place_fits : (n i long : ℕ) → place_words * n ≤ long → i < n → place_words * i + place_words ≤ long
place_fits n i long h l = omega arith

module _ (t rows ps : List ℕ) (K R : ℕ) (k : K ≡ slots t) (r : R ≡ (history_of K rows).rows) where
  -- there is a row for each position
  pub rows_held : asked_rows ps ≤ (history_of (slots t) rows).rows → asked_rows ps ≤ R
  rows_held h = subst (λ (n : ℕ). asked_rows ps ≤ n) (sym (r ∙ ap (λ (n : ℕ). (history_of n rows).rows) k)) h

  -- no more rows than words
  pub rows_few : R ≤ length rows
  unfolding history_of
  rows_few = subst (λ (n : ℕ). n ≤ length rows) (sym r) (div-le_self (length rows) (7 + K))

  -- the rows up to that of question i are in the list
  pub upto_there : (n i : ℕ) → n ≤ R → i < n → (R - n + i + 1) * (7 + K) ≤ length rows
  upto_there n i h l =
      subst (λ (m : ℕ). (m - n + i + 1) * (7 + K) ≤ length rows) (sym r) (upto_fits K rows n i (subst (λ (m : ℕ). n ≤ m) r h) l)

  module _ (x i : ℕ) (upto : List ℕ) (s : PositionState) (u : upto ≡ take ((R - asked_rows ps + i + 1) * (7 + K)) rows) (p : s ≡ position_at ps i) where
    -- its lines
    asked : explanation t x upto s ≡ explanation_over t x rows ps i
    unfolding explanation_over rows_to
    asked =
        let same : upto ≡ rows_to (slots t) rows (asked_rows ps) i =
        u
        ∙ ap (λ (n : ℕ). take ((n - asked_rows ps + i + 1) * (7 + K)) rows) r
        ∙ ap (λ (n : ℕ). take (((history_of n rows).rows - asked_rows ps + i + 1) * (7 + n)) rows) k in
        ap (λ (w : List ℕ). explanation t x w s) same ∙ ap (explanation t x (rows_to (slots t) rows (asked_rows ps) i)) p

    -- a turn writes the next place
    pub lines_turn : (first list after : List ℕ) → list ≡ lines_over (explanation_over t x rows ps) i first
        → after ≡ overwrite list (place_words * i) (chain_words (explanation t x upto s)) → after ≡ lines_over (explanation_over t x rows ps) (i + 1) first
    unfolding lines_over
    lines_turn first list after e w =
        w
        ∙ ap (λ (l : List ℕ). overwrite l (place_words * i) (chain_words (explanation t x upto s))) e
        ∙ ap (λ (ls : List ChainLine). overwrite (lines_over (explanation_over t x rows ps) i first) (place_words * i) (chain_words ls)) asked
        ∙ ap (λ (n : ℕ). lines_over (explanation_over t x rows ps) n first) (sym (add-one i))

    -- and the next count
    pub counts_turn : (first list after : List ℕ) → list ≡ counts_over (explanation_over t x rows ps) i first
        → after ≡ overwrite list i (length (explanation t x upto s) ∷ []) → after ≡ counts_over (explanation_over t x rows ps) (i + 1) first
    unfolding counts_over
    counts_turn first list after e w =
        w
        ∙ ap (λ (l : List ℕ). overwrite l i (length (explanation t x upto s) ∷ [])) e
        ∙ ap (λ (ls : List ChainLine). overwrite (counts_over (explanation_over t x rows ps) i first) i (length ls ∷ [])) asked
        ∙ ap (λ (n : ℕ). counts_over (explanation_over t x rows ps) n first) (sym (add-one i))

module _ (t rows ps : List ℕ) (lines counts : ℕ) where
  -- a table that is refused
  pub table_refused : (a : Result Accepted Refusal) (why : Refusal) → a ≡ checked t → a ≡ Err why → Err why ≡ over_verdict t rows ps lines counts
  unfolding over_verdict over_by
  table_refused a why found e = rw (sym found ∙ e)

  module _ (K : ℕ) (k : K ≡ slots t) (v : Verdict) (says : v ≡ judged (over_lines K rows ps lines counts)) where
    by_slots : v ≡ judged (over_lines (slots t) rows ps lines counts)
    by_slots = says ∙ ap (λ (n : ℕ). judged (over_lines n rows ps lines counts)) k

    -- one that is accepted
    pub lines_judged : (a : Result Accepted Refusal) (n r : ℕ) → a ≡ checked t → a ≡ accepts n r → v ≡ over_verdict t rows ps lines counts
    unfolding over_verdict over_by
    lines_judged a n r found e = rw (sym found ∙ e) by_slots

    -- where the verdict is fine
    pub seen : v ≡ Ok tt → OverFine (slots t) rows ps lines counts
    seen e = over_fine (slots t) rows ps lines counts (sym by_slots ∙ e)
