-- The lines of a tree, and the answer of the call, case by case. Assumes nothing.
use Rattle.std.specs.Prelude.{Err, Ok, Result}
use Rattle.words.specs.Prelude.{ℕ, ◌+◌, ◌*◌, ◌≤◌, ◌<◌, ◌≡◌, refl, sym, ap, ◌∙◌, Bool, true, false, List, ◌++◌, arith, zero-add, length, drop, lt-ltb, le-ltb}
use Rattle.words.specs.Prelude.{le-leb, lt-leb, eq-eqb, ne_eqb}
use Rattle.words.specs.{declared.refusal.Refusal.Refusal}
use Rattle.rows.specs.{History.history_of, History.whole_rows}
use Rattle.table.specs.{Bytes.Bytes}
use Rattle.table.specs.{Header.slots, Header.count, Header.root, Checked.checked, Ends.ends_beside}
use Rattle.rules.specs.{declared.position.PositionState.PositionState, Meaning.newest, Flat.flat_condition_at, Answers.state_right}
use Rattle.chain.specs.{Chain.chain, Lines.chain_words}
use Rattle.chain.specs.{Lines.put_lines, Explained.explanation, Explained.explained_by, Explained.explained, Explained.lines_after_answer, Flat.by_ends}
use Rattle.chain.specs.{Flat.flat_explanation, Laws.Numbered.explanation_found, Laws.Lines.lines_put, Laws.Short.few_lines}
use Rattle.table.specs.{declared.answer.Accepted.Accepted}
use Rattle.table.specs.{Outcome.accepts}

module _ (t ends : List ℕ) (x : ℕ) (rows : List ℕ) (s : PositionState) (list : List ℕ) where
  -- no such tree
  pub no_tree : 4 ≤ x → (0 ≡ length (flat_explanation t ends x rows s)) × (list ≡ put_lines list 0 (flat_explanation t ends x rows s))
  unfolding flat_explanation put_lines
  no_tree l = rw (le-leb 4 x l) (refl, refl)

  module _ (low : x < 4) (c : ℕ) (counted : c ≡ count t x) where
    pub absent_tree : c ≡ 0 → (0 ≡ length (flat_explanation t ends x rows s)) × (list ≡ put_lines list 0 (flat_explanation t ends x rows s))
    unfolding flat_explanation put_lines
    absent_tree e = rw (lt-leb 4 x low, ← counted, eq-eqb c 0 e) (refl, refl)

    pub present_tree : (c ≡ 0 → ⊥) → (k i bar r : ℕ) (after : List ℕ) → k ≡ slots t → i ≡ root t x → bar ≡ newest (history_of k rows)
        → r ≡ 0 + length (chain (by_ends ends) (history_of k rows) s (flat_condition_at 32 t ends i) i bar)
        → after ≡ put_lines list 0 (chain (by_ends ends) (history_of k rows) s (flat_condition_at 32 t ends i) i bar)
        → (r ≡ length (flat_explanation t ends x rows s)) × (after ≡ put_lines list 0 (flat_explanation t ends x rows s))
    unfolding flat_explanation
    present_tree some k i bar r after e f g many put =
        rw (lt-leb 4 x low, ← counted, ne_eqb c 0 some, ← e, ← f, ← g) (many ∙ zero-add _, put)

module _ (t : List ℕ) (x : ℕ) (rows : List ℕ) (s : PositionState) (list : List ℕ) where
  pub refused : (a : Result Accepted Refusal) (why : Refusal) → a ≡ checked t → a ≡ Err why
      → (Err why ≡ explained t x rows s list) × (list ≡ lines_after_answer (Err why) (explanation t x rows s) list)
  unfolding explained explained_by lines_after_answer
  refused a why e f = (rw (← e, f), refl)

  module _ (a : Result Accepted Refusal) (n r : ℕ) (found : a ≡ checked t) (accepted : a ≡ accepts n r) where
    ok : checked t ≡ accepts n r
    ok = sym found ∙ accepted

    pub too_small : length list < 256
        → (Err (Refusal.Room 10) ≡ explained t x rows s list) × (list ≡ lines_after_answer (Err (Refusal.Room 10)) (explanation t x rows s) list)
    unfolding explained explained_by lines_after_answer
    too_small l = (rw (ok, lt-ltb (length list) 256 l), refl)

    module _ (fits : 256 ≤ length list) (whole : Bool) (w : whole ≡ whole_rows (slots t) rows) where
      pub unwhole : whole ≡ false
          → (Err Refusal.Records ≡ explained t x rows s list) × (list ≡ lines_after_answer (Err Refusal.Records) (explanation t x rows s) list)
      unfolding explained explained_by lines_after_answer
      unwhole e = (rw (ok, le-ltb (length list) 256 fits, ← w, e), refl)

      module _ (e : whole ≡ true) (right : Bool) (p : right ≡ state_right s) where
        pub unright : right ≡ false
            → (Err Refusal.Records ≡ explained t x rows s list) × (list ≡ lines_after_answer (Err Refusal.Records) (explanation t x rows s) list)
        unfolding explained explained_by lines_after_answer
        unright f = (rw (ok, le-ltb (length list) 256 fits, ← w, ← p, e, f), refl)

        pub explains : right ≡ true → Bytes t → (ends : List ℕ) → ends ≡ ends_beside t → (m : ℕ) (after : List ℕ)
            → m ≡ length (flat_explanation t ends x rows s) → after ≡ put_lines list 0 (flat_explanation t ends x rows s)
            → (Ok m ≡ explained t x rows s list) × (after ≡ lines_after_answer (Ok m) (explanation t x rows s) list)
        unfolding explained explained_by lines_after_answer
        explains f small ends g m after many put =
            let ls = explanation t x rows s in
            let same : flat_explanation t ends x rows s ≡ ls = rw g (explanation_found t n r ok x rows s) in
            let short : length ls ≤ 32 = few_lines t small n r ok x rows s in
            let written : after ≡ chain_words ls ++ drop (8 * length ls) list =
            rw same at put ∙ lines_put ls list 0 (omega arith) ∙ ap (λ (k : ℕ). chain_words ls ++ drop (8 * k) list) (zero-add (length ls)) in
            (rw (ok, le-ltb (length list) 256 fits, ← w, ← p, e, f) (ap Ok (many ∙ ap length same)), written)
