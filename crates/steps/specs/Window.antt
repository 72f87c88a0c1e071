-- What the steps of an accepted table's tree answer over a window of rows: the theorems that a user rests on.
use Rattle.std.specs.Prelude.{ℕ, ◌+◌, ◌≤◌, ◌<◌, ◌≡◌, refl, true, List, [], length, Ok}
use Rattle.words.specs.Prelude.{◌∙◌, arith, eq-zero-or-pos, ⊎_elim, eq-eqb, ne_eqb, le-ltb}
use Rattle.words.specs.{Limits.most_slots, Limits.most_rows, Limits.most_reach, Limits.most_steps}
use Rattle.rows.specs.{History.History, History.history_of, History.last_rows, History.whole_rows}
use Rattle.table.specs.{Trees.reach_of, Header.slots, Header.count, Header.root, Header.form_of, Checked.checked}
use Rattle.table.specs.{Reading.tree_of, Reading.present, Laws.Accepted.header_of_lem, Laws.Accepted.tree_ends, Limits.TreeWithin, Bytes.Bytes}
use Rattle.roundtrip.specs.{Laws.AcceptedWithin.tree_within, Laws.AcceptedWritten.tree_nodes}
use Rattle.rules.specs.{declared.position.PositionState.PositionState, Meaning.says, Answers.state_right, Laws.Answers.absent_says, Window.window}
use Rattle.steps.specs.{Machine.run, Machine.answers}
use Rattle.steps.specs.{Machine.visits_of, Bytes.bytes_of, Bytes.ops_from, Bytes.ops_of, Bytes.steps_run, Translation.code_of, Laws.Compiled.compiled}
use Rattle.steps.specs.{Room.two_a_node, WellFormed.formed_from, WellFormed.formed, Laws.TranslatedSteps.AllFieldsRight}
use Rattle.steps.specs.{Laws.TranslatedSteps.translated_right, Laws.WrittenSteps.well_formed, Laws.WrittenSteps.reads_back, Translating.steps_of}
use Rattle.steps.specs.{Running.ran_if, Running.runs}
use Rattle.table.specs.{Outcome.accepts}

module _ (t : List ℕ) (n r : ℕ) (ok : checked t ≡ accepts n r) (bytes : Bytes t) (x : ℕ) (l : x < 4) where
  -- ---- a tree that is there

  module _ (some : 0 < count t x) where
    there : steps_of t x ≡ code_of (tree_of t x)
    unfolding steps_of present
    there = rw (ne_eqb (count t x) 0 (λ e. omega arith))

    within : TreeWithin (form_of t) (tree_of t x)
    within = tree_within t bytes n r ok x l some

    short : length (code_of (tree_of t x)) ≤ most_steps
    unfolding root
    short = omega (arith, two_a_node (tree_of t x), tree_nodes t n r ok x l some, tree_ends t n r ok x l, (header_of_lem t n r ok).most)

    good : (D : ℕ) → reach_of (tree_of t x) < D → AllFieldsRight (slots t) D (code_of (tree_of t x))
    good D near = translated_right (form_of t) D (tree_of t x) within.fields near (omega (arith, short))

    well_there : (D : ℕ) → reach_of (tree_of t x) < D → D ≤ most_rows → formed (slots t) D (bytes_of (steps_of t x)) ≡ Ok tt
    well_there D near most = rw there (well_formed (slots t) D (header_of_lem t n r ok).few_slots most (code_of (tree_of t x)) short (good D near))

    reads_there : ops_of (bytes_of (steps_of t x)) ≡ code_of (tree_of t x)
    reads_there =
        let reach : reach_of (tree_of t x) ≤ most_reach = within.reaches in
        let D : ℕ = reach_of (tree_of t x) + 1 in
        rw there (reads_back (slots t) D (header_of_lem t n r ok).few_slots (omega arith) (code_of (tree_of t x)) short (good D (omega arith)))

    says_there : (h : History) (s : PositionState) → answers h s (ops_of (bytes_of (steps_of t x))) ≡ says h s (tree_of t x)
    says_there h s = rw reads_there (compiled h s (tree_of t x))

  -- ---- an absent tree has no steps, and says no

  module _ (none : count t x ≡ 0) where
    absent : steps_of t x ≡ []
    unfolding steps_of present
    absent = rw (eq-eqb (count t x) 0 none)

    well_absent : (D : ℕ) → formed (slots t) D (bytes_of (steps_of t x)) ≡ Ok tt
    unfolding formed formed_from bytes_of
    well_absent D = rw absent refl

    says_absent : (h : History) (s : PositionState) → answers h s (ops_of (bytes_of (steps_of t x))) ≡ says h s (tree_of t x)
    unfolding run ops_of ops_from steps_run bytes_of
    says_absent h s = rw (absent, absent_says t x none h s)

  -- ---- any tree

  -- Every translated list is well formed, for its table's K and any D above its reach.
  pub translated_well_formed : (D : ℕ) → reach_of (tree_of t x) < D → D ≤ most_rows → formed (slots t) D (bytes_of (steps_of t x)) ≡ Ok tt
  translated_well_formed D near most = ⊎_elim (λ none. well_absent none D) (λ some. well_there some D near most) (eq-zero-or-pos (count t x))

  -- The bytes of a translated tree answer what the tree means, over any rows.
  pub translated_says : (h : History) (s : PositionState) → answers h s (ops_of (bytes_of (steps_of t x))) ≡ says h s (tree_of t x)
  translated_says h s = ⊎_elim (λ none. says_absent none h s) (λ some. says_there some h s) (eq-zero-or-pos (count t x))

  -- THE WINDOW: run over the last D rows, they answer what the tree means over all.
  pub window_steps : (D : ℕ) → reach_of (tree_of t x) < D → (ws : List ℕ) (s : PositionState)
      → answers (history_of (slots t) (last_rows (slots t) D ws)) s (ops_of (bytes_of (steps_of t x))) ≡ says (history_of (slots t) ws) s (tree_of t x)
  window_steps D near ws s = translated_says (history_of (slots t) (last_rows (slots t) D ws)) s ∙ window (slots t) D ws s (tree_of t x) near

  -- The same of the public run: it refuses nothing, answers so, and reports the places visited.
  pub window-runs : (D : ℕ) → reach_of (tree_of t x) < D → D ≤ most_rows → (ws : List ℕ) (s : PositionState)
      → whole_rows (slots t) (last_rows (slots t) D ws) ≡ true → state_right s ≡ true
      → runs (bytes_of (steps_of t x)) (last_rows (slots t) D ws) (slots t) D s
      ≡ Ok (record {
        answer = says (history_of (slots t) ws) s (tree_of t x);
        visits = visits_of (history_of (slots t) (last_rows (slots t) D ws)) s (ops_of (bytes_of (steps_of t x)));
      })
  unfolding runs ran_if
  window-runs D near most ws s whole fine =
      rw (
        le-ltb most_slots (slots t) (header_of_lem t n r ok).few_slots,
        le-ltb D 1 (omega arith),
        le-ltb most_rows D most,
        whole,
        fine,
        translated_well_formed D near most,
        window_steps D near ws s,
      )
