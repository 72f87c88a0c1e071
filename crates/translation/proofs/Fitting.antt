-- A tree of an accepted table has room for its steps, and its look-backs are small.
use Rattle.std.specs.Prelude.{Err, Ok}
use Rattle.words.specs.Prelude.{ℕ, ◌+◌, ◌*◌, ◌≤◌, ◌<◌, ◌≡◌, sym, ◌∙◌, List, [], ◌++◌, arith, true, false, length, drop, ltb, eq-eqb, ne_eqb, lt-ltb, le-ltb}
use Rattle.words.specs.{declared.refusal.Refusal.Refusal}
use Rattle.table.specs.{Trees.reach_of, Header.count, Header.root}
use Rattle.table.specs.{Checked.checked, Ends.ends_beside, Reading.tree_of, Reading.present, Laws.Accepted.tree_reach_lem, declared.trees.Tree.Tree}
use Rattle.table.specs.{Header.tree_number}
use Rattle.roundtrip.specs.{Laws.Reach.tree_reach_is, Laws.AcceptedWritten.tree_nodes}
use Rattle.rules.specs.{Flat.flat_condition_at, Laws.FlatReading.tree_joined, Laws.Answers.tree_of_four}
use Rattle.steps.specs.{declared.step.Op.Op}
use Rattle.steps.specs.{Bytes.written, Bytes.bytes_of, Bytes.Fits, Bytes.Wrote, Translation.code_of, Translating.steps_of, Translating.room_for}
use Rattle.steps.specs.{Translating.writes_or, Translating.after_table, Translating.translates, Translating.room_after, Translating.room_left, Room.two_a_node}
use Rattle.steps.specs.{Laws.Encoding.steps_long}
use Rattle.table.specs.{Outcome.accepts}
use Rattle.translation.proofs.{Writes.bytes_there}

-- ---- what is written at the front of a room

front : (l : List ℕ) (xs : List Op) → Fits l 0 xs → written l 0 xs ≡ bytes_of xs ++ drop (length (bytes_of xs)) l
front l xs f =
    let on : 0 + length (bytes_of xs) ≡ length (bytes_of xs) = omega arith in
    rw on at (bytes_there l 0 (bytes_of xs) (omega (arith, steps_long xs, f.bytes)))

-- ---- an accepted table

no_steps : (t : List ℕ) (x : ℕ) → count t x ≡ 0 → steps_of t x ≡ []
unfolding steps_of present
no_steps t x e = rw (eq-eqb (count t x) 0 e)

module _ (t : List ℕ) (n r x : ℕ) (ok : checked t ≡ accepts n r) (l : x < 4) (some : count t x ≡ 0 → ⊥) where
  its_steps : steps_of t x ≡ code_of (flat_condition_at 32 t (ends_beside t) (root t x))
  unfolding steps_of present
  its_steps = rw (ne_eqb (count t x) 0 some, tree_joined t n r ok x l (omega arith))

  near : reach_of (flat_condition_at 32 t (ends_beside t) (root t x)) ≤ 4096
  near = rw (tree_joined t n r ok x l (omega arith)) (omega (arith, tree_reach_is t n r x ok l, tree_reach_lem t n r ok x l))

  roomy : (room : List ℕ) → room_for t x ≤ length room → Fits room 0 (code_of (flat_condition_at 32 t (ends_beside t) (root t x)))
  roomy room enough =
      rw (tree_joined t n r ok x l (omega arith))
      record { bytes = omega (arith, two_a_node (tree_of t x), tree_nodes t n r ok x l (omega arith)) }

-- ---- the translation's answers, and the room that each leaves

module _ (t room : List ℕ) (tree : Tree) where
  pub refuses_table : (why : Refusal) → checked t ≡ Err why → (Err why ≡ translates t tree room) × (room ≡ room_left t tree room)
  unfolding translates after_table room_left room_after
  refuses_table why bad = (rw bad, rw bad)

  module _ (n r x k : ℕ) (ok : checked t ≡ accepts n r) (of : x ≡ tree_number tree) (is : k ≡ count t x) where
    pub refuses_room : length room < 64 * k → (Err (Refusal.Room (3 + x)) ≡ translates t tree room) × (room ≡ room_left t tree room)
    unfolding translates after_table writes_or room_left room_after
    refuses_room small =
        let short : ltb (length room) (64 * count t (tree_number tree)) ≡ true = rw (← of, ← is) (lt-ltb (length room) (64 * k) small) in
        (rw (ok, short, of), rw (ok, short))

    module _ (enough : 64 * k ≤ length room) where
      fits_all : ltb (length room) (64 * count t (tree_number tree)) ≡ false
      fits_all = rw (← of, ← is) (le-ltb (length room) (64 * k) enough)

      pub writes_none : k ≡ 0 → (Ok 0 ≡ translates t tree room) × (room ≡ room_left t tree room)
      unfolding translates after_table writes_or room_left room_after bytes_of
      writes_none e =
          let none : steps_of t (tree_number tree) ≡ [] = rw (← of) (no_steps t x (sym is ∙ e)) in
          (rw (ok, fits_all, none), rw (ok, fits_all, none))

      module _ (some : k ≡ 0 → ⊥) (ends : List ℕ) (i : ℕ) (beside : ends ≡ ends_beside t) (at : i ≡ root t x) where
        below : x < 4
        below = rw of (tree_of_four tree)

        there : count t x ≡ 0 → ⊥
        there e = some (is ∙ e)

        pub can_write : (reach_of (flat_condition_at 32 t ends i) ≤ 4096) × Fits room 0 (code_of (flat_condition_at 32 t ends i))
        can_write = rw (beside, at) (near t n r x ok below there, roomy t n r x ok below there room (rw is at enough))

        pub writes_all : (after : List ℕ) (m : ℕ) → Wrote room 0 (code_of (flat_condition_at 32 t ends i)) after m
            → (Ok m ≡ translates t tree room) × (after ≡ room_left t tree room)
        unfolding translates after_table writes_or room_left room_after
        writes_all after m w =
            let all : steps_of t (tree_number tree) ≡ code_of (flat_condition_at 32 t ends i) = rw (← of, beside, at) (its_steps t n r x ok below there) in
            let count : m ≡ length (code_of (flat_condition_at 32 t ends i)) = omega (arith, w.place) in
            (rw (ok, fits_all, all, count), w.bytes ∙ rw (ok, fits_all, all) (front room (code_of (flat_condition_at 32 t ends i)) can_write.1))
