-- A room as a ring: what is read from a row on is what the turned room holds; and rows that go over the oldest, turned once, are rows
-- added one after another.
use Rattle.std.specs.Prelude.{ℕ, ◌+◌, ◌-◌, ◌*◌, ◌/◌, ◌<◌, ◌≤◌, ◌≡◌, refl, Bool, true, false, cond, List, ◌++◌, length, take, drop, ltb}
use Rattle.words.specs.Prelude.{sym, ap, fun_ext, ◌∙◌, ⊎_elim, append_assoc}
use Rattle.words.specs.Prelude.{arith, zero-add, mul-div_cancel, length-append, length-drop, take-append-drop, take_at, drop_at, drop-drop}
use Rattle.words.specs.Prelude.{length-take-le, lt-ltb, le-ltb, ne_eqb}
use Rattle.words.specs.{Words.overwrite, Laws.Numbers.less_or_not, Laws.Records.records_fit, Laws.Records.record_ends, Laws.Overwrite.overwrite_fits}
use Rattle.words.specs.{Laws.Overwrite.overwrite-length}
use Rattle.rows.specs.{declared.ring.Ring.Ring, History.History, History.history_of, History.width, Room.places_for, Room.with_row, Room.held_with}
use Rattle.rows.specs.{Ring.start_within, Ring.ring_place, Ring.ring_of, Ring.turned, Ring.ring_with, Ring.next_start, Ring.ring_after}
use Rattle.rows.specs.{Laws.Turned.turned-length, Laws.Turned.turned_past, Laws.Turned.turned_word, Laws.Turned.turned_none, Laws.Turned.turned_parts}
use Rattle.rows.specs.{Laws.Turned.turned_whole}

-- ---- reading

-- a row number that is none of the rows' counts as 0, and that is one
first_once : (places start : ℕ) → start_within places (start_within places start) ≡ start_within places start
unfolding start_within
first_once places start =
    ⊎_elim (λ there. rw (lt-ltb start places there, lt-ltb start places there))
    (λ past. rw (le-ltb start places past) (zero (ltb 0 places))) (less_or_not start places)
  where
    zero : (b : Bool) → ◌≡◌ {A = ℕ} (cond b 0 0) 0
    zero true = refl
    zero false = refl

-- the row that rows begin at is one of them, or there is none
pub first_fits : (places start : ℕ) → start_within places start ≤ places
unfolding start_within
first_fits places start =
    ⊎_elim (λ there. rw (lt-ltb start places there) (omega arith)) (λ past. rw (le-ltb start places past) (omega arith)) (less_or_not start places)

-- a row of them stands where there is a row
pub place_within : (places first i : ℕ) → first ≤ places → i < places → ring_place places first i < places
unfolding ring_place
place_within places first i f h =
    ⊎_elim (λ early. rw (lt-ltb i places h, lt-ltb (first + i) places early) early)
    (λ late. rw (lt-ltb i places h, le-ltb (first + i) places late) (omega arith)) (less_or_not (first + i) places)

-- to begin past the last row is to begin at row 0
all_round : (places i : ℕ) → i < places → ring_place places places i ≡ i
unfolding ring_place
all_round places i h =
    let back : places + i - places ≡ i = omega arith in
    rw (lt-ltb i places h, le-ltb (places + i) places (omega arith), back)

-- from row 0 on, the rows stand where they do
stay : (places i : ℕ) → ring_place places (start_within places 0) i ≡ i
unfolding ring_place start_within
stay places i = go (ltb 0 places) (ltb i places) refl
  where
    go : (a b : Bool) → ltb i places ≡ b → cond b (cond (ltb (cond a 0 0 + i) places) (cond a 0 0 + i) (cond a 0 0 + i - places)) i ≡ i
    go true true e = rw (zero-add, e)
    go false true e = rw (zero-add, e)
    go a false e = refl

-- the rows from row 0 on are those of the list
pub ring_none : (K : ℕ) (ws : List ℕ) → ring_of K 0 ws ≡ history_of K ws
unfolding ring_of
ring_none K ws =
    ap (λ (f : ℕ → ℕ → ℕ). record { rows = (history_of K ws).rows; word = f })
    (fun_ext (λ i. ap (history_of K ws).word (stay (history_of K ws).rows i)))

-- a start that was set right already is the same start
pub ring_first : (K start : ℕ) (ws : List ℕ) → ring_of K (start_within (history_of K ws).rows start) ws ≡ ring_of K start ws
unfolding ring_of
ring_first K start ws =
    ap (λ (n : ℕ). record { rows = (history_of K ws).rows; word = λ i. (history_of K ws).word (ring_place (history_of K ws).rows n i) })
    (first_once (history_of K ws).rows start)

-- the words of a row, where `first` is one of the rows, or one past the last
pub ring_row : (K first : ℕ) (ws : List ℕ) (i : ℕ) → first ≤ (history_of K ws).rows → i < (history_of K ws).rows
    → (ring_of K first ws).word i ≡ (history_of K ws).word (ring_place (history_of K ws).rows first i)
unfolding ring_of
ring_row K first ws i f h =
    let p = (history_of K ws).rows in
    ap (history_of K ws).word
    (⊎_elim (λ (there : first < p). let is : start_within p first ≡ first = unfold start_within in rw (lt-ltb first p there) in rw is)
    (λ (past : p ≤ first).
    let last : first ≡ p = omega arith in
    let none : start_within p p ≡ start_within p 0 = unfold start_within in rw (le-ltb p p (omega arith), lt-ltb 0 p (omega arith)) in
    rw (last, none, stay p i, all_round p i h))
    (less_or_not first p))

-- two histories of as many rows, whose rows have the same words up to the width
pub record SameRows (K : ℕ) (g h : History) : Type 0 where
  pub count : g.rows ≡ h.rows
  pub words : (i j : ℕ) → i < g.rows → j < width K → g.word i j ≡ h.word i j

-- what is read from a row on is what the turned list holds
pub ring_turned : (K start : ℕ) (ws : List ℕ) → SameRows K (ring_of K start ws) (history_of K (turned (width K) start ws))
unfolding ring_of history_of start_within
ring_turned K start ws =
    let w = width K in
    let p = length ws / w in
    let long = turned-length w start ws in
    ⊎_elim
    (λ (there : start < p). record {
      count = rw long;
      words = λ i j h l. rw (lt-ltb start p there) (sym (turned_word w start ws there i j h l));
    })
    (λ (past : p ≤ start). record {
      count = rw long;
      words = λ i j h l. rw (le-ltb start p past, turned_past w start ws past) (sym (turned_word w 0 ws (omega arith) i j h l) ∙ rw (turned_none w ws));
    })
    (less_or_not start p)

-- ---- writing

-- What a ring is while rows are added: it begins at row 0 until it is full, and at a row of the room.
pub record RingFine (places : ℕ) (ring : Ring) : Type 0 where
  pub few : ring.held ≤ places
  pub begins : ring.held < places → ring.start ≡ 0
  pub within : ring.start < places

-- a row over row s of a full room: turned to the row after it, that is a row added to the room turned to row s
over_oldest : (room row : List ℕ) (s held : ℕ) → 0 < length row → s < places_for room row → places_for room row ≤ held
    → turned (length row) (s + 1) (overwrite room (s * length row) row) ≡ with_row (turned (length row) s room) held row
unfolding with_row
over_oldest room row s held some there full =
    let w = length row in
    let p = places_for room row in
    let n = p * w in
    let k = s * w in
    let c = n - (k + w) in
    let fits : n ≤ length room = records_fit (length room) w some p (omega arith) in
    let ends : k + w ≤ n = record_ends n w some s (rw (mul-div_cancel p {n = w} some) there) in
    let A = take k room in
    let B = take w (drop k room) in
    let C = take c (drop (k + w) room) in
    let R = drop n room in
    let long_a : length A ≡ k = length-take-le k room (omega arith) in
    let long_b : length B ≡ w = length-take-le w (drop k room) (rw length-drop (omega arith)) in
    let long-C : length C ≡ c = length-take-le c (drop (k + w) room) (rw length-drop (omega arith)) in
    let at_n : n ≡ k + w + c = omega arith in
    let after : drop (k + w) room ≡ C ++ R =
    sym (take-append-drop c (drop (k + w) room)) ∙ ap (λ (l : List ℕ). C ++ l) (drop-drop c (k + w) room ∙ ap (λ (m : ℕ). drop m room) (sym at_n)) in
    let rest : drop k room ≡ B ++ (C ++ R) =
    sym (take-append-drop w (drop k room)) ∙ ap (λ (l : List ℕ). B ++ l) (drop-drop w k room ∙ after) in
    let all : room ≡ A ++ ((B ++ C) ++ R) =
    sym (take-append-drop k room) ∙ ap (λ (l : List ℕ). A ++ l) (rest ∙ sym (append_assoc B C R)) in
    let T = turned w s room in
    let was : T ≡ (B ++ C) ++ (A ++ R) =
    turned_parts w s room A (B ++ C) R all long_a (rw (length-append, long_a, long_b, long-C) (omega arith)) in
    let new = overwrite room k row in
    let put : new ≡ (A ++ row) ++ (C ++ R) = overwrite_fits room k row (omega arith) ∙ ap (λ (l : List ℕ). A ++ row ++ l) after in
    let long-new : length new ≡ length room =
    ap length put ∙ rw (length-append, length-append, length-append, long_a, long-C, length-drop) (omega arith) in
    let long-front : length (A ++ row) ≡ (s + 1) * w = length-append A row ∙ rw long_a (omega arith) in
    let turns : turned w (s + 1) new ≡ C ++ ((A ++ row) ++ R) =
    turned_parts w (s + 1) new (A ++ row) C R put long-front (rw (long-front, long-C, long-new) (omega arith)) in
    let long-T : length T ≡ length room = turned-length w s room in
    let full-T : places_for T row ≤ held = rw long-T full in
    let some-T : places_for T row ≡ 0 → ⊥ = λ z. let z2 : p ≡ 0 = ap (λ (m : ℕ). m / w) (sym long-T) ∙ z in omega arith in
    let n-T : places_for T row * w ≡ n = ap (λ (m : ℕ). m / w * w) long-T in
    let split : T ≡ ((B ++ C) ++ A) ++ R = was ∙ sym (append_assoc (B ++ C) A R) in
    let long-all : length ((B ++ C) ++ A) ≡ n = rw (length-append, length-append, long_a, long_b, long-C) (omega arith) in
    let front-T : take n T ≡ (B ++ C) ++ A = ap (take n) split ∙ take_at ((B ++ C) ++ A) R n long-all in
    let end-T : drop n T ≡ R = ap (drop n) split ∙ drop_at ((B ++ C) ++ A) R n long-all in
    let shed : drop w ((B ++ C) ++ A) ≡ C ++ A = ap (drop w) (append_assoc B C A) ∙ drop_at B (C ++ A) w long_b in
    simp (le-ltb held (places_for T row) full-T, ne_eqb (places_for T row) 0 some-T)
    (rw (n-T, front-T, end-T, shed) (turns ∙ simp append_assoc))

-- What a row more does to a ring: turned, the room is what it was, turned, with that row added; and a ring it stays.
pub record RowAdded (room : List ℕ) (ring : Ring) (row : List ℕ) : Type 0 where
  pub turns : turned (length row) (ring_after room ring row).start (ring_with room ring row) ≡ with_row (turned (length row) ring.start room) ring.held row
  pub holds : (ring_after room ring row).held ≡ held_with (turned (length row) ring.start room) ring.held row
  pub fine : RingFine (places_for (ring_with room ring row) row) (ring_after room ring row)
  pub long : length (ring_with room ring row) ≡ length room

-- the row after s of p rows
next_within : (p s : ℕ) → s < p → next_start p s < p
unfolding next_start
next_within p s h = ⊎_elim (λ more. rw (lt-ltb (s + 1) p more) more) (λ last. rw (le-ltb (s + 1) p last) (omega arith)) (less_or_not (s + 1) p)

-- turned to it, the list is turned by one row more: after the last that is not at all
next_turned : (w s : ℕ) (ws : List ℕ) → s < length ws / w → turned w (next_start (length ws / w) s) ws ≡ turned w (s + 1) ws
unfolding next_start
next_turned w s ws h =
    let p = length ws / w in
    ⊎_elim (λ more. rw (lt-ltb (s + 1) p more))
    (λ last. rw (le-ltb (s + 1) p last) (turned_none w ws ∙ sym (turned_past w (s + 1) ws last))) (less_or_not (s + 1) p)

-- a full room holds a row in each place
held_full : (room : List ℕ) (held : ℕ) (row : List ℕ) → places_for room row ≤ held → held_with room held row ≡ places_for room row
unfolding held_with
held_full room held row full = rw (le-ltb held (places_for room row) full)

module _ (room : List ℕ) (ring : Ring) (row : List ℕ) (some : 0 < length row) (ok : RingFine (places_for room row) ring) where
  -- there is a place left: the room was not turned, nor is it
  adds_at_end : ring.held < places_for room row → RowAdded room ring row
  adds_at_end free =
      let w = length row in
      let zero : ring.start ≡ 0 = ok.begins free in
      let ends = record_ends (length room) w some ring.held free in
      let is_free = lt-ltb ring.held (places_for room row) free in
      let new = overwrite room (ring.held * w) row in
      let put : new ≡ with_row room ring.held row = overwrite_fits room (ring.held * w) row ends ∙ (unfold with_row in rw is_free) in
      let with : ring_with room ring row ≡ new = unfold ring_with in rw is_free in
      let after : ring_after room ring row ≡ record { held = ring.held + 1; start = ring.start } = unfold ring_after in rw is_free in
      let long : length (ring_with room ring row) ≡ length room = ap length with ∙ overwrite-length room (ring.held * w) row in
      record {
        turns = rw (after, with, zero, turned_none w new, turned_none w room) put;
        holds = rw (after, zero, turned_none w room) (unfold held_with in rw is_free);
        fine = rw (long, after) (record { few = omega arith; begins = λ h. zero; within = ok.within });
        long = long;
      }

  -- the room is full: the row goes over the oldest
  adds_over : places_for room row ≤ ring.held → RowAdded room ring row
  adds_over full =
      let w = length row in
      let p = places_for room row in
      let s = ring.start in
      let is-full = le-ltb ring.held p full in
      let new = overwrite room (s * w) row in
      let with : ring_with room ring row ≡ new = unfold ring_with in rw (is-full, lt-ltb s p ok.within) in
      let after : ring_after room ring row ≡ record { held = p; start = next_start p s } = unfold ring_after in rw is-full in
      let long-new : length new ≡ length room = overwrite-length room (s * w) row in
      let long : length (ring_with room ring row) ≡ length room = ap length with ∙ long-new in
      let next : turned w (next_start p s) new ≡ turned w (s + 1) new =
      ap (λ (m : ℕ). turned w (next_start (m / w) s) new) (sym long-new) ∙ next_turned w s new (rw long-new ok.within) in
      let held = held_full (turned w s room) ring.held row (rw (turned-length w s room) full) in
      record {
        turns = rw (after, with) (next ∙ over_oldest room row s ring.held some ok.within full);
        holds = rw (after, held) (ap (λ (m : ℕ). m / w) (sym (turned-length w s room)));
        fine = rw (long, after) (record { few = omega arith; begins = λ h. absurd (omega arith); within = next_within p s ok.within });
        long = long;
      }

  -- JOINED: rows written over the oldest, and the room turned once, are rows added one after another.
  pub ring_adds : RowAdded room ring row
  ring_adds = ⊎_elim adds_at_end adds_over (less_or_not ring.held (places_for room row))

-- the rows that a ring holds, turned, are those that the turned room holds
pub held_turned : (w : ℕ) (ring : Ring) (room : List ℕ) → 0 < w → RingFine (length room / w) ring
    → take (ring.held * w) (turned w ring.start room) ≡ turned w ring.start (take (ring.held * w) room)
held_turned w ring room some ok =
    ⊎_elim (λ free. let zero : ring.start ≡ 0 = ok.begins free in rw (zero, turned_none w room, turned_none w (take (ring.held * w) room)))
    (λ full. let all : ring.held ≡ length room / w = omega (arith, ok.few) in rw all (turned_whole w ring.start room some))
    (less_or_not ring.held (length room / w))
