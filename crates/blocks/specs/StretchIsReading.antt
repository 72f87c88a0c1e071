-- THE STATEMENT of request 10: "A question .. gives what reading every close gives: the numbers and the earliest bar of each. This holds for rooms
-- filled from empty by appending alone, over any number of bars that fit." Assumes nothing.
use Rattle.std.specs.Prelude.{ℕ, zero, suc, ◌+◌, ◌-◌, ◌*◌, ◌/◌, ◌<◌, ◌≤◌, ◌≡◌, refl, List, [], ◌∷◌, ◌++◌, get_or, length, set, Ok, Result}
use Rattle.words.specs.Prelude.{sym, ap, subst, ◌∙◌, ℕ_discrete, arith, lt_of_le-ne}
use Rattle.words.specs.Prelude.{length-append, length-set, List·get_or-append, get_or-set_same, get_or-set_other, get_or-append_seam}
use Rattle.words.specs.{Limits.most_count}
use Rattle.blocks.specs.{declared.best.Best.Best, Reading.one, Reading.join}
use Rattle.blocks.specs.{Reading.reading, Reading.HighAndLow, Reading.Number, Append.Append, Append.appended, Append.kept, Reads.reads, Reads.told}
use Rattle.blocks.specs.{Stretch.stretched, Laws.Append.Appendable, Laws.Append.appended_has, Laws.Append.is_taken, Laws.Append.finite_number}
use Rattle.blocks.specs.{Laws.Stretch.answers, Laws.Earliest.reading_is, Laws.Kept.BlocksKept, Laws.Kept.appended_kept, Laws.Kept.empty_kept}
use Rattle.blocks.specs.{Laws.Kept.told_is}
use Rattle.words.specs.{declared.refusal.Refusal.Refusal}

-- "rooms filled from empty by appending alone": the closes that were appended, in order, the bars held and both rooms. Empty is no bar held, whatever the
-- rooms hold; a close more is an append that is not refused.
pub data Filled : List ℕ → ℕ → List ℕ → List ℕ → Type 0 where
  empty : (closes blocks : List ℕ) → Filled [] 0 closes blocks
  then : {given closes blocks : List ℕ} {held : ℕ} → Filled given held closes blocks → (close : ℕ)
      → (appended held close closes blocks).answer ≡ Ok (held + 1)
      → Filled (given ++ (close ∷ [])) (held + 1) (appended held close closes blocks).closes (appended held close closes blocks).blocks

-- what a question over bars `first` to `last` of the closes given is told
pub record IsReading (given : List ℕ) (first last : ℕ) (answer : Result Best Refusal) : Type 0 where
  pub best : Best
  -- it is not refused ..
  pub found : answer ≡ Ok best
  -- .. and "gives what reading every close gives"
  pub read : best ≡ reading given first (last - first)
  -- "the highest and lowest close .. and the earliest bar of each"
  pub best_is : HighAndLow given first last best

-- ---- what is so of filled rooms

record Held-up (given : List ℕ) (held : ℕ) (closes blocks : List ℕ) : Type 0 where
  count : held ≤ most_count
  many : held ≡ length given
  room : held ≤ length closes
  place : 4 * ((held + 64 - 1) / 64) ≤ length blocks
  words : (i : ℕ) → i < held → get_or closes i 0 ≡ get_or given i 0
  rooms : BlocksKept held closes blocks

-- each append keeps it up
one_more : (given closes blocks : List ℕ) (held close : ℕ) → Held-up given held closes blocks → Appendable held close closes blocks
    → Held-up (given ++ (close ∷ [])) (held + 1) (kept held close closes blocks).closes (kept held close closes blocks).blocks
one_more given closes blocks held close h t = record {
  count = omega (arith, t.count);
  many = omega (arith, h.many, length-append given (close ∷ []));
  room = simp length-set (omega (arith, t.room));
  place = simp length-set (fits held (length blocks) t.place);
  words = λ i l. at i l (ℕ_discrete i held);
  rooms = appended_kept held closes blocks close h.rooms t.room t.place (finite_number close t.number);
}
  where
    fits : (x y : ℕ) → 4 * (x / 64) + 4 ≤ y → 4 * ((x + 1 + 64 - 1) / 64) ≤ y
    fits x y l = omega arith

    at : (i : ℕ) → i < held + 1 → Dec (i ≡ held) → get_or (set closes held close) i 0 ≡ get_or (given ++ (close ∷ [])) i 0
    at i l (yes e) =
        ap (λ (k : ℕ). get_or (set closes held close) k 0) e ∙ get_or-set_same closes held close 0 t.room
        ∙ sym (ap (λ (k : ℕ). get_or (given ++ (close ∷ [])) k 0) (e ∙ h.many) ∙ get_or-append_seam given close [] 0)
    at i l (no n) =
        let before : i < held = lt_of_le-ne (omega arith) n in
        get_or-set_other closes held i close 0 n ∙ h.words i before ∙ sym (List·get_or-append given (close ∷ []) 0 i (omega (arith, h.many, before)))

held_up : {given closes blocks : List ℕ} {held : ℕ} → Filled given held closes blocks → Held-up given held closes blocks
held_up (empty closes blocks) = record {
  count = omega arith;
  many = refl;
  room = omega arith;
  place = omega arith;
  words = λ i l. absurd (omega arith);
  rooms = empty_kept closes blocks;
}
held_up (then {given} {closes} {blocks} {held} f close e) =
    let t = appended_has held close closes blocks e in
    subst (λ (a : Append). Held-up (given ++ (close ∷ [])) (held + 1) a.closes a.blocks) (sym (is_taken held close closes blocks t))
    (one_more given closes blocks held close (held_up f) t)

-- a reading of the room is one of the closes given
reading_same : (closes given : List ℕ) (held : ℕ) → ((i : ℕ) → i < held → get_or closes i 0 ≡ get_or given i 0) → (first n : ℕ) → first + n < held
    → reading closes first n ≡ reading given first n
unfolding reading
reading_same closes given held e first zero h = ap (λ (c : ℕ). one c first) (e first (omega arith))
reading_same closes given held e first (suc n) h =
    ap (λ (x : Best). join x (one (get_or closes (first + suc n) 0) (first + suc n))) (reading_same closes given held e first n (omega arith))
    ∙ ap (λ (c : ℕ). join (reading given first n) (one c (first + suc n))) (e (first + suc n) h)

-- A STRETCH IS A READING: every question over filled rooms, for any bars that they hold.
pub stretch_is_reading : {given closes blocks : List ℕ} {held : ℕ} → Filled given held closes blocks → (first last : ℕ) → first ≤ last → last < held
    → IsReading given first last (stretched held first last closes blocks)
stretch_is_reading {given} {closes} {blocks} {held} f first last order exists = record {
  best = told closes blocks (reads first (last + 1 - first));
  found = answers held first last closes blocks h.count h.room h.place order exists;
  read = read;
  best_is = subst (HighAndLow given first last) (sym read)
      (subst (λ (l : ℕ). HighAndLow given first l (reading given first (last - first))) ends
      (reading_is given held numbers first (last - first) (omega arith)));
}
  where
    h : Held-up given held closes blocks
    h = held_up f

    bars : last + 1 - first ≡ suc (last - first)
    bars = omega arith

    ends : first + (last - first) ≡ last
    ends = omega arith

    numbers : (i : ℕ) → i < held → Number (get_or given i 0)
    numbers i l = subst Number (h.words i l) (h.rooms.numbers i l)

    read : told closes blocks (reads first (last + 1 - first)) ≡ reading given first (last - first)
    read =
        ap (λ (k : ℕ). told closes blocks (reads first k)) bars ∙ told_is held closes blocks h.rooms first (last - first) (omega arith)
        ∙ reading_same closes given held h.words first (last - first) (omega arith)
