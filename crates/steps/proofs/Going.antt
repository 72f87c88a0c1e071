-- A run taken one step further, with the values in two lists: the four places below them are always missing.
use Rattle.std.specs.Prelude.{None, Option, Some}
use Rattle.words.specs.Prelude.{ℕ, zero, suc, ◌+◌, ◌-◌, ◌≤◌, ◌<◌, min, ◌≡◌, refl, sym, ap, ◌∙◌, Bool, true, false, List, [], ◌∷◌, arith, sub-zero}
use Rattle.words.specs.Prelude.{add-one, Float, nan, length, drop, set, length-set, length-replicate, get_or-set_same, get_or-set_other}
use Rattle.rows.specs.{History.History}
use Rattle.rules.specs.{declared.position.PositionState.PositionState}
use Rattle.steps.specs.{declared.machine.Ran.Ran, Bytes.op_of, Bytes.step_at, Machine.Effect, Machine.nth, Machine.given, Machine.giving, Machine.viewing}
use Rattle.steps.specs.{Machine.saying, Machine.passing, Machine.effect, Places.numbers_with, Places.is_there, Places.value_at, Places.Fresh, Places.Came}
use Rattle.steps.specs.{Places.Tries}
use Rattle.steps.proofs.{Coming.came_on}
use native.Mathlib.Nat.{ne_of_lt}
use lib.ListN.{get_or-replicate}
use Rattle.std.proofs.lemmas.Option.{none-some, same_Some}

-- ---- the values

-- the first `top` values above the four, the last first
pub shown : List Float → List Bool → ℕ → List (Option Float)
shown ns ts zero = []
shown ns ts (suc p) = value_at ns ts (p + 4) ∷ shown ns ts p

-- the four places below the values
abbrev Low : List Float → List Bool → Type 0
Low ns ts = (j : ℕ) → j < 4 → value_at ns ts j ≡ None

module _ (ns : List Float) (ts : List Bool) where
  nth-shown : Low ns ts → (top j : ℕ) → j ≤ 3 → nth (shown ns ts top) j ≡ value_at ns ts (top + 3 - j)
  unfolding shown
  nth-shown low zero j le = sym (low (0 + 3 - j) (omega arith))
  nth-shown low (suc p) zero le = ap (λ (n : ℕ). value_at ns ts n) (omega arith)
  nth-shown low (suc p) (suc j) le = nth-shown low p j (omega arith) ∙ ap (λ (n : ℕ). value_at ns ts n) (omega arith)

  drop-shown : (top m : ℕ) → drop m (shown ns ts top) ≡ shown ns ts (top - m)
  unfolding shown
  drop-shown top zero = rw (sub-zero top)
  drop-shown zero (suc m) = let e : 0 - suc m ≡ 0 = omega arith in rw e
  drop-shown (suc p) (suc m) = let e : suc p - suc m ≡ p - m = omega arith in rw e (drop-shown p m)

-- a value put at place i
module _ (ns : List Float) (ts : List Bool) (i : ℕ) where
  put_other : (v : Option Float) (j : ℕ) → j < i → value_at (numbers_with ns i v) (set ts i (is_there v)) j ≡ value_at ns ts j
  unfolding value_at numbers_with is_there
  put_other None j l = rw (get_or-set_other ts i j false false (ne_of_lt l))
  put_other (Some x) j l = rw (get_or-set_other ts i j true false (ne_of_lt l), get_or-set_other ns i j x nan (ne_of_lt l))

  put_same : (v : Option Float) → i < length ns → i < length ts → value_at (numbers_with ns i v) (set ts i (is_there v)) i ≡ v
  unfolding value_at numbers_with is_there
  put_same None l m = rw (get_or-set_same ts i false false m)
  put_same (Some x) l m = rw (get_or-set_same ts i true false m, get_or-set_same ns i x nan l)

  put_length : (v : Option Float) → length (numbers_with ns i v) ≡ length ns
  unfolding numbers_with
  put_length None = refl
  put_length (Some x) = length-set ns i x

  set-shown : (v : Option Float) (top : ℕ) → top + 4 ≤ i → shown (numbers_with ns i v) (set ts i (is_there v)) top ≡ shown ns ts top
  unfolding shown
  set-shown v zero le = refl
  set-shown v (suc p) le = rw (put_other v (p + 4) (omega arith), set-shown v p (omega arith))

put_shown : (ns : List Float) (ts : List Bool) (v : Option Float) (under : ℕ) → under + 4 < length ns → under + 4 < length ts
    → shown (numbers_with ns (under + 4) v) (set ts (under + 4) (is_there v)) (under + 1) ≡ v ∷ shown ns ts under
unfolding shown
put_shown ns ts v under l m = rw (add-one under, put_same ns ts (under + 4) v l m, set-shown ns ts (under + 4) v under (omega arith))

-- ---- the loop

-- two lists with so many places above the four
pub record Room (most : ℕ) (ns : List Float) (ts : List Bool) : Type 0 where
  pub numbers : length ns ≡ most + 4
  pub theres : length ts ≡ most + 4
  pub low : (j : ℕ) → j < 4 → value_at ns ts j ≡ None

-- a run that has come to place p
pub record Going (h : History) (s : PositionState) (bs : List ℕ) (n most : ℕ) (ns : List Float) (ts : List Bool) (top : ℕ)
    (y : Bool) (visits p : ℕ) : Type 0 where
  pub room : Room most ns ts
  pub tall : top ≤ most
  pub pushed : top ≤ p
  pub came : Came h s bs n (shown ns ts top) y visits p

-- ---- a step further

module _ (h : History) (s : PositionState) (bs : List ℕ) (n most : ℕ) (ns : List Float) (ts : List Bool) (top : ℕ) (y : Bool) (visits p : ℕ)
    (g : Going h s bs n most ns ts top y visits p) (more : p < n) where
  -- what the step at p does
  abbrev pub done : Effect
  done = effect h s (op_of (step_at bs p)) (value_at ns ts (top + 3)) (value_at ns ts (top + 2)) (value_at ns ts (top + 1)) (value_at ns ts top) y

  read : effect h s (op_of (step_at bs p)) (nth (shown ns ts top) 0) (nth (shown ns ts top) 1) (nth (shown ns ts top) 2) (nth (shown ns ts top) 3) y ≡ done
  read =
      let at0 : top + 3 - 0 ≡ top + 3 = omega arith in
      let at1 : top + 3 - 1 ≡ top + 2 = omega arith in
      let at2 : top + 3 - 2 ≡ top + 1 = omega arith in
      let at3 : top + 3 - 3 ≡ top = omega arith in
      rw (
        nth-shown ns ts g.room.low top 0 (omega arith),
        nth-shown ns ts g.room.low top 1 (omega arith),
        nth-shown ns ts g.room.low top 2 (omega arith),
        nth-shown ns ts g.room.low top 3 (omega arith),
        at0,
        at1,
        at2,
        at3,
      )

  going_on : (e : Effect) → done ≡ e → (ns' : List Float) (ts' : List Bool) (top' : ℕ) → Room most ns' ts' → top' ≤ most → top' ≤ min n (p + 1 + e.skip)
      → e.visits ≤ 65536 → shown ns' ts' top' ≡ given e.gives e.value (shown ns ts (top - e.take))
      → Going h s bs n most ns' ts' top' e.answer (visits + e.visits) (min n (p + 1 + e.skip))
  going_on e is ns' ts' top' room tall pushed few leaves =
      record {
        room = room;
        tall = tall;
        pushed = pushed;
        came = rw (leaves, ← drop-shown ns ts top e.take) (came_on h s bs n (shown ns ts top) y visits p g.came more e (read ∙ is) few);
      }

  next : min n (p + 1 + 0) ≡ p + 1
  next = omega (arith, more)

  -- a step that takes m values and gives one, for which there is a place
  pub going_give : (m : ℕ) (v : Option Float) → top - m < most → done ≡ giving m v y
      → Going h s bs n most (numbers_with ns (top - m + 4) v) (set ts (top - m + 4) (is_there v)) (top - m + 1) y (visits + 1) (p + 1)
  going_give m v free is =
      rw next at (going_on (giving m v y) is (numbers_with ns (top - m + 4) v) (set ts (top - m + 4) (is_there v)) (top - m + 1)
      (record {
        numbers = put_length ns ts (top - m + 4) v ∙ g.room.numbers;
        theres = length-set ts (top - m + 4) (is_there v) ∙ g.room.theres;
        low = λ j l. put_other ns ts (top - m + 4) v j (omega arith) ∙ g.room.low j l;
      })
      (omega (arith, free))
      (omega (arith, g.pushed, more))
      (omega arith)
      (put_shown ns ts v (top - m) (omega (arith, free, g.room.numbers)) (omega (arith, free, g.room.theres))))

  -- a leaf: none is taken
  pub going_leaf : (v : Option Float) → top < most → done ≡ giving 0 v y
      → Going h s bs n most (numbers_with ns (top + 4) v) (set ts (top + 4) (is_there v)) (top + 1) y (visits + 1) (p + 1)
  going_leaf v free is = rw (sub-zero top) at (going_give 0 v (omega (arith, free)) is)

  -- a look over k rows: none is taken, and it counts k visits
  pub going_look : (k : ℕ) (v : Option Float) → k < 65536 → top < most → done ≡ viewing k v y
      → Going h s bs n most (numbers_with ns (top + 4) v) (set ts (top + 4) (is_there v)) (top + 1) y (visits + 1 + (k - 1)) (p + 1)
  going_look k v small free is =
      let counted : visits + (1 + (k - 1)) ≡ visits + 1 + (k - 1) = omega arith in
      rw (next, counted) at (going_on (viewing k v y) is (numbers_with ns (top + 4) v) (set ts (top + 4) (is_there v)) (top + 1)
      (record {
        numbers = put_length ns ts (top + 4) v ∙ g.room.numbers;
        theres = length-set ts (top + 4) (is_there v) ∙ g.room.theres;
        low = λ j l. put_other ns ts (top + 4) v j (omega arith) ∙ g.room.low j l;
      })
      (omega (arith, free))
      (omega (arith, g.pushed, more))
      (omega arith)
      (rw (sub-zero top) (put_shown ns ts v top (omega (arith, free, g.room.numbers)) (omega (arith, free, g.room.theres)))))

  -- a step that takes m values and answers
  pub going_say : (m : ℕ) (w : Bool) → done ≡ saying m w → Going h s bs n most ns ts (top - m) w (visits + 1) (p + 1)
  going_say m w is =
      rw next at (going_on (saying m w) is ns ts (top - m) g.room (omega (arith, g.tall)) (omega (arith, g.pushed, more)) (omega arith) refl)

  -- a step that sets the answer: none is taken
  pub going_set : (w : Bool) → done ≡ saying 0 w → Going h s bs n most ns ts top w (visits + 1) (p + 1)
  going_set w is = rw (sub-zero top) at (going_say 0 w is)

  -- a step that passes over k others
  pub going_pass : (k : ℕ) → done ≡ passing k y → Going h s bs n most ns ts top y (visits + 1) (min n (p + 1 + k))
  going_pass k is = going_on (passing k y) is ns ts top g.room g.tall (omega (arith, g.pushed, more)) (omega arith) (rw (sub-zero top))

  -- a jump that is not taken
  pub going_stay : done ≡ passing 0 y → Going h s bs n most ns ts top y (visits + 1) (p + 1)
  going_stay is = rw next at (going_pass 0 is)

-- the second list is as long as the first
pub fresh_long : (most : ℕ) (ns : List Float) (ts : List Bool) → Fresh most ns ts → length ts ≡ most + 4
fresh_long most ns ts f = rw f.none (length-replicate (most + 4) false)

pub going_start : (h : History) (s : PositionState) (bs : List ℕ) (n most : ℕ) (ns : List Float) (ts : List Bool) (y : Bool) (visits p : ℕ) → Fresh most ns ts
    → Came h s bs n [] y visits p → Going h s bs n most ns ts 0 y visits p
unfolding shown value_at
going_start h s bs n most ns ts y visits p f came =
    record {
      room = record {
        numbers = f.long;
        theres = fresh_long most ns ts f;
        low = λ j l. rw (f.none, get_or-replicate (most + 4) j false false (omega arith));
      };
      tall = omega arith;
      pushed = omega arith;
      came = came;
    }

-- ---- a run with so many places for values

-- with a place for each step there is a run
pub tried_whole : (ran : Ran) (n most : ℕ) (r : Option Ran) → n ≤ most → Tries ran n most r → r ≡ Some ran
unfolding Tries
tried_whole ran n most None le t = absurd (omega arith)
tried_whole ran n most (Some r) le t = ap (λ (x : Ran). Some x) t

-- and what there is is the run
pub tried_through : (ran : Ran) (n most : ℕ) (q : Option Ran) (r : Ran) → q ≡ Some r → Tries ran n most q → r ≡ ran
unfolding Tries
tried_through ran n most None r e t = absurd (none-some _ e)
tried_through ran n most (Some x) r e t = sym (same_Some _ _ e) ∙ t
