-- "The definition of a run gives the places visited, in rising order, and a run reports how many steps it visited": one recursion gives the visits of a
-- run, and its answer, its places and its count are read off them.
use Rattle.std.specs.Prelude.{ℕ, zero, suc, ◌+◌, ◌≡◌, refl, List, [], ◌∷◌}
use Rattle.words.specs.Prelude.{ap}
use Rattle.rows.specs.{History.History}
use Rattle.rules.specs.{declared.position.PositionState.PositionState}
use Rattle.steps.specs.{declared.step.Op.Op, Machine.Values, Machine.start, Machine.Effect, Machine.does, Machine.after_step, Machine.run, Machine.places}
use Rattle.steps.specs.{Machine.visit_count, Machine.answers, Machine.visited, Machine.visits_of}

-- "each use of that rule is one visit": the place of a step, and what it does there.
pub record Visit : Type 0 where
  pub place : ℕ
  pub effect : Effect

-- The visits from the first step on, which stands at place p; so many steps are passed over before the next is visited.
unfoldable pub trace : History → PositionState → ℕ → List Op → ℕ → Values → List Visit
trace h s p [] k v = []
trace h s p (x ∷ xs) (suc k) v = trace h s (p + 1) xs k v
trace h s p (x ∷ xs) zero v =
    record { place = p; effect = does h s x v } ∷ trace h s (p + 1) xs (does h s x v).skip (after_step (does h s x v) v)

-- of a whole list
abbrev pub trace_of : History → PositionState → List Op → List Visit
trace_of h s xs = trace h s 0 xs 0 start

-- ---- what is read off visits

-- the values after the last
unfoldable pub values_after : List Visit → Values → Values
values_after [] v = v
values_after (t ∷ ts) v = values_after ts (after_step t.effect v)

-- the places, in the order of the visits
unfoldable pub places_in : List Visit → List ℕ
places_in [] = []
places_in (t ∷ ts) = t.place ∷ places_in ts

-- what they count
unfoldable pub count_in : List Visit → ℕ
count_in [] = 0
count_in (t ∷ ts) = t.effect.visits + count_in ts

-- ---- and they are the run's

module _ (h : History) (s : PositionState) where
  same_values : (p : ℕ) (xs : List Op) (k : ℕ) (v : Values) → run h s xs k v ≡ values_after (trace h s p xs k v) v
  unfolding run trace values_after
  same_values p [] k v = refl
  same_values p (x ∷ xs) (suc k) v = same_values (p + 1) xs k v
  same_values p (x ∷ xs) zero v = same_values (p + 1) xs (does h s x v).skip (after_step (does h s x v) v)

  same_places : (p : ℕ) (xs : List Op) (k : ℕ) (v : Values) → places h s p xs k v ≡ places_in (trace h s p xs k v)
  unfolding places trace places_in
  same_places p [] k v = refl
  same_places p (x ∷ xs) (suc k) v = same_places (p + 1) xs k v
  same_places p (x ∷ xs) zero v = rw (same_places (p + 1) xs (does h s x v).skip (after_step (does h s x v) v))

  same_count : (p : ℕ) (xs : List Op) (k : ℕ) (v : Values) → visit_count h s xs k v ≡ count_in (trace h s p xs k v)
  unfolding visit_count trace count_in
  same_count p [] k v = refl
  same_count p (x ∷ xs) (suc k) v = same_count (p + 1) xs k v
  same_count p (x ∷ xs) zero v = rw (same_count (p + 1) xs (does h s x v).skip (after_step (does h s x v) v))

  -- ONE TRACE: a run's answer, the places that it visits and the visits that it counts are those of one list of visits.
  pub one_trace : (xs : List Op) → (answers h s xs ≡ (values_after (trace_of h s xs) start).answer)
      × (visited h s xs ≡ places_in (trace_of h s xs)) × (visits_of h s xs ≡ count_in (trace_of h s xs))
  one_trace xs = (ap (λ (v : Values). v.answer) (same_values 0 xs 0 start), same_places 0 xs 0 start, same_count 0 xs 0 start)
