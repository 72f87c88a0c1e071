-- "The definition of a run gives the places visited, in rising order, .. never more than the list holds." And how many visits they count
-- (request 8): at most the list's length plus the sum of n − 1 over its steps of Highest and Lowest; every other step counts once.
use Rattle.std.specs.Prelude.{ℕ, zero, suc, ◌+◌, ◌-◌, ◌≤◌, Bool, List, [], ◌∷◌, ◌≡◌, refl, length, Float, Option}
use Rattle.words.specs.Prelude.{arith}
use Rattle.rows.specs.{History.History}
use Rattle.rules.specs.{declared.position.PositionState.PositionState}
use Rattle.steps.specs.{declared.step.Op.Op, declared.step.Op.TheVariants.Const, declared.step.Op.TheVariants.Ref, declared.step.Op.TheVariants.Price}
use Rattle.steps.specs.{declared.step.Op.TheVariants.Extreme, declared.step.Op.TheVariants.Arith, declared.step.Op.TheVariants.Compare}
use Rattle.steps.specs.{declared.step.Op.TheVariants.Cross, declared.step.Op.TheVariants.Between, declared.step.Op.TheVariants.Answer}
use Rattle.steps.specs.{declared.step.Op.TheVariants.Turn, declared.step.Op.TheVariants.InPosition, declared.step.Op.TheVariants.BarsSinceEntry}
use Rattle.steps.specs.{declared.step.Op.TheVariants.JumpIf, declared.step.Op.TheVariants.Unknown, Machine.Values, Machine.effect, Machine.does}
use Rattle.steps.specs.{Machine.after_step, Machine.places, Machine.visited, Machine.visit_count, Machine.visits_of}

-- each place lies at or after p, and before the next: so none stands there twice
pub data StrictlyRising : ℕ → List ℕ → Type 0 where
  end : {p : ℕ} → StrictlyRising p []
  next : {p q : ℕ} {qs : List ℕ} → p ≤ q → StrictlyRising (q + 1) qs → StrictlyRising p (q ∷ qs)

later : {p q : ℕ} {qs : List ℕ} → p ≤ q → StrictlyRising q qs → StrictlyRising p qs
later le end = end
later {p} le (next {q = x} l r) = next {p = p} {q = x} (omega arith) r

-- what a step's visit counts beyond one: n − 1 of Highest and Lowest over n rows
unfoldable pub beyond_one : Op → ℕ
beyond_one (Extreme kind over n back) = n - 1
beyond_one (Const bits n) = 0
beyond_one (Ref k n) = 0
beyond_one (Price p n) = 0
beyond_one (Arith k) = 0
beyond_one (Compare k) = 0
beyond_one (Cross k) = 0
beyond_one Between = 0
beyond_one (Answer w) = 0
beyond_one Turn = 0
beyond_one (InPosition w) = 0
beyond_one (BarsSinceEntry p k) = 0
beyond_one (JumpIf w n) = 0
beyond_one Unknown = 0

unfoldable pub all_beyond_one : List Op → ℕ
all_beyond_one [] = 0
all_beyond_one (x ∷ xs) = beyond_one x + all_beyond_one xs

module _ (h : History) (s : PositionState) where
  counts : (x : Op) (a b c d : Option Float) (y : Bool) → (effect h s x a b c d y).visits ≡ 1 + beyond_one x
  unfolding effect beyond_one
  counts (Const bits n) a b c d y = refl
  counts (Ref k n) a b c d y = refl
  counts (Price p n) a b c d y = refl
  counts (Extreme kind over n back) a b c d y = refl
  counts (Arith k) a b c d y = refl
  counts (Compare k) a b c d y = refl
  counts (Cross k) a b c d y = refl
  counts Between a b c d y = refl
  counts (Answer w) a b c d y = refl
  counts Turn a b c d y = refl
  counts (InPosition w) a b c d y = refl
  counts (BarsSinceEntry p k) a b c d y = refl
  counts (JumpIf w n) a b c d y = refl
  counts Unknown a b c d y = refl

  -- a visit counts one, and what is beyond
  pub visit_counts : (x : Op) (v : Values) → (does h s x v).visits ≡ 1 + beyond_one x
  unfolding does
  visit_counts x v = counts x _ _ _ _ v.answer

  rise : (p : ℕ) (xs : List Op) (k : ℕ) (v : Values) → StrictlyRising p (places h s p xs k v)
  unfolding places
  rise p [] k v = end
  rise p (x ∷ xs) (suc k) v = later {q = p + 1} (omega arith) (rise (p + 1) xs k v)
  rise p (x ∷ xs) zero v = next {p = p} {q = p} (omega arith) (rise (p + 1) xs (does h s x v).skip (after_step (does h s x v) v))

  bound : (p : ℕ) (xs : List Op) (k : ℕ) (v : Values) → length (places h s p xs k v) ≤ length xs
  unfolding places
  bound p [] k v = omega arith
  bound p (x ∷ xs) (suc k) v = omega (arith, bound (p + 1) xs k v)
  bound p (x ∷ xs) zero v = omega (arith, bound (p + 1) xs (does h s x v).skip (after_step (does h s x v) v))

  -- the places visited, and the visits that they count
  between : (p : ℕ) (xs : List Op) (k : ℕ) (v : Values)
      → (length (places h s p xs k v) ≤ visit_count h s xs k v) × (visit_count h s xs k v ≤ length (places h s p xs k v) + all_beyond_one xs)
  unfolding places visit_count all_beyond_one
  between p [] k v = omega arith
  between p (x ∷ xs) (suc k) v = let r = between (p + 1) xs k v in (r.0, omega (arith, r.1))
  between p (x ∷ xs) zero v =
      let r = between (p + 1) xs (does h s x v).skip (after_step (does h s x v) v) in
      let c = visit_counts x v in
      (omega (arith, r.0, c), omega (arith, r.1, c))

  -- the places visited rise strictly
  pub visits_rise : (xs : List Op) → StrictlyRising 0 (visited h s xs)
  visits_rise xs = rise 0 xs 0 _

  -- and are at most as many as there are steps
  pub places_bound : (xs : List Op) → length (visited h s xs) ≤ length xs
  places_bound xs = bound 0 xs 0 _

  -- each counts at least one visit, and beyond one only what Highest and Lowest count
  pub visits_between : (xs : List Op) → (length (visited h s xs) ≤ visits_of h s xs) × (visits_of h s xs ≤ length (visited h s xs) + all_beyond_one xs)
  visits_between xs = between 0 xs 0 _

  -- the visits are at most the list's length plus n − 1 for each step of Highest and Lowest in it
  pub visits_bound : (xs : List Op) → visits_of h s xs ≤ length xs + all_beyond_one xs
  visits_bound xs = omega (arith, places_bound xs, (visits_between xs).1)
