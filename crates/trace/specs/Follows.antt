-- The visits of a run, said place by place: from place 0 on, each visit does what its own step does with the values so far, and the next is at the place
-- just past it and what it passes over; there is none where that is past the list. The trace alone is so.
use Rattle.std.specs.Prelude.{ℕ, zero, suc, ◌+◌, ◌≤◌, ◌<◌, ◌≡◌, refl, List, [], ◌∷◌, length, get_or, drop}
use Rattle.words.specs.Prelude.{sym, ap, subst, arith}
use Rattle.rows.specs.{History.History}
use Rattle.rules.specs.{declared.position.PositionState.PositionState}
use Rattle.steps.specs.{declared.step.Op.Op, declared.step.Op.TheVariants.Unknown, Machine.Values, Machine.start, Machine.Effect, Machine.does}
use Rattle.steps.specs.{Machine.after_step}
use Rattle.trace.specs.{Trace.Visit, Trace.trace, Trace.trace_of}

module _ (h : History) (s : PositionState) (xs : List Op) where
  -- what the step at place p does with these values
  abbrev pub does_at : ℕ → Values → Effect
  does_at p v = does h s (get_or xs p Unknown) v

  -- the visits from place p on, with these values so far
  pub data Visits : ℕ → Values → List Visit → Type 0 where
    past : (p : ℕ) (v : Values) → length xs ≤ p → Visits p v []
    then : (p : ℕ) (v : Values) (ts : List Visit) → p < length xs → Visits (p + 1 + (does_at p v).skip) (after_step (does_at p v) v) ts
        → Visits p v (record { place = p; effect = does_at p v } ∷ ts)

  -- there are no others
  pub only_visits : {p : ℕ} {v : Values} {ts us : List Visit} → Visits p v ts → Visits p v us → ts ≡ us
  only_visits (past p v l) (past _ _ m) = refl
  only_visits (past p v l) (then _ _ ts m r) = absurd (omega arith)
  only_visits (then p v ts l r) (past _ _ m) = absurd (omega arith)
  only_visits (then p v ts l r) (then _ _ us m q) = ap (λ (rest : List Visit). record { place = p; effect = does_at p v } ∷ rest) (only_visits r q)

-- a list from place p on that has a first
module _ {A : Type 0} (d : A) where
  from_long : (p : ℕ) (whole : List A) (y : A) (ys : List A) → drop p whole ≡ y ∷ ys → (p < length whole) × (get_or whole p d ≡ y) × (drop (p + 1) whole ≡ ys)
  from_long zero [] y ys e = absurd (let z : ◌≡◌ {A = ℕ} 0 1 = cc in omega arith)
  from_long zero (x ∷ xs) y ys e = (omega arith, cc, cc)
  from_long (suc p) [] y ys e = absurd (let z : ◌≡◌ {A = ℕ} 0 1 = cc in omega arith)
  from_long (suc p) (x ∷ xs) y ys e =
      let r = from_long p xs y ys e in
      let next : suc p + 1 ≡ suc (p + 1) = omega arith in
      (omega (arith, r.0), r.1, rw next r.2)

  from_none : (p : ℕ) (whole : List A) → drop p whole ≡ [] → length whole ≤ p
  from_none zero [] e = omega arith
  from_none zero (x ∷ xs) e = absurd (let z : ◌≡◌ {A = ℕ} 0 1 = cc in omega arith)
  from_none (suc p) [] e = omega arith
  from_none (suc p) (x ∷ xs) e = omega (arith, from_none p xs e)

module _ (h : History) (s : PositionState) (xs : List Op) where
  -- a visit of the step that stands at place p
  at_step : (p : ℕ) (v : Values) (y : Op) (ts : List Visit) → p < length xs → get_or xs p Unknown ≡ y
      → Visits h s xs (p + 1 + (does h s y v).skip) (after_step (does h s y v) v) ts → Visits h s xs p v (record { place = p; effect = does h s y v } ∷ ts)
  at_step p v y ts l e r =
      subst (λ (z : Op). Visits h s xs p v (record { place = p; effect = does h s z v } ∷ ts)) e
      (then p v ts l (subst (λ (z : Op). Visits h s xs (p + 1 + (does h s z v).skip) (after_step (does h s z v) v) ts) (sym e) r))

  visits_from : (p : ℕ) (ys : List Op) → drop p xs ≡ ys → (k : ℕ) (v : Values) → Visits h s xs (p + k) v (trace h s p ys k v)
  unfolding trace
  visits_from p [] e k v = past (p + k) v (omega (arith, from_none Unknown p xs e))
  visits_from p (y ∷ ys) e (suc k) v =
      let next : p + suc k ≡ p + 1 + k = omega arith in
      rw next (visits_from (p + 1) ys (from_long Unknown p xs y ys e).2 k v)
  visits_from p (y ∷ ys) e zero v =
      let f = from_long Unknown p xs y ys e in
      let here : p + 0 ≡ p = omega arith in
      rw here
      (at_step p v y (trace h s (p + 1) ys (does h s y v).skip (after_step (does h s y v) v)) f.0 f.1
      (visits_from (p + 1) ys f.2 (does h s y v).skip (after_step (does h s y v) v)))

  -- THE TRACE FOLLOWS THE JUMPS, and it alone does.
  pub trace_visits : Visits h s xs 0 start (trace_of h s xs)
  trace_visits = visits_from 0 xs refl 0 start

  pub only_trace : (ts : List Visit) → Visits h s xs 0 start ts → ts ≡ trace_of h s xs
  only_trace ts r = only_visits h s xs r trace_visits
