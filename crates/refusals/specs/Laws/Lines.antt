-- A list of lines, judged from the top: what holds of it as a whole, and of a list that stands below another.
use Rattle.std.specs.Prelude.{ℕ, ◌≡◌, refl, Bool, true, false, cond, ◌&&◌, List, [], ◌∷◌, ◌++◌, Err, Ok}
use Rattle.words.specs.Prelude.{sym, arith}
use Rattle.words.specs.{declared.refusal.Refusal.Refusal}
use Rattle.refusals.specs.{Lines.Line, Lines.judged, Lines.first_bad}
use Rattle.refusals.specs.{Lines.Verdict}

-- no verdict is both
pub never : {A : Type 0} {r : Refusal} → ◌≡◌ {A = Verdict} (Err r) (Ok tt) → A
never e = absurd (let z : ◌≡◌ {A = ℕ} 0 1 = cc in omega arith)

-- of two tests in one, both hold
pub and_true : (a b : Bool) → (a && b) ≡ true → (a ≡ true) × (b ≡ true)
and_true true b h = (refl, h)
and_true false b h = absurd (let z : ◌≡◌ {A = ℕ} 0 1 = cc in omega arith)

-- a line that is passed, and what the lines below it say
passed : (ok : Bool) (v : Verdict) (r : Refusal) → cond ok v (Err r) ≡ Ok tt → (ok ≡ true) × (v ≡ Ok tt)
passed true v r h = (refl, h)
passed false v r h = never h

-- in a fine list the first line holds, and what is below it is fine
pub first_holds : (l : Line) (ls : List Line) → judged (l ∷ ls) ≡ Ok tt → (l.ok ≡ true) × (judged ls ≡ Ok tt)
unfolding judged
first_holds l ls h = passed l.ok (judged ls) _ h

-- of two lists, each judged by itself, the first that is not fine decides
pub blocks : (a b : List Line) → judged (a ++ b) ≡ first_bad (judged a) (judged b)
unfolding judged
blocks [] b = refl
blocks (l ∷ a) b = go l.ok _ (blocks a b)
  where
    go : (ok : Bool) (r : Refusal) → judged (a ++ b) ≡ first_bad (judged a) (judged b)
        → cond ok (judged (a ++ b)) (Err r) ≡ first_bad (cond ok (judged a) (Err r)) (judged b)
    go true r e = e
    go false r e = refl

pub two_blocks : (a b : List Line) {w v : Verdict} → w ≡ judged a → v ≡ judged b → first_bad w v ≡ judged (a ++ b)
two_blocks a b h e = rw (h, e) (sym (blocks a b))

-- lines below others are asked where those above hold
pub below_fine : (a b : List Line) → judged a ≡ Ok tt → judged (a ++ b) ≡ judged b
below_fine a b h = rw (blocks, h)

-- and not where one of them does not
pub below_bad : (a b : List Line) (r : Refusal) → judged a ≡ Err r → judged (a ++ b) ≡ Err r
below_bad a b r h = rw (blocks, h)

-- lines below others that are fine add nothing
pub fine_adds_nothing : (a b : List Line) → judged b ≡ Ok tt → judged (a ++ b) ≡ judged a
unfolding judged
fine_adds_nothing [] b h = h
fine_adds_nothing (l ∷ a) b h = rw (fine_adds_nothing a b h)

-- of two lists, one below the other, both are fine where the whole is
pub both_fine : (a b : List Line) → judged (a ++ b) ≡ Ok tt → (judged a ≡ Ok tt) × (judged b ≡ Ok tt)
unfolding judged
both_fine [] b h = (refl, h)
both_fine (l ∷ a) b h =
    let p = passed l.ok (judged (a ++ b)) _ h in
    let rest = both_fine a b p.1 in
    (simp p.0 rest.0, rest.1)
