-- A value that is missing leaves an operand missing and answers a test with no. Assumes nothing.
use Rattle.std.specs.Prelude.{ℕ, ◌≡◌, refl, Bool, true, false, cond, ◌&&◌, ltb, eqb, Float, None, Option, Some}
use Rattle.rows.specs.{History.History}
use Rattle.rules.specs.{Values.combined, Values.compared, Values.crossed, Values.within, Values.trended, Meaning.there}

-- what a test chooses between two that are the same
pub either_way : {A : Type 0} (t : Bool) (x : A) → cond t x x ≡ x
either_way true x = refl
either_way false x = refl

-- ---- an operand

pub missing_there : (h : History) (i : ℕ) → there h i None ≡ None
unfolding there
missing_there h i = either_way (ltb i h.rows) None

pub both_late : (k : ℕ) (x : Option Float) → combined k x None ≡ None
unfolding combined
both_late k None = refl
both_late k (Some x) = refl

-- ---- a test

pub compared_late : (k : ℕ) (x : Option Float) → compared k x None ≡ false
unfolding compared
compared_late k None = refl
compared_late k (Some x) = refl

and_no : (a : Bool) → (a && false) ≡ false
and_no true = refl
and_no false = refl

pub within_low : (x u : Option Float) → within x None u ≡ false
unfolding within compared
within_low x u = refl

pub within_high : (x l : Option Float) → within x l None ≡ false
unfolding within
within_high x l = rw (compared_late 19 x) (and_no (compared 19 l x))

pub within_value : (l u : Option Float) → within None l u ≡ false
unfolding within
within_value l u = rw (compared_late 19 l)

pub crossed_first : (k : ℕ) (a b y : Option Float) → crossed k a b None y ≡ false
unfolding crossed compared
crossed_first k a b y = either_way (eqb k 22) false

pub crossed_second : (k : ℕ) (a b x : Option Float) → crossed k a b x None ≡ false
unfolding crossed
crossed_second k a b x = rw (compared_late 19 x, compared_late 18 x) (either_way (eqb k 22) false)

pub trended_late : (k : ℕ) (x : Option Float) → trended k x None ≡ false
unfolding trended
trended_late k x = rw (compared_late 16 x, compared_late 17 x) (either_way (eqb k 25) false)
