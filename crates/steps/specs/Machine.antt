-- The step machine: what a step does, what a run is and which places it visits. Definitions only.
use Rattle.std.specs.Prelude.{ℕ, zero, suc, ◌+◌, ◌-◌, Bool, true, false, not, cond, List, [], ◌∷◌, get_or, drop, ltb, Float, None, Option}
use Rattle.rows.specs.{History.History}
use Rattle.table.specs.{Trees.Operand, Trees.const, Trees.ref, Trees.price, Trees.extreme, Trees.in_position, Trees.bars_since}
use Rattle.rules.specs.{declared.position.PositionState.PositionState, Values.combined}
use Rattle.rules.specs.{Values.compared, Values.crossed, Values.within, Meaning.value, Meaning.holds, Meaning.newest}
use Rattle.steps.specs.{declared.machine.Ran.Ran, declared.step.Op.Op, declared.step.Op.TheVariants.Const, declared.step.Op.TheVariants.Ref}
use Rattle.steps.specs.{declared.step.Op.TheVariants.Price, declared.step.Op.TheVariants.Arith, declared.step.Op.TheVariants.Compare}
use Rattle.steps.specs.{declared.step.Op.TheVariants.Cross, declared.step.Op.TheVariants.Between, declared.step.Op.TheVariants.Answer}
use Rattle.steps.specs.{declared.step.Op.TheVariants.Turn, declared.step.Op.TheVariants.InPosition, declared.step.Op.TheVariants.BarsSinceEntry}
use Rattle.steps.specs.{declared.step.Op.TheVariants.Extreme, declared.step.Op.TheVariants.JumpIf, declared.step.Op.TheVariants.Unknown}
use Rattle.std.specs.Bool.{beq}

-- ---- the values so far

-- The machine has one answer and holds values, the last first.
pub record Values : Type 0 where
  pub stack : List (Option Float)
  pub answer : Bool

-- "a value not there counts as missing": the value j places below the last.
abbrev pub nth : List (Option Float) → ℕ → Option Float
nth vs j = get_or vs j None

-- At first there is no value, and the answer is no: "An empty list answers no".
abbrev pub start : Values
start = record { stack = []; answer = false }

-- ---- a step

-- What a step does: it takes so many values, gives one or none, leaves an answer and passes over so many steps. It counts so many visits.
pub record Effect : Type 0 where
  pub take : ℕ
  pub gives : Bool
  pub value : Option Float
  pub answer : Bool
  pub skip : ℕ
  pub visits : ℕ

-- An operand n rows before the newest, missing where there are not more than n rows.
unfoldable pub ago : History → Operand → ℕ → Option Float
ago h a n = cond (ltb n h.rows) (value h a (newest h - n)) None

-- Takes m values and gives one, the answer as it was.
abbrev pub giving : ℕ → Option Float → Bool → Effect
giving m v y = record { take = m; gives = true; value = v; answer = y; skip = 0; visits = 1 }

-- "Such a step counts n visits" (request 8): a look over n rows takes no value and gives one. One visit where n is 0: no well-formed list
-- has such a step.
abbrev pub viewing : ℕ → Option Float → Bool → Effect
viewing n v y = record { take = 0; gives = true; value = v; answer = y; skip = 0; visits = 1 + (n - 1) }

-- Takes m values and answers.
abbrev pub saying : ℕ → Bool → Effect
saying m y = record { take = m; gives = false; value = None; answer = y; skip = 0; visits = 1 }

-- Passes over n steps, the answer as it was.
abbrev pub passing : ℕ → Bool → Effect
passing n y = record { take = 0; gives = false; value = None; answer = y; skip = n; visits = 1 }

-- "What a step does depends on its own 16 bytes, the rows, the position state and the values so far": a, b, c, d are the last four
-- values, the last first, and y is the answer so far.
unfoldable pub effect : History → PositionState → Op → Option Float → Option Float → Option Float → Option Float → Bool → Effect
effect h s (Const bits n) a b c d y = giving 0 (ago h (const bits) n) y
effect h s (Ref k n) a b c d y = giving 0 (ago h (ref k) n) y
effect h s (Price p n) a b c d y = giving 0 (ago h (price p) n) y
effect h s (Extreme kind over n back) a b c d y = viewing n (ago h (extreme kind over n) back) y
effect h s (Arith k) a b c d y = giving 2 (combined k b a) y
effect h s (Compare k) a b c d y = saying 2 (compared k b a)
effect h s (Cross k) a b c d y = saying 4 (crossed k d c b a)
effect h s Between a b c d y = saying 3 (within c b a)
effect h s (Answer w) a b c d y = saying 0 w
effect h s Turn a b c d y = saying 0 (not y)
effect h s (InPosition w) a b c d y = saying 0 (holds h s (in_position w) (newest h))
effect h s (BarsSinceEntry p k) a b c d y = saying 0 (holds h s (bars_since p k) (newest h))
effect h s (JumpIf w n) a b c d y = passing (cond (beq y w) n 0) y
effect h s Unknown a b c d y = saying 0 y

unfoldable pub does : History → PositionState → Op → Values → Effect
does h s x v =
    effect h s x (nth v.stack 0) (nth v.stack 1) (nth v.stack 2) (nth v.stack 3) v.answer

-- one value more, or none
abbrev pub given : Bool → Option Float → List (Option Float) → List (Option Float)
given true v vs = v ∷ vs
given false v vs = vs

-- the values after a step
unfoldable pub after_step : Effect → Values → Values
after_step e v = record { stack = given e.gives e.value (drop e.take v.stack); answer = e.answer }

-- ---- a run

-- From the first step on, of which k are passed over before the next is visited.
unfoldable pub run : History → PositionState → List Op → ℕ → Values → Values
run h s [] k v = v
run h s (x ∷ xs) (suc k) v = run h s xs k v
run h s (x ∷ xs) zero v = run h s xs (does h s x v).skip (after_step (does h s x v) v)

-- "The definition of a run gives the places visited, in rising order": the list begins at place p.
unfoldable pub places : History → PositionState → ℕ → List Op → ℕ → Values → List ℕ
places h s p [] k v = []
places h s p (x ∷ xs) (suc k) v = places h s (p + 1) xs k v
places h s p (x ∷ xs) zero v = p ∷ places h s (p + 1) xs (does h s x v).skip (after_step (does h s x v) v)

-- "a run reports how many steps it visited", a look over n rows counting n times
unfoldable pub visit_count : History → PositionState → List Op → ℕ → Values → ℕ
visit_count h s [] k v = 0
visit_count h s (x ∷ xs) (suc k) v = visit_count h s xs k v
visit_count h s (x ∷ xs) zero v = (does h s x v).visits + visit_count h s xs (does h s x v).skip (after_step (does h s x v) v)

-- The answer of a whole list.
abbrev pub answers : History → PositionState → List Op → Bool
answers h s xs = (run h s xs 0 start).answer

-- The places that a whole list visits.
abbrev pub visited : History → PositionState → List Op → List ℕ
visited h s xs = places h s 0 xs 0 start

-- What it counts.
abbrev pub visits_of : History → PositionState → List Op → ℕ
visits_of h s xs = visit_count h s xs 0 start

abbrev pub ran_over : History → PositionState → List Op → Ran
ran_over h s xs = record { answer = answers h s xs; visits = visits_of h s xs }
