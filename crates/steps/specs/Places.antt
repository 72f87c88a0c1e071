-- A run with so many places for values, for the code alone: the machine of Machine.antt has no end of them. Definitions only.
use Rattle.std.specs.Prelude.{ℕ, ◌+◌, ◌-◌, ◌*◌, ◌<◌, ◌≤◌, ◌≡◌, Bool, true, false, cond, List, [], Float, ltb, length, get_or, replicate, set, None, Option, Some}
use Rattle.words.specs.Prelude.{nan}
use Rattle.rows.specs.{History.History}
use Rattle.rules.specs.{declared.position.PositionState.PositionState}
use Rattle.rules.specs.{Values.crossed, Values.within}
use Rattle.steps.specs.{declared.machine.Ran.Ran, Bytes.op_of, Bytes.step_at, Bytes.ops_from, Machine.Values, Machine.giving, Machine.effect, Machine.run}
use Rattle.steps.specs.{Machine.visit_count, Machine.start}
use Rattle.table.specs.Named as Named

-- A value as two: its number, which is written where there is one, and whether it is there.
unfoldable pub numbers_with : List Float → ℕ → Option Float → List Float
numbers_with numbers i None = numbers
numbers_with numbers i (Some x) = set numbers i x

unfoldable pub is_there : Option Float → Bool
is_there None = false
is_there (Some x) = true

-- The value at place i of two such lists.
unfoldable pub value_at : List Float → List Bool → ℕ → Option Float
value_at numbers there i = cond (get_or there i false) (Some (get_or numbers i nan)) None

-- What a cross or Between answers of the last values, the last at place top + 3, by its kind.
abbrev pub tested_at : ℕ → List Float → List Bool → ℕ → Bool
tested_at kind numbers there top =
    cond (ltb kind Named.between)
    (crossed kind (value_at numbers there top) (value_at numbers there (top + 1)) (value_at numbers there (top + 2)) (value_at numbers there (top + 3)))
    (within (value_at numbers there (top + 1)) (value_at numbers there (top + 2)) (value_at numbers there (top + 3)))

-- Two lists with so many places above the four that are always missing, and no value yet.
pub record Fresh (places : ℕ) (numbers : List Float) (there : List Bool) : Type 0 where
  pub long : length numbers ≡ places + 4
  pub none : there ≡ replicate (places + 4) false

-- What it comes to: nothing where a value found no place, and then there are more steps than places; if each found one, it is the run.
unfoldable pub Tries : Ran → ℕ → ℕ → Option Ran → Type 0
Tries ran steps places None = places < steps
Tries ran steps places (Some r) = r ≡ ran

-- ---- a run that is on its way

abbrev pub holding : Bool → List (Option Float) → Values
holding b vs = record { stack = vs; answer = b }

-- The run of the first n steps of a list has come to place p, with these values, this answer and so many visits.
pub record Came (h : History) (s : PositionState) (bs : List ℕ) (n : ℕ) (vs : List (Option Float)) (y : Bool) (visits p : ℕ) : Type 0 where
  pub seen : visits ≤ 65536 * p
  pub on : p ≤ n
  pub same : run h s (ops_from bs 0 n) 0 start ≡ run h s (ops_from bs p (n - p)) 0 (holding y vs)
  pub count : visit_count h s (ops_from bs 0 n) 0 start ≡ visits + visit_count h s (ops_from bs p (n - p)) 0 (holding y vs)

-- The step at place p gives this value, whatever came before it: it is a leaf.
abbrev pub Gives : History → List ℕ → ℕ → Option Float → Type 0
Gives h bs p v = (s : PositionState) (a b c d : Option Float) (y : Bool) → effect h s (op_of (step_at bs p)) a b c d y ≡ giving 0 v y

-- The steps from place p on, so many of them, are a test with its leaves, and this is its answer; where they are none, nothing is said.
abbrev pub Tests : History → List ℕ → ℕ → ℕ → ℕ → Bool → Type 0
Tests h bs n p steps w =
    0 < steps → (s : PositionState) (y : Bool) (visits : ℕ) → Came h s bs n [] y visits p → Came h s bs n [] w (visits + steps) (p + steps)
