-- A list of steps as bytes: read and written. Definitions only.
use Rattle.std.specs.Prelude.{ℕ, zero, suc, ◌+◌, ◌-◌, ◌*◌, ◌/◌, ◌%◌, ◌≤◌, min, ◌≡◌, Bool, cond, ◌&&◌, List, [], ◌∷◌, ◌++◌, length, get_or, set, ltb, leb, eqb}
use Rattle.words.specs.{Limits.most_steps}
use Rattle.table.specs.{declared.series.Series.Series, Bytes.u16, Bytes.u32, Bytes.u64}
use Rattle.steps.specs.{declared.step.Step.Step, declared.step.Op.Op, declared.step.Op.TheVariants.Const, declared.step.Op.TheVariants.Ref}
use Rattle.steps.specs.{declared.step.Op.TheVariants.Price, declared.step.Op.TheVariants.Arith, declared.step.Op.TheVariants.Compare}
use Rattle.steps.specs.{declared.step.Op.TheVariants.Cross, declared.step.Op.TheVariants.Between, declared.step.Op.TheVariants.Answer}
use Rattle.steps.specs.{declared.step.Op.TheVariants.Turn, declared.step.Op.TheVariants.InPosition, declared.step.Op.TheVariants.BarsSinceEntry}
use Rattle.steps.specs.{declared.step.Op.TheVariants.JumpIf, declared.step.Op.TheVariants.Extreme, declared.step.Op.TheVariants.Unknown}
use Rattle.table.specs.Named as Named
use Rattle.table.specs.declared.series.Series.TheVariants as Over

-- ---- reading

abbrev pub fields : ℕ → ℕ → ℕ → ℕ → ℕ → Step
fields k s skip n bits = record { kind = k; selector = s; skip = skip; n = n; bits = bits }

-- "16 bytes a step", laid out as a node's: kind (1), selector (1), skip (2), n (4), constant bits (8).
unfoldable pub read_step : List ℕ → ℕ → Step
read_step bs at =
    fields (get_or bs at 0) (get_or bs (at + 1) 0) (u16 bs (at + 2)) (u32 bs (at + 4)) (u64 bs (at + 8))

-- The step of two words: its constant, and its head, the number that the eight bytes before it make.
abbrev pub of_words : ℕ → ℕ → Step
of_words head bits = fields (head % 256) (head / 256 % 256) (head / 65536 % 65536) (head / 4294967296) bits

-- How many whole steps there are, and the one at place p: all zeros past the last.
abbrev pub steps_in : List ℕ → ℕ
steps_in bs = length bs / 16

unfoldable pub step_at : List ℕ → ℕ → Step
step_at bs p = cond (ltb p (steps_in bs)) (read_step bs (16 * p)) (fields 0 0 0 0 0)

-- A step has the number of the kind that it stands for. Jumps stand for no kind and have numbers of their own.
abbrev pub jump_at_no : ℕ
jump_at_no = 32

abbrev pub jump_at_yes : ℕ
jump_at_yes = 33

-- No step has this number or a larger one.
abbrev pub past_jumps : ℕ
past_jumps = 34

-- "Kinds of steps 9, 10 over a price and 11, 12 over a slot" (decided): Highest and Lowest over a price have the kind's number.
abbrev pub highest_slot : ℕ
highest_slot = 11

abbrev pub lowest_slot : ℕ
lowest_slot = 12

-- Which steps are operations on two values.
unfoldable pub is_operation : ℕ → Bool
is_operation step = leb Named.add step && ltb step Named.highest

-- The steps of operands come first, then those that test values: which of these compare two, and which are a test at all, a comparison, a
-- cross or Between.
abbrev pub first_test : ℕ
first_test = Named.gt

unfoldable pub is_comparison : ℕ → Bool
is_comparison step = leb first_test step && ltb step Named.cross_above

unfoldable pub is_test_step : ℕ → Bool
is_test_step step = leb first_test step && ltb step Named.rising

unfoldable pub slot_kind : ℕ → ℕ
slot_kind kind = cond (eqb kind Named.highest) highest_slot lowest_slot

-- Decided: the selector is the price or the slot, skip is how many rows, n the look-back to the oldest of them.
unfoldable pub extreme_op : Step → Op
extreme_op x =
    cond (ltb x.kind highest_slot) (Extreme x.kind (Over.Price x.selector) x.skip (x.n - (x.skip - 1)))
    (Extreme (x.kind - 2) (Over.Slot x.selector) x.skip (x.n - (x.skip - 1)))

-- What a step says, by its kind. Kinds below those of tests are of operands,
unfoldable pub operand_op : Step → Op
operand_op x =
    cond (eqb x.kind Named.const) (Const x.bits x.n)
    (cond (eqb x.kind Named.ref) (Ref x.selector x.n)
    (cond (eqb x.kind Named.price) (Price x.selector x.n)
    (cond (ltb x.kind Named.add) Unknown
    (cond (is_operation x.kind) (Arith x.kind)
    (cond (leb x.kind lowest_slot) (extreme_op x) Unknown)))))

-- those below All of tests on values,
unfoldable pub test_op : Step → Op
test_op x =
    cond (is_comparison x.kind) (Compare x.kind)
    (cond (ltb x.kind Named.between) (Cross x.kind) (cond (eqb x.kind Named.between) Between Unknown))

-- and the rest set the answer (All and Any begin with a yes and a no), turn it, read the position, or jump.
unfoldable pub answer_op : Step → Op
answer_op x =
    cond (ltb x.kind Named.not) (Answer (eqb x.kind Named.all))
    (cond (eqb x.kind Named.not) Turn
    (cond (eqb x.kind Named.in_position) (InPosition (eqb x.selector 1))
    (cond (eqb x.kind Named.bars_since_entry) (BarsSinceEntry x.selector x.n)
    (cond (ltb x.kind past_jumps) (JumpIf (eqb x.kind jump_at_yes) x.skip) Unknown))))

unfoldable pub op_of : Step → Op
op_of x = cond (ltb x.kind first_test) (operand_op x) (cond (ltb x.kind Named.all) (test_op x) (answer_op x))

-- m steps from place p on
unfoldable pub ops_from : List ℕ → ℕ → ℕ → List Op
ops_from bs p zero = []
ops_from bs p (suc m) = op_of (step_at bs p) ∷ ops_from bs (p + 1) m

-- "A list is well formed when it is whole steps, at most 1,024". Decided: of a longer one, which no run takes (15), no more count.
unfoldable pub steps_run : List ℕ → ℕ
steps_run bs = min most_steps (steps_in bs)

-- What all of its steps say.
unfoldable pub ops_of : List ℕ → List Op
ops_of bs = ops_from bs 0 (steps_run bs)

-- ---- writing

-- Highest or Lowest over n rows, the oldest of them so many back.
unfoldable pub extreme_step : ℕ → Series → ℕ → ℕ → Step
extreme_step kind (Over.Price p) n oldest = fields kind p n oldest 0
extreme_step kind (Over.Slot k) n oldest = fields (slot_kind kind) k n oldest 0

-- The fields of a step that says so; those that its kind does not use are zero.
unfoldable pub step_of : Op → Step
step_of (Const bits n) = fields Named.const 0 0 n bits
step_of (Ref k n) = fields Named.ref k 0 n 0
step_of (Price p n) = fields Named.price p 0 n 0
step_of (Extreme kind over n back) = extreme_step kind over n (back + (n - 1))
step_of (Arith k) = fields k 0 0 0 0
step_of (Compare k) = fields k 0 0 0 0
step_of (Cross k) = fields k 0 0 0 0
step_of Between = fields Named.between 0 0 0 0
step_of (Answer w) = fields (cond w Named.all Named.any) 0 0 0 0
step_of Turn = fields Named.not 0 0 0 0
step_of (InPosition w) = fields Named.in_position (cond w 1 0) 0 0 0
step_of (BarsSinceEntry p k) = fields Named.bars_since_entry p 0 k 0
step_of (JumpIf w skip) = fields (cond w jump_at_yes jump_at_no) 0 skip 0 0
step_of Unknown = fields 0 0 0 0 0

-- Two, four and eight bytes, the lowest first.
abbrev pub two : ℕ → List ℕ
two n = n % 256 ∷ n / 256 % 256 ∷ []

abbrev pub four : ℕ → List ℕ
four n = n % 256 ∷ n / 256 % 256 ∷ n / 65536 % 256 ∷ n / 16777216 % 256 ∷ []

abbrev pub eight : ℕ → List ℕ
eight n = four (n % 4294967296) ++ four (n / 4294967296)

unfoldable pub step_bytes : Step → List ℕ
step_bytes x = (x.kind ∷ x.selector % 256 ∷ two x.skip) ++ (four x.n ++ eight x.bits)

-- "The bytes used are those of a written definition."
unfoldable pub bytes_of : List Op → List ℕ
bytes_of [] = []
bytes_of (x ∷ xs) = step_bytes (step_of x) ++ bytes_of xs

-- ---- a room with steps in it

-- A room with vs written over its bytes from i + j on, one after the other.
abbrev pub write_from : List ℕ → ℕ → ℕ → List ℕ → List ℕ
write_from room i j [] = room
write_from room i j (v ∷ vs) = write_from (set room (i + j) v) i (suc j) vs

unfoldable pub write_at : List ℕ → ℕ → List ℕ → List ℕ
write_at room i vs = write_from room i 0 vs

-- A room with steps written into it from place `at` on, where they fit.
abbrev pub written : List ℕ → ℕ → List Op → List ℕ
written room at xs = write_at room (16 * at) (bytes_of xs)

pub record Fits (room : List ℕ) (at : ℕ) (xs : List Op) : Type 0 where
  pub bytes : 16 * (at + length xs) ≤ length room

-- A call that writes steps into a room leaves it so, and returns the next free place.
pub record Wrote (room : List ℕ) (at : ℕ) (xs : List Op) (after : List ℕ) (next : ℕ) : Type 0 where
  pub place : next ≡ at + length xs
  pub bytes : after ≡ written room at xs
