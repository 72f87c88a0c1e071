-- Which lists of steps are well formed. Definitions only.
use Rattle.std.specs.Prelude.{ℕ, zero, suc, ◌+◌, ◌-◌, ◌%◌, Bool, true, false, cond, ◌&&◌, List, length, ltb, leb, eqb, Err, Ok, Result}
use Rattle.words.specs.{Limits.most_steps}
use Rattle.table.specs.{declared.series.Series.Series}
use Rattle.steps.specs.{declared.step.Step.Step}
use Rattle.steps.specs.{declared.step.Op.Op, declared.step.Op.TheVariants.Const}
use Rattle.steps.specs.{declared.step.Op.TheVariants.Ref, declared.step.Op.TheVariants.Price, declared.step.Op.TheVariants.Arith}
use Rattle.steps.specs.{declared.step.Op.TheVariants.Compare, declared.step.Op.TheVariants.Cross, declared.step.Op.TheVariants.Between}
use Rattle.steps.specs.{declared.step.Op.TheVariants.Answer, declared.step.Op.TheVariants.Turn, declared.step.Op.TheVariants.InPosition}
use Rattle.steps.specs.{declared.step.Op.TheVariants.BarsSinceEntry, declared.step.Op.TheVariants.JumpIf, declared.step.Op.TheVariants.Extreme}
use Rattle.steps.specs.{declared.step.Op.TheVariants.Unknown, Bytes.step_at, Bytes.op_of, Bytes.steps_in}
use Rattle.table.specs.declared.series.Series.TheVariants as Over

unfoldable pub zeros : ℕ → ℕ → ℕ → ℕ → Bool
zeros selector skip n bits = eqb selector 0 && eqb skip 0 && eqb n 0 && eqb bits 0

-- Highest and Lowest (decided): "1 ≤ skip ≤ look-back + 1", and the constant, which they do not use, is zero
unfoldable pub rows_fit : ℕ → ℕ → ℕ → Bool
rows_fit skip n bits = leb 1 skip && leb (skip - 1) n && eqb bits 0

-- "each of a known kind with unused fields zero": what the kind uses stands as 0 here.
unfoldable pub unused_fields_zero : Step → Op → Bool
unused_fields_zero x (Const bits n) = zeros x.selector x.skip 0 0
unused_fields_zero x (Ref k n) = zeros 0 x.skip 0 x.bits
unused_fields_zero x (Price p n) = zeros 0 x.skip 0 x.bits
unused_fields_zero x (Extreme kind over n back) = rows_fit x.skip x.n x.bits
unused_fields_zero x (Arith k) = zeros x.selector x.skip x.n x.bits
unused_fields_zero x (Compare k) = zeros x.selector x.skip x.n x.bits
unused_fields_zero x (Cross k) = zeros x.selector x.skip x.n x.bits
unused_fields_zero x Between = zeros x.selector x.skip x.n x.bits
unused_fields_zero x (Answer w) = zeros x.selector x.skip x.n x.bits
unused_fields_zero x Turn = zeros x.selector x.skip x.n x.bits
unused_fields_zero x (InPosition w) = zeros 0 x.skip x.n x.bits
unused_fields_zero x (BarsSinceEntry p k) = zeros 0 x.skip 0 x.bits
unused_fields_zero x (JumpIf w skip) = zeros x.selector 0 x.n x.bits
unused_fields_zero x Unknown = false

-- "a slot below K and a look-back below D", the look-back to the oldest of n rows
unfoldable pub series_within : ℕ → Series → Bool
series_within K (Over.Price p) = true
series_within K (Over.Slot k) = ltb k K

unfoldable pub looks_within : ℕ → ℕ → Series → ℕ → ℕ → Bool
looks_within K D over n back = series_within K over && ltb (back + (n - 1)) D

-- "a jump that lands later in the list or just past it, a slot below K and a look-back below D", where `after` steps stand after it
unfoldable pub bounded : ℕ → ℕ → ℕ → Op → Bool
bounded K D after (Const bits n) = ltb n D
bounded K D after (Ref k n) = ltb k K && ltb n D
bounded K D after (Price p n) = ltb n D
bounded K D after (Extreme kind over n back) = looks_within K D over n back
bounded K D after (Arith k) = true
bounded K D after (Compare k) = true
bounded K D after (Cross k) = true
bounded K D after Between = true
bounded K D after (Answer w) = true
bounded K D after Turn = true
bounded K D after (InPosition w) = true
bounded K D after (BarsSinceEntry p k) = true
bounded K D after (JumpIf w skip) = leb skip after
bounded K D after Unknown = true

unfoldable pub good_step : ℕ → ℕ → ℕ → Step → Bool
good_step K D after x = unused_fields_zero x (op_of x) && bounded K D after (op_of x)

-- "its lowest bad step", of m steps from place p on
unfoldable pub formed_from : ℕ → ℕ → List ℕ → ℕ → ℕ → Result (Unit {0}) ℕ
formed_from K D bs p zero = Ok tt
formed_from K D bs p (suc m) = cond (good_step K D m (step_at bs p)) (formed_from K D bs (p + 1) m) (Err p)

-- "A list is well formed when it is whole steps, at most 1,024, each of ..": "0 for a bad length"
unfoldable pub formed : ℕ → ℕ → List ℕ → Result (Unit {0}) ℕ
formed K D bs =
    cond (eqb (length bs % 16) 0) (cond (ltb most_steps (steps_in bs)) (Err 0) (formed_from K D bs 0 (steps_in bs))) (Err 0)
