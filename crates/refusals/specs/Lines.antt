-- The table of refusals as a list of lines. Definitions only.
use Rattle.std.specs.Prelude.{Bool, cond, List, [], ◌∷◌, Result, Ok, Err}
use Rattle.words.specs.{declared.refusal.Refusal.Refusal}

-- whether a call can be used: if not, the refusal
abbrev pub Verdict : Type 0
Verdict = Result (Unit {0}) Refusal

-- A line: what has to hold, and the refusal, number and place, that is given where it does not.
pub record Line : Type 0 where
  pub ok : Bool
  pub why : Refusal

abbrev pub line : Bool → Refusal → Line
line ok why = record { ok = ok; why = why }

-- A line over the verdict on what stands below it: where it does not hold, it decides.
abbrev pub over : Line → Verdict → Verdict
over l below = cond l.ok below (Err l.why)

-- The first line that does not hold decides. "Under one number the lowest place is given": lines stand in the order of the
-- numbers in "10, 12, 13, 14, 11, 15", and of the places under one.
unfoldable pub judged : List Line → Verdict
judged [] = Ok tt
judged (l ∷ ls) = over l (judged ls)

-- Of two lists, one below the other: the verdict on the first where it is not fine, else that on the second.
abbrev pub first_bad : Verdict → Verdict → Verdict
first_bad (Ok _) v = v
first_bad (Err r) v = Err r
