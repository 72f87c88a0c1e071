-- Refusal 15: the four lists of steps.
use Rattle.std.specs.Prelude.{ℕ, ◌+◌, ◌*◌, Bool, true, false, List, [], ◌∷◌, Err, Ok, Result}
use Rattle.steps.specs.{WellFormed.formed}
use Rattle.words.specs.{Limits.most_steps}
use Rattle.records.specs.{Lent.Lists, Lent.lists}
use Rattle.refusals.specs.{Lines.Line, Lines.line}
use Rattle.refusals.specs.declared.lists.Lists as Trees
use Rattle.words.specs.declared.refusal.Refusal.TheVariants as Refusal

abbrev pub is_well : Result (Unit {0}) ℕ → Bool
is_well (Ok _) = true
is_well (Err p) = false

-- "its lowest bad step (0 for a bad length)"
abbrev pub bad_step : Result (Unit {0}) ℕ → ℕ
bad_step (Ok _) = 0
bad_step (Err p) = p

-- "1,024 times the list (0 to 3, in tree order) plus its lowest bad step (0 for a bad length)"
abbrev pub list_line : Result (Unit {0}) ℕ → ℕ → Line
list_line f list = line (is_well f) (Refusal.Steps (most_steps * list + bad_step f))

-- "15: a step list is not well formed"
unfoldable pub list_lines : ℕ → ℕ → Lists → List Line
list_lines K D ls =
    list_line (formed K D ls.entry) 0
    ∷ list_line (formed K D ls.«exit») 1
    ∷ list_line (formed K D ls.short_entry) 2
    ∷ list_line (formed K D ls.short_exit) 3
    ∷ []

-- what the lists of a call hold
abbrev pub lists_of : Trees.Lists → Lists
lists_of trees = lists trees.entry.now trees.«exit».now trees.short_entry.now trees.short_exit.now
