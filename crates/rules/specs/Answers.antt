-- What a rule of a table answers over rows and a position state, refusals and all. Definitions only.
use Rattle.std.specs.Prelude.{ℕ, Bool, true, cond, ◌&&◌, List, ltb, leb, Err, None, Ok, Option, Result, Some}
use Rattle.words.specs.{Limits.most_count}
use Rattle.rows.specs.{History.history_of, History.whole_rows}
use Rattle.table.specs.{Header.tree_number, Header.slots, Checked.checked, Reading.tree_of, declared.trees.Tree.Tree}
use Rattle.rules.specs.{declared.position.PositionState.PositionState}
use Rattle.rules.specs.{Meaning.says}
use Rattle.words.specs.{declared.refusal.Refusal.Refusal}
use Rattle.table.specs.{declared.answer.Accepted.Accepted}

-- "13: counts in the state exceed .. 4,294,967,295 .. or an entry bar is not below the bars seen": this is where neither.
abbrev pub entry_below : ℕ → Option ℕ → Bool
entry_below seen None = true
entry_below seen (Some bar) = ltb bar seen

unfoldable pub state_right : PositionState → Bool
state_right s = leb s.bars_seen most_count && entry_below s.bars_seen s.entered

-- "13: .. a row .. list is not whole records" comes to the same number and place. Else the rule's answer; an absent tree
-- reads as Any of none, and so says no.
unfoldable pub judged : List ℕ → ℕ → List ℕ → PositionState → Result Bool Refusal
judged t x rows s =
    cond (whole_rows (slots t) rows && state_right s) (Ok (says (history_of (slots t) rows) s (tree_of t x))) (Err Refusal.Records)

-- "1 to 9 come first", with their places.
unfoldable pub after_check : Result Accepted Refusal → Result Bool Refusal → Result Bool Refusal
after_check (Err why) a = Err why
after_check (Ok accepted) a = a

unfoldable pub answered : List ℕ → Tree → List ℕ → PositionState → Result Bool Refusal
answered t tree rows s = after_check (checked t) (judged t (tree_number tree) rows s)
