-- The chain of a tree of a table over rows and a position state, refusals and all. Definitions only.
use Rattle.std.specs.Prelude.{ℕ, ◌*◌, cond, ◌&&◌, List, [], ◌++◌, ltb, leb, eqb, length, drop, Err, Ok, Result}
use Rattle.words.specs.{Limits.trees}
use Rattle.rows.specs.{History.history_of, History.whole_rows}
use Rattle.table.specs.{Header.slots}
use Rattle.table.specs.{Header.count, Header.root, Checked.checked, Reading.tree_of}
use Rattle.rules.specs.{declared.position.PositionState.PositionState, Meaning.newest, Answers.state_right}
use Rattle.chain.specs.{Missing.in_table, Chain.ChainLine, Chain.chain, Lines.line_length}
use Rattle.chain.specs.{Lines.chain_words}
use Rattle.words.specs.{declared.refusal.Refusal.Refusal}
use Rattle.table.specs.{declared.answer.Accepted.Accepted}

-- "Given a table, rows and position state, list the chain of nodes from the root to what decided": at the newest bar, and with the
-- table's own node numbers. "an absent tree has no lines"; a number above 3 names no tree.
unfoldable pub explanation : List ℕ → ℕ → List ℕ → PositionState → List ChainLine
explanation t x rows s =
    let h = history_of (slots t) rows in
    cond (leb trees x) [] (cond (eqb (count t x) 0) [] (chain in_table h s (tree_of t x) (root t x) (newest h)))

-- "10 if the lent list holds fewer than 32 lines."
abbrev pub most_lines : ℕ
most_lines = 32

-- "1 to 9 come first"; then 10, for room 10; then 13, as for a rule's answer.
unfoldable pub explained_by : Result Accepted Refusal → List ℕ → ℕ → List ℕ → PositionState → List ℕ → Result ℕ Refusal
explained_by (Err why) t x rows s list = Err why
explained_by (Ok accepted) t x rows s list =
    cond (ltb (length list) (line_length * most_lines)) (Err (Refusal.Room 10))
    (cond (whole_rows (slots t) rows && state_right s) (Ok (length (explanation t x rows s))) (Err Refusal.Records))

unfoldable pub explained : List ℕ → ℕ → List ℕ → PositionState → List ℕ → Result ℕ Refusal
explained t x rows s list = explained_by (checked t) t x rows s list

-- The list afterwards: the lines, and what stood past them. "A refusal .. changes nothing lent."
unfoldable pub lines_after_answer : Result ℕ Refusal → List ChainLine → List ℕ → List ℕ
lines_after_answer (Err why) ls list = list
lines_after_answer (Ok n) ls list = chain_words ls ++ drop (line_length * length ls) list
