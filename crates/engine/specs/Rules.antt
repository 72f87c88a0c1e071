-- The rules of a table and what they mean, and the settings and lists that belong to a table.
use Rattle.std.specs.Prelude.{ℕ, ◌<◌, ◌≡◌, List}
use Rattle.rows.specs.{History.History}
use Rattle.table.specs.{Checked.checked, Header.slots, Reading.tree_of, Trees.Condition, Trees.reach_of}
use Rattle.table.specs.{Bytes.Bytes}
use Rattle.rules.specs.{declared.position.PositionState.PositionState}
use Rattle.steps.specs.{Bytes.bytes_of, Translating.steps_of}
use Rattle.records.specs.{declared.settings.Settings.Settings, Lent.Lists}
use Rattle.engine.specs.{Decide.Answers}
use Rattle.rules.specs.Meaning as Meaning
use Rattle.table.specs.{Outcome.accepts}

-- the rules of a table, in tree order
pub record Rules : Type 0 where
  pub entry : Condition
  pub «exit» : Condition
  pub short_entry : Condition
  pub short_exit : Condition

abbrev pub rules_of : List ℕ → Rules
rules_of t = record { entry = tree_of t 0; «exit» = tree_of t 1; short_entry = tree_of t 2; short_exit = tree_of t 3 }

-- what they mean
unfoldable pub meanings : History → PositionState → Rules → Answers
meanings h p rs = record {
  entry = Meaning.says h p rs.entry;
  «exit» = Meaning.says h p rs.«exit»;
  short_entry = Meaning.says h p rs.short_entry;
  short_exit = Meaning.says h p rs.short_exit;
}

-- the lists that they are translated into
abbrev pub lists_of : List ℕ → Lists
lists_of t = record {
  entry = bytes_of (steps_of t 0);
  «exit» = bytes_of (steps_of t 1);
  short_entry = bytes_of (steps_of t 2);
  short_exit = bytes_of (steps_of t 3);
}

-- Settings and lists that belong to a table: it is accepted, K is its slots, D lies above each of its reaches, and the lists are those
-- that it is translated into. (The D that `depth` answers lies above them: Laws/Meaning, `from_depth`.)
pub record FromTable (table : List ℕ) (s : Settings) (ls : Lists) : Type 0 where
  pub nodes : ℕ
  pub rows : ℕ
  pub bytes : Bytes table
  pub accepted : checked table ≡ accepts nodes rows
  pub slots : s.slots ≡ slots table
  pub depth : (x : ℕ) → x < 4 → reach_of (tree_of table x) < s.depth
  pub lists : ls ≡ lists_of table
