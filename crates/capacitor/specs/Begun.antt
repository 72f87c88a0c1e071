-- What a caller sees to before the first bar, in the words of the C calls. Definitions only.
use Rattle.std.specs.Prelude.{ℕ, ◌≤◌, ◌≡◌, List, take, Ok}
use Rattle.table.specs.{Bytes.Bytes, Header.slots}
use Rattle.records.specs.{Lent.Lists, Lent.row_places, Settings.settings_of}
use Rattle.refusals.specs.{Lines.judged, Settings.setting_lines}
use Rattle.restart.specs.{Laws.Reached64.Words64}
use Rattle.stepping.specs.{Bars.StepLent}
use Rattle.capi.specs.{Tables.DepthLent, Tables.depth_call, Tables.TranslateLent, Tables.translate_call, Fresh.fresh_call}

-- `ysh_translate` answered 0, and these are the bytes that it used of the buffer that it was lent.
pub record Translation (table : List ℕ) (tree : ℕ) (steps : List ℕ) : Type 0 where
  pub lent : TranslateLent
  pub answer : (translate_call table tree lent).answer ≡ 0
  pub used : steps ≡ take (translate_call table tree lent).lent.used (translate_call table tree lent).lent.room

-- The box is begun: a state and its rooms, with these settings, and with the lists of this table.
pub record Begun (table settings : List ℕ) (ls : Lists) (box : StepLent) : Type 0 where
  -- the table is bytes, and `ysh_depth` answers 0 for it and some lookback: it is accepted
  pub bytes : Bytes table
  pub lookback : ℕ
  pub asked : DepthLent
  pub needs : (depth_call table lookback asked).answer ≡ 0
  -- D is the rows that it answers, or more; K is the table's
  pub depth : (depth_call table lookback asked).lent.rows ≤ (settings_of settings).depth
  pub slots : (settings_of settings).slots ≡ slots table
  -- the settings are 64-bit words, and 12 lets them pass
  pub words : Words64 settings
  pub twelve : judged (setting_lines (settings_of settings)) ≡ Ok tt
  -- the lists are what `ysh_translate` writes for the four trees
  pub entry : Translation table 0 ls.entry
  pub «exit» : Translation table 1 ls.«exit»
  pub short_entry : Translation table 2 ls.short_entry
  pub short_exit : Translation table 3 ls.short_exit
  -- the state is what `ysh_fresh` writes, and the buffer of rows has places for D rows
  pub room : List ℕ
  pub fresh : (fresh_call settings room).answer ≡ 0
  pub state : box.state ≡ (fresh_call settings room).lent
  pub rows : (settings_of settings).depth ≤ row_places (settings_of settings).slots box.rooms.rows
