-- A box that is begun by calls is one from a table, and has the words of a fresh state.
use Rattle.std.specs.Prelude.{ℕ, ◌*◌, ◌≤◌, ◌≡◌, refl, false, List, leb, length, Err, Ok, Result}
use Rattle.words.specs.Prelude.{sym, ap, ◌∙◌}
use Rattle.words.specs.{Limits.setting_words, Limits.state_words, Limits.trees, Outcome.gives, Words.overwrite}
use Rattle.table.specs.{declared.trees.Tree.Tree, declared.trees.Tree.TheVariants.Entry, declared.trees.Tree.TheVariants.Exit}
use Rattle.table.specs.{declared.trees.Tree.TheVariants.ShortEntry, declared.trees.Tree.TheVariants.ShortExit, Checked.checked, Header.tree_number}
use Rattle.needed.specs.{Depth.depth_answer}
use Rattle.steps.specs.{Bytes.bytes_of, Demand.deep, Demand.written_there, Translating.steps_of}
use Rattle.steps.specs.{Translating.translates, Translating.room_left}
use Rattle.records.specs.{Lent.Lists, Settings.settings_of, State.fresh_state, StateWords.words_of}
use Rattle.refusals.specs.{Lines.judged}
use Rattle.engine.specs.{Rules.lists_of, Rules.FromTable}
use Rattle.runs.specs.{Laws.Meaning.from_depth}
use Rattle.replies.specs.{Call.call_of, Call.unless_bad, Call.word_lines}
use Rattle.stepping.specs.{Bars.StepLent, WordRun.lent_with}
use Rattle.capi.specs.{DayJoined.words_had, Fresh.fresh_call, Joined.words_fine, Laws.RunCalls.fresh_honest, Laws.TableCalls.depth_honest}
use Rattle.capi.specs.{Laws.TableCalls.translate_honest, Tables.numbered_tree, Tables.DepthLent, Tables.depth_gives, Tables.depth_call, Tables.TranslateLent}
use Rattle.capi.specs.{Tables.translate_gives, Tables.translate_outcome, Tables.translate_call}
use Rattle.capacitor.specs.{Begun.Translation, Begun.Begun, Laws.Answered.refuses_not, Laws.Answered.gives_same, Laws.Answered.unless_gives}
use Rattle.words.specs.{declared.refusal.Refusal.Refusal}
use Rattle.needed.specs.{Outcome.needs}
use Rattle.needed.specs.{declared.depth.Needs.Needs}

-- ---- the table

-- a depth that is given is answered
record Asked (a : Result Needs Refusal) (rows : ℕ) : Type 0 where
  row : ℕ
  window : ℕ
  is : a ≡ needs rows row window

depth_given : (a : Result Needs Refusal) (after : DepthLent) → depth_gives a ≡ gives after → Asked a after.rows
unfolding depth_gives
depth_given (Err why) after e = refuses_not e
depth_given (Ok n) after e =
    let same : n.rows ≡ after.rows = ap (λ (l : DepthLent). l.rows) (gives_same e) in
    record { row = n.row; window = n.window; is = ap (λ (r : ℕ). needs r n.row n.window) same }

-- so are steps
record Wrote (w : Result ℕ Refusal) (left : List ℕ) (after : TranslateLent) : Type 0 where
  count : ℕ
  is : w ≡ Ok count
  used : after.used ≡ 16 * count
  room : after.room ≡ left

steps_given : (w : Result ℕ Refusal) (room : List ℕ) (after : TranslateLent) → translate_gives w room ≡ gives after → Wrote w room after
unfolding translate_gives
steps_given (Err why) room after e = refuses_not e
steps_given (Ok count) room after e =
    let same = gives_same e in
    record {
      count = count;
      is = refl;
      used = ap (λ (l : TranslateLent). l.used) (sym same);
      room = ap (λ (l : TranslateLent). l.room) (sym same);
    }

tree_given : (table : List ℕ) (n : ℕ) (tree : Tree) (room : List ℕ) (after : TranslateLent) → leb trees n ≡ false → numbered_tree n ≡ tree
    → translate_outcome table n room ≡ gives after → translate_gives (translates table tree room) (room_left table tree room) ≡ gives after
unfolding translate_outcome
tree_given table n tree room after there is h = rw (← is) (rw there at h)

list_is : (table : List ℕ) (n : ℕ) (tree : Tree) (steps : List ℕ) → leb trees n ≡ false → numbered_tree n ≡ tree → Translation table n steps
    → steps ≡ bytes_of (steps_of table (tree_number tree))
list_is table n tree steps there is t =
    let lent = (translate_call table n t.lent).lent in
    let given = tree_given table n tree t.lent.room lent there is ((translate_honest table n t.lent).does t.answer) in
    let w = steps_given (translates table tree t.lent.room) (room_left table tree t.lent.room) lent given in
    t.used ∙ rw (w.used, w.room) (written_there table tree t.lent.room w.count w.is)

-- ---- the state

-- what `ysh_fresh` writes
pub fresh_lent : (settings room : List ℕ) → setting_words ≤ length settings → state_words ≤ length room
    → (fresh_call settings room).lent ≡ overwrite room 0 (words_of (fresh_state (settings_of settings)))
unfolding fresh_call call_of unless_bad
fresh_lent settings room set long = rw (words_fine settings room set long)

-- ---- both

module _ (table settings : List ℕ) (ls : Lists) (box : StepLent) (begun : Begun table settings ls box) where
  -- A BOX THAT IS BEGUN has settings and lists that belong to its table.
  pub begun_from : FromTable table (settings_of settings) ls
  unfolding numbered_tree
  begun_from =
      let b = begun in
      let given = (depth_honest table b.lookback b.asked).does b.needs in
      let a = depth_given (depth_answer (checked table) table b.lookback) (depth_call table b.lookback b.asked).lent given in
      let d = deep table b.lookback _ a.row a.window a.is in
      let same : ls ≡ lists_of table =
      rw (
        list_is table 0 Entry ls.entry refl refl b.entry,
        list_is table 1 Exit ls.«exit» refl refl b.«exit»,
        list_is table 2 ShortEntry ls.short_entry refl refl b.short_entry,
        list_is table 3 ShortExit ls.short_exit refl refl b.short_exit,
      ) in
      rw same
      (from_depth table d.nodes d.rows d.accepted b.bytes (settings_of settings) b.slots b.lookback (rw (← d.is) b.depth))

  begun_words : (judged (word_lines settings begun.room) ≡ Ok tt)
      × (overwrite begun.room 0 (words_of (fresh_state (settings_of settings))) ≡ box.state)
  begun_words =
      let given = unless_gives _ _ _ ((fresh_honest settings begun.room).does begun.fresh) in
      (given.0, gives_same given.1 ∙ sym begun.state)

  -- and lies in memory as a fresh state does
  pub begun_lengths : (setting_words ≤ length settings) × (state_words ≤ length begun.room)
  begun_lengths = words_had settings begun.room begun_words.0

  pub begun_box : box ≡ lent_with begun.room (fresh_state (settings_of settings)) box.rooms
  begun_box = rw begun_words.1
