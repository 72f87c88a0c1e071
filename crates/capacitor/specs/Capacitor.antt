-- THE CAPACITOR THEOREM. A box takes bars by `ysh_step`. When its supply fails it is dumped by `ysh_dump`, and a driver programs the image into flash; the
-- supply may fail in any program, and leave any bytes there. When it is back, `ysh_restore` refuses, or it answers 0 and the box goes on. However often
-- this happens: what the box held, and holds, is what the rules of its table mean over every bar that it ever took.
use Rattle.std.specs.Prelude.{ℕ, ◌+◌, ◌*◌, ◌/◌, ◌^◌, ◌≤◌, ◌≡◌, List, [], ◌∷◌, ◌++◌, length, take}
use Rattle.words.specs.Prelude.{flat_map}
use Rattle.words.specs.{Limits.state_words, Limits.most_count}
use Rattle.portfolio.specs.{Trade.words_of_trade}
use Rattle.records.specs.{Lent.Lists, Lent.Rooms, Lent.row_places, Lent.point_places, Lent.trade_places, Settings.settings_of, StateWords.state_of}
use Rattle.engine.specs.{Books.words_of_point, Whole.account_of, Whole.Ledger, Whole.meant_run}
use Rattle.restart.specs.{FirstWord.Unmarked, Laws.Reached64.Bars64, PagePlan.first_word, PagePlan.whole_pages, Plans.all_programmed, Plans.in_order}
use Rattle.stepping.specs.{Bars.StepLent, WordRun.WordRun, WordRun.calls_over}
use Rattle.capi.specs.{Fresh.fresh_call, Power.dump_call}
use Rattle.capacitor.specs.{Begun.Begun, Loss.Loss, Loss.size_of, Loss.image_in, Loss.restore_of, Loss.Driven, Loss.Restored, Loss.last_box, Loss.bars_before}
use Rattle.capacitor.specs.{Loss.points_in, Loss.trades_in, Loss.points_before, Loss.trades_before}

-- the calls of `ysh_step` for the bars since the last restore
abbrev pub now : List ℕ → Lists → StepLent → List Loss → List (List ℕ) → WordRun
now settings ls box losses bars = calls_over settings ls (last_box settings box losses) bars

-- the run of a box with unbroken supply, whose rules, by their meaning, and whose volatility read every bar that was ever taken
abbrev pub unbroken : List ℕ → List ℕ → List Loss → List (List ℕ) → ℕ → Ledger
unbroken table settings losses bars taken = meant_run table (settings_of settings) (bars_before losses ++ take taken bars)

-- A restore that answers 0, after which the loss is one more of the list; or one that is refused with 19 or 20, at place 0.
pub data AfterLoss (settings : List ℕ) (ls : Lists) (box : StepLent) (losses : List Loss) (l : Loss) : Type 0 where
  goes_on : (restore_of settings l).answer ≡ 0 → Restored settings ls box (losses ++ (l ∷ [])) → AfterLoss settings ls box losses l
  refused19 : (restore_of settings l).answer ≡ 19 * 2 ^ 32 → AfterLoss settings ls box losses l
  refused20 : (restore_of settings l).answer ≡ 20 * 2 ^ 32 → AfterLoss settings ls box losses l

-- the same loss, with a dump that was done: the image's pages, of one size, and then its first word
abbrev pub pages_done : List ℕ → Lists → StepLent → ℕ → Loss → Loss
pages_done settings ls box page l =
    let pages = whole_pages page (size_of settings) in
    record {
      bars = l.bars;
      buffer = l.buffer;
      area = l.area;
      before = pages;
      last = first_word;
      found = all_programmed (image_in settings ls box l) (in_order pages first_word) l.area;
      state = l.state;
      rows = l.rows;
      equity = l.equity;
      trades = l.trades;
    }

pub record Capacitor (table settings : List ℕ) (ls : Lists) (box : StepLent) (losses : List Loss) (bars : List (List ℕ)) : Type 0 where
  -- AS IF THE SUPPLY HAD NEVER FAILED: the account, and the points and trades, those held at each loss and then those held now
  pub account : let w = now settings ls box losses bars in
      account_of (state_of w.lent.state) ≡ (unbroken table settings losses bars w.done).account
  pub points : let w = now settings ls box losses bars in
      points_before settings ls box losses ++ points_in w.lent ≡ flat_map words_of_point (unbroken table settings losses bars w.done).points
  pub trades : let w = now settings ls box losses bars in
      trades_before settings ls box losses ++ trades_in w.lent ≡ flat_map words_of_trade (unbroken table settings losses bars w.done).trades
  -- and so the answer: a box with unbroken supply that takes all bars, over buffers with places for D rows and for a point and a trade a bar, is answered
  -- the same at the same bar
  pub answer : (room : List ℕ) (m : Rooms) → state_words ≤ length room → (settings_of settings).depth ≤ row_places (settings_of settings).slots m.rows
      → length (bars_before losses ++ bars) ≤ point_places m.equity → length (bars_before losses ++ bars) ≤ trade_places m.trades
      → let u = calls_over settings ls (record { state = (fresh_call settings room).lent; rooms = m }) (bars_before losses ++ bars) in
      let w = now settings ls box losses bars in
      (u.answer ≡ w.answer) × (u.done ≡ length (bars_before losses) + w.done)
  -- READY: `ysh_dump` answers 0 for any buffer of the size or more
  pub ready : (buffer : List ℕ) (from upto : ℕ) → size_of settings ≤ length buffer
      → let w = now settings ls box losses bars in
      (dump_call settings w.lent.state w.lent.rooms.rows buffer from upto).answer ≡ 0
  -- LOST HERE, with any plan, cut anywhere: the restore, over buffers that have their places, answers 0 or is refused with 19 or 20
  pub lost : (l : Loss) → l.bars ≡ bars → Driven settings ls (last_box settings box losses) l → state_words ≤ length l.state
      → (settings_of settings).depth ≤ row_places (settings_of settings).slots l.rows → AfterLoss settings ls box losses l
  -- ENERGY ENOUGH: a dump by pages that is done over an unmarked area is one more loss of the list. So the premises can be met, as often as need be.
  pub done : (l : Loss) (page : ℕ) → l.bars ≡ bars → (now settings ls box losses bars).answer ≡ 0 → 8 ≤ page → size_of settings ≤ length l.buffer
      → size_of settings ≤ length l.area → Unmarked l.area → state_words ≤ length l.state
      → (settings_of settings).depth ≤ row_places (settings_of settings).slots l.rows
      → Restored settings ls box (losses ++ (pages_done settings ls (last_box settings box losses) page l ∷ []))

-- EVERY LIFE of a box that is begun, with the lists of an accepted table and a D as `ysh_depth` answers, or more; any losses, each driven by the rules
-- and restored with an answer of 0; and any bars since: all of 64-bit words, at most 4,294,967,295 of them, and the last not refused with 14 (a full room).
abbrev pub InEveryLife : (List ℕ → List ℕ → Lists → StepLent → List Loss → List (List ℕ) → Type 0) → Type 0
InEveryLife claim =
    (table settings : List ℕ) (ls : Lists) (box : StepLent) → Begun table settings ls box
    → (losses : List Loss) → Restored settings ls box losses
    → (bars : List (List ℕ)) → Bars64 (bars_before losses ++ bars) → length (bars_before losses ++ bars) ≤ most_count
    → ((now settings ls box losses bars).answer / 2 ^ 32 ≡ 14 → ⊥)
    → claim table settings ls box losses bars

-- THE STATEMENT
abbrev pub CapacitorTheorem : Type 0
CapacitorTheorem = InEveryLife Capacitor
