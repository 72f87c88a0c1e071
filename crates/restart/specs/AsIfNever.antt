-- AS IF THE SUPPLY HAD NEVER FAILED: what the lives of a box held, and what the life under way holds, is what the rules of the table mean over every bar
-- that was ever taken. No unbroken box is spoken of.
use Rattle.std.specs.Prelude.{ℕ, ◌*◌, ◌/◌, ◌≤◌, ◌≡◌, true, List, ◌++◌, length, take, replicate, Ok}
use Rattle.words.specs.Prelude.{flat_map}
use Rattle.words.specs.Prelude.{sym, ap, subst, ◌∙◌, mul-div_cancel, arith}
use Rattle.words.specs.Prelude.{length-replicate}
use Rattle.words.specs.{Limits.most_count, Limits.point_words, Limits.trade_words}
use Rattle.portfolio.specs.{Trade.words_of_trade}
use Rattle.records.specs.{declared.settings.Settings.Settings, Lent.Lists, Lent.Rooms, Lent.rooms, Lent.row_places, Lent.point_places, Lent.trade_places}
use Rattle.records.specs.{State.fresh_state, Laws.RoundTrip.Floats64}
use Rattle.refusals.specs.{Lines.judged, Rooms.entry_below, Settings.setting_lines}
use Rattle.engine.specs.{Books.words_of_point, Books.held_points, Books.held_trades, Boxes.NotFull, Boxes.Sound, Boxes.Holds, Rules.FromTable, Run.Run, Run.run_over}
use Rattle.engine.specs.{Whole.Account, Whole.account_of, Whole.Ledger, Whole.meant_run}
use Rattle.runs.specs.{AsMeant.as_meant, NeverFull.PlacesFor, NeverFull.never_full, Laws.TwoRuns.fresh_sound}
use Rattle.images.specs.{Layout.dump_bytes, Layout.image_of, Refused.restore_judged}
use Rattle.dumpable.specs.{Refused.dump_judged}
use Rattle.restart.specs.{Accepted.reached_accepted, Cut.size_of_image, Dumps.dump_passes, Dumps.reached_entry, Laws.Reached64.Bars64}
use Rattle.restart.specs.{Laws.Reached64.reached_storable, Laws.Times.Word64, Lives.Life, Lives.last_state, Lives.last_rooms, Lives.all_bars}
use Rattle.restart.specs.{Lives.all_points, Lives.all_trades, Lives.LivesOf, Lives.SinceLosses, Losses.front_words, Losses.losses_run}
use Rattle.std.proofs.Math.Seq.{take-append-add}

-- ---- definitions

-- The run e of the life that is under way, after lives that held these points and trades, is the whole run w.
pub record AsIfNever (w : Ledger) (e : Run) (points trades : List ℕ) : Type 0 where
  pub account : account_of e.state ≡ w.account
  pub equity : points ++ held_points e.state e.rooms ≡ flat_map words_of_point w.points
  pub closed : trades ++ held_trades e.state e.rooms ≡ flat_map words_of_trade w.trades

-- What a run has come to can be dumped, and its image is accepted.
pub record Restorable (s : Settings) (e : Run) : Type 0 where
  pub dumped : (area : List ℕ) → dump_bytes s.slots s.depth ≤ length area → dump_judged s e.state e.rooms.rows area ≡ Ok tt
  pub accepted : (rows : List ℕ) → s.depth ≤ row_places s.slots rows → restore_judged s (image_of s e.state e.rooms.rows) rows ≡ Ok tt
  pub size : length (image_of s e.state e.rooms.rows) ≡ dump_bytes s.slots s.depth
  pub sound : Sound s e.state e.rooms

-- ---- a box with a place for every bar, to compare with

abbrev large : Rooms → ℕ → Rooms
large m n = rooms m.rows (replicate (n * point_words) 0) (replicate (n * trade_words) 0)

large_places : (s : Settings) (m : Rooms) (n : ℕ) → n ≤ most_count → PlacesFor n (fresh_state s) (large m n)
unfolding fresh_state
large_places s m n few =
    let points : point_places (replicate {A = ℕ} (n * point_words) 0) ≡ n =
    ap (λ (k : ℕ). k / point_words) (length-replicate {A = ℕ} (n * point_words) 0) ∙ mul-div_cancel n {n = point_words} (omega arith) in
    let trades : trade_places (replicate {A = ℕ} (n * trade_words) 0) ≡ n =
    ap (λ (k : ℕ). k / trade_words) (length-replicate {A = ℕ} (n * trade_words) 0) ∙ mul-div_cancel n {n = trade_words} (omega arith) in
    record { points = omega arith; trades = omega arith; bars = omega arith }

-- ---- the statements

-- Settings as 12 lets them pass and the code's types hold them; a fresh box over a row room with places for D rows; any number of lives; and any bars of
-- the life under way, as long as its rooms are not full.
module _ (s : Settings) (ls : Lists) (m : Rooms) (deep : s.depth ≤ row_places s.slots m.rows) (twelve : judged (setting_lines s) ≡ Ok tt)
    (floats : Floats64 (fresh_state s)) (delay : Word64 s.delay) (lives : List Life) (lived : LivesOf s ls (fresh_state s) m lives)
    (bars : List (List ℕ)) (words : Bars64 (all_bars lives ++ bars)) (few : length (all_bars lives ++ bars) ≤ most_count)
    (free : NotFull (run_over s ls (last_state (fresh_state s) lives) (last_rooms m lives) bars).verdict) where
  abbrev all : List (List ℕ)
  all = all_bars lives ++ bars

  abbrev e : Run
  e = run_over s ls (last_state (fresh_state s) lives) (last_rooms m lives) bars

  -- THE SAME AS UNBROKEN: a box that takes all bars with unbroken supply, over any rooms with places for D rows and for every bar in the books, takes as many
  -- and ends with the same verdict and account.
  pub same_as_unbroken : (n : Rooms) → s.depth ≤ row_places s.slots n.rows → PlacesFor (length (all_bars lives ++ bars)) (fresh_state s) n
      → SinceLosses s (run_over s ls (fresh_state s) n (all_bars lives ++ bars)) (run_over s ls (last_state (fresh_state s) lives) (last_rooms m lives) bars)
      (length (all_bars lives)) (all_points s ls (fresh_state s) m lives) (all_trades s ls (fresh_state s) m lives)
  same_as_unbroken n deep' places =
      losses_run s ls n deep' twelve floats delay m deep lives (front_words (all_bars lives) bars words) lived bars
      (never_full s ls all (fresh_state s) n (fresh_sound s n deep') places) free

  abbrev big : Rooms
  big = large m (length all)

  abbrev u : Run
  u = run_over s ls (fresh_state s) big all

  since : SinceLosses s u e (length (all_bars lives)) (all_points s ls (fresh_state s) m lives) (all_trades s ls (fresh_state s) m lives)
  since = same_as_unbroken big deep (large_places s m (length all) few)

  -- READY AT ANY TIME: what the life under way has come to can be dumped, and its whole image is accepted.
  pub always_ready : Restorable s (run_over s ls (last_state (fresh_state s) lives) (last_rooms m lives) bars)
  always_ready =
      let entry = reached_entry s ls big all deep in
      record {
        dumped = λ area place.
            dump_passes s e.state e.rooms area since.sound
            (subst (λ (a : Account). entry_below a.position.entered a.seen ≡ true) since.account entry.0)
            (subst (λ (a : Account). a.seen ≤ most_count) since.account entry.1) twelve place;
        accepted = λ rows place.
            subst (λ (y : List ℕ). restore_judged s y rows ≡ Ok tt) since.image
            (reached_accepted s ls big all deep (reached_storable s ls big all deep twelve floats delay words) twelve rows place);
        size = size_of_image s e.state e.rooms.rows since.sound.within.rows;
        sound = since.sound;
      }

  -- AS IF THE SUPPLY HAD NEVER FAILED: with the lists of a table, what the lives and the life under way hold is what the table's rules, by their meaning,
  -- make of every bar that was ever taken.
  pub as_if_never : (table : List ℕ) → FromTable table s ls
      → let now = run_over s ls (last_state (fresh_state s) lives) (last_rooms m lives) bars in
      AsIfNever (meant_run table s (all_bars lives ++ take now.done bars)) now
      (all_points s ls (fresh_state s) m lives) (all_trades s ls (fresh_state s) m lives)
  as_if_never table from =
      let taken : take u.done all ≡ all_bars lives ++ take e.done bars =
      ap (λ (k : ℕ). take k all) since.done ∙ take-append-add (all_bars lives) bars e.done in
      let h : Holds u.state u.rooms (meant_run table s (all_bars lives ++ take e.done bars)) =
      subst (λ (bs : List (List ℕ)). Holds u.state u.rooms (meant_run table s bs)) taken (as_meant table s ls from big all).holds in
      record {
        account = sym since.account ∙ h.account;
        equity = sym since.equity ∙ h.equity;
        closed = sym since.closed ∙ h.closed;
      }
