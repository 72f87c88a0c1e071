-- THE CAPACITOR THEOREM, proved: the box after its losses is the engine's, of which restart says that it is as if its supply had never failed; and what a
-- plan leaves, cut anywhere, is refused or is the whole image.
use Rattle.std.specs.Prelude.{ℕ, ◌+◌, ◌≤◌, ◌≡◌, List, [], ◌∷◌, ◌++◌, length, take, Ok}
use Rattle.words.specs.Prelude.{sym, ap, subst, ◌∙◌, arith}
use Rattle.words.specs.{Limits.state_words, Limits.most_count}
use Rattle.records.specs.{Lent.Lists, Lent.Rooms, Lent.row_places, Lent.point_places, Lent.trade_places, Settings.settings_of, State.fresh_state}
use Rattle.records.specs.{Laws.RoundTrip.Floats64, Laws.RoundTrip.state_kept, Laws.RoundTrip.fresh_floats}
use Rattle.refusals.specs.{Lines.judged, Settings.setting_lines}
use Rattle.engine.specs.{Run.Run, Run.run_over}
use Rattle.runs.specs.{NeverFull.PlacesFor, Laws.Floats.run_floats}
use Rattle.images.specs.{Layout.dump_bytes, Layout.image_of}
use Rattle.restart.specs.{AsIfNever.Restorable, FirstWord.Unmarked, Laws.Programs.done_is_cut, Laws.Programs.plan_done, PagePlan.first_word, PagePlan.whole_pages}
use Rattle.restart.specs.{PagePlan.whole_pages_plan, Plans.in_order, Plans.Plan}
use Rattle.stepping.specs.{Bars.StepLent, WordRun.WordRun, WordRun.calls_over, WordRun.answer_of}
use Rattle.capi.specs.{Fresh.fresh_call, Joined.calls_run, Power.dump_call}
use Rattle.capacitor.specs.{Capacitor.now, Capacitor.pages_done, Capacitor.Capacitor, Capacitor.CapacitorTheorem, Loss.Loss, Loss.size_of, Loss.dump_of}
use Rattle.capacitor.specs.{Loss.image_in, Loss.Driven, Loss.Restored, Loss.last_box, Loss.bars_before, Laws.EngineNow.EngineNow, Laws.EngineNow.engine_now}
use Rattle.capacitor.specs.{Laws.FromCalls.fresh_lent, Laws.LivesInWords.image_is, Laws.OneLoss.restored_more, Laws.OneLoss.whole_answers}
use Rattle.capacitor.specs.{Laws.OneLoss.loss_answers, Laws.PowerCalls.dump_answers}

header_long : (settings : List ℕ) → 8 ≤ size_of settings
unfolding dump_bytes
header_long settings = omega arith

module _ (table settings : List ℕ) (ls : Lists) (box : StepLent) (losses : List Loss) (bars : List (List ℕ))
    (n : EngineNow table settings ls box losses bars) (all : Restored settings ls box losses) (twelve : judged (setting_lines (settings_of settings)) ≡ Ok tt)
    (few : length (bars_before losses ++ bars) ≤ most_count) where
  abbrev run : List (List ℕ) → Run
  run bs = run_over (settings_of settings) ls n.state n.rooms bs

  abbrev e : Run
  e = run bars

  floats_now : Floats64 e.state
  floats_now = run_floats (settings_of settings) ls bars n.state n.rooms n.floats

  -- a box with unbroken supply gets the same answer
  answer_same : (other : List ℕ) (m : Rooms) → state_words ≤ length other → (settings_of settings).depth ≤ row_places (settings_of settings).slots m.rows
      → length (bars_before losses ++ bars) ≤ point_places m.equity → length (bars_before losses ++ bars) ≤ trade_places m.trades
      → let u = calls_over settings ls (record { state = (fresh_call settings other).lent; rooms = m }) (bars_before losses ++ bars) in
      (u.answer ≡ (now settings ls box losses bars).answer) × (u.done ≡ length (bars_before losses) + (now settings ls box losses bars).done)
  unfolding fresh_state
  answer_same other m long deep points trades =
      let s = settings_of settings in
      let places : PlacesFor (length (bars_before losses ++ bars)) (fresh_state s) m = record {
        points = omega (arith, points);
        trades = omega (arith, trades);
        bars = omega (arith, few);
      } in
      let since = n.since m deep places in
      rw (
        n.is,
        fresh_lent settings other n.set long,
        calls_run settings other n.set long ls (bars_before losses ++ bars) (fresh_state s) m (fresh_floats settings),
      )
      (ap answer_of since.verdict, since.done)

  -- a dump is not refused
  dump_zero : (buffer : List ℕ) (from upto : ℕ) → size_of settings ≤ length buffer
      → let w = now settings ls box losses bars in
      (dump_call settings w.lent.state w.lent.rooms.rows buffer from upto).answer ≡ 0
  dump_zero buffer from upto large =
      rw n.is
      (dump_answers settings n.room n.set n.long e.state floats_now e.rooms.rows buffer from upto (n.ready.dumped buffer large))

  -- ---- a loss here

  ready_at : (l : Loss) → l.bars ≡ bars → Restorable (settings_of settings) (run l.bars)
  ready_at l same = subst (λ (bs : List (List ℕ)). Restorable (settings_of settings) (run bs)) (sym same) n.ready

  done_now : (l : Loss) (page : ℕ) → l.bars ≡ bars → (now settings ls box losses bars).answer ≡ 0 → 8 ≤ page → size_of settings ≤ length l.buffer
      → size_of settings ≤ length l.area → Unmarked l.area → state_words ≤ length l.state
      → (settings_of settings).depth ≤ row_places (settings_of settings).slots l.rows
      → Restored settings ls box (losses ++ (pages_done settings ls (last_box settings box losses) page l ∷ []))
  done_now l page same zero wide buffer area unmarked state place =
      let here = last_box settings box losses in
      let k = pages_done settings ls here page l in
      let pages = whole_pages page (size_of settings) in
      let image = image_in settings ls here l in
      let before : calls_over settings ls here l.bars ≡ now settings ls box losses bars = rw same in
      let dumped : (dump_of settings ls here l).answer ≡ 0 =
      subst (λ (c : WordRun). (dump_call settings c.lent.state c.lent.rooms.rows l.buffer 0 (size_of settings)).answer ≡ 0) (sym before)
      (dump_zero l.buffer 0 (size_of settings) buffer) in
      let i : (image ≡ image_of (settings_of settings) (run l.bars).state (run l.bars).rooms.rows)
      × (length (image_of (settings_of settings) (run l.bars).state (run l.bars).rooms.rows) ≡ size_of settings) =
      rw n.last (image_is settings n.room ls n.set n.long n.state n.floats n.rooms l (rw n.last at dumped)) in
      let size : length image ≡ size_of settings = rw i.0 i.1 in
      let plan : Plan image l.area pages first_word =
      subst (λ (k : ℕ). Plan image l.area (whole_pages page k) first_word) size
      (whole_pages_plan image l.area page wide (omega (arith, size, header_long settings))) in
      let d : Driven settings ls here k = record {
        taken = ap (λ (c : WordRun). c.answer) before ∙ zero;
        dumped = dumped;
        fits = area;
        unmarked = unmarked;
        plan = plan;
        cut = done_is_cut image (in_order pages first_word) l.area;
      } in
      let found : take (size_of settings) k.found ≡ image_of (settings_of settings) (run l.bars).state (run l.bars).rooms.rows =
      subst (λ (j : ℕ). take j k.found ≡ image) size (plan_done image first_word pages l.area (omega (arith, size)) plan.rest) ∙ i.0 in
      restored_more settings ls losses box k all d
      (whole_answers settings n.room ls n.set n.long n.state n.floats n.rooms twelve k (ready_at l same) state place found)

  all_said : Capacitor table settings ls box losses bars
  all_said = record {
    account = rw (n.is, state_kept e.state floats_now n.room n.long) n.never.account;
    points = rw (n.is, state_kept e.state floats_now n.room n.long) n.never.equity;
    trades = rw (n.is, state_kept e.state floats_now n.room n.long) n.never.closed;
    answer = answer_same;
    ready = dump_zero;
    lost = λ l same d state place.
        loss_answers settings n.room ls n.set n.long n.state n.floats n.rooms twelve l (ready_at l same) state place box losses all
        n.last d;
    done = done_now;
  }

-- THE CAPACITOR THEOREM
pub capacitor : CapacitorTheorem
capacitor table settings ls box begun losses all bars words few free =
    all_said table settings ls box losses bars (engine_now table settings ls box begun losses all bars words few free) all begun.twelve few
