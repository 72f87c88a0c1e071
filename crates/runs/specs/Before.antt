-- Request 6: "The pnl keeps its meaning." The funding paid and the least favourable price decide nothing: every run has the account, the points, the
-- first eight words of each trade and the figures of the engine before.
use Rattle.std.specs.Prelude.{ℕ, suc, ◌/◌, ◌≡◌, refl, List, [], ◌∷◌, ◌++◌, Float, length, take, None, Ok, Option, Some}
use Rattle.words.specs.Prelude.{flat_map}
use Rattle.words.specs.Prelude.{sym, ap, ◌∙◌, arith}
use Rattle.floats.specs.{Floats.word_of, Floats.float_of}
use Rattle.rows.specs.{History.history_of}
use Rattle.portfolio.specs.{declared.Trade.Trade, Portfolio.in_position, Portfolio.equity, Trade.words_of_trade}
use Rattle.metrics.specs.{Records.column, Records.pnls_of}
use Rattle.records.specs.{declared.settings.Settings.Settings, declared.state.Position.Position, Bar.candle_of, Lent.Lists, Lent.Rooms, State.fresh_state}
use Rattle.refusals.specs.{Judgement.finish_judged, Rooms.to_close}
use Rattle.engine.specs.{Account.leaving, Account.filled, Account.intrabar, Account.charged, Books.Point, Books.words_of_point, Books.trades_of, Books.held_points}
use Rattle.engine.specs.{Books.held_trades, Decide.state_at, Decide.order_after, Finish.last_exit, Finish.ended, Record.row_of, Run.Run, Run.run_over, Whole.Account}
use Rattle.engine.specs.{Whole.account_of, Whole.state_of_account, Whole.Asked, Whole.by_lists, Whole.Taken, Whole.taken_by, Whole.taken, Whole.Ledger}
use Rattle.engine.specs.{Whole.whole_run_by, Whole.whole_run, Whole.end_points, Whole.whole_end, Whole.whole_metrics}
use Rattle.runs.specs.{AsMeant.by_lists_lem, AsMeant.ends_whole, Forgotten.forget, Forgotten.forget_trade, Forgotten.forget_exit, Forgotten.forget_position}
use Rattle.runs.specs.{Forgotten.forget_account, Forgotten.forget_trades, Forgotten.taken_before, Forgotten.run_before, Forgotten.end_before}
use Rattle.runs.specs.{Laws.Forgets.fill_forgets, Laws.Forgets.inside_same, Laws.Forgets.charge_forgets, Laws.Forgets.point_forgets}
use Rattle.runs.specs.{Laws.Forgets.asked_forgets, Laws.Forgets.order_forgets, Laws.Forgets.exit_test, Laws.Forgets.closed_forgets}
use Rattle.runs.specs.{Laws.Forgets.leaving_forgets, Laws.Forgets.trades_append, Laws.Forgets.trade_forgets}
use Rattle.words.specs.Limits as Limits
use Rattle.portfolio.specs.{declared.Closed.Closed}

-- ---- a bar

-- what two bars come to is the same but for the two words
record SameTaken (b c : Taken) : Type 0 where
  account : forget_account b.account ≡ forget_account c.account
  point : b.point ≡ c.point
  trades : forget_trades b.trades ≡ forget_trades c.trades

module _ (s : Settings) (asked : Asked) (a : Account) (rows bar : List ℕ) where
  -- A BAR does without the two words what it does with them.
  taken_forgets : SameTaken (taken s asked a rows bar) (taken s asked (forget_account a) rows bar)
  unfolding taken_by forget_account
  taken_forgets =
      let k = candle_of bar in
      let h = history_of s.slots rows in
      let n = a.seen in
      let f = filled s a.order a.position k h n in
      let g = filled s a.order (forget_position a.position) k h n in
      let fill = fill_forgets s a.order a.position k h n in
      let x = intrabar s f.position k in
      let y = intrabar s g.position k in
      let mid = inside_same s f.position k in
      let mid' = inside_same s g.position k in
      let position : forget_position x.position ≡ forget_position y.position = mid.0 ∙ rw fill.position (sym mid'.0) in
      let exits : forget_exit x.«exit» ≡ forget_exit y.«exit» = mid.1 ∙ rw fill.position (sym mid'.1) in
      let p = charged s x.position bar in
      let q = charged s y.position bar in
      let after : forget_position p ≡ forget_position q =
      charge_forgets s x.position bar ∙ rw position (sym (charge_forgets s y.position bar)) in
      let rules = asked (rows ++ row_of s.slots bar) in
      let order : order_after s f.order p n k.close (rules (state_at p n)) ≡ order_after s g.order q n k.close (rules (state_at q n)) =
      order_forgets s f.order p n _ _
      ∙ rw (asked_forgets p n, fill.order, after) (sym (order_forgets s g.order q n _ _ ∙ rw (asked_forgets q n))) in
      record {
        account = rw (order, after);
        point = point_forgets k p ∙ rw after (sym (point_forgets k q));
        trades =
            trades_append (trades_of f.«exit») (trades_of x.«exit»)
            ∙ rw (trade_forgets f.«exit», trade_forgets x.«exit», fill.«exit», exits)
            (sym (trades_append (trades_of g.«exit») (trades_of y.«exit») ∙ rw (trade_forgets g.«exit», trade_forgets y.«exit»)));
      }

-- ---- bars

-- the engine before looks at neither word
before_only : (s : Settings) (asked : Asked) (a a' : Account) (rows : List ℕ) (bars : List (List ℕ)) → forget_account a ≡ forget_account a'
    → run_before s asked a rows bars ≡ run_before s asked a' rows bars
unfolding run_before taken_before
before_only s asked a a' rows [] e = rw e
before_only s asked a a' rows (bar ∷ bars) e = rw e

forgotten_twice : (a : Account) → forget_account (forget_account a) ≡ forget_account a
unfolding forget_account forget_position forget
forgotten_twice a = refl

-- A run w is the run v of the engine before: the account but for the two words, the points, and of each trade all but them.
pub record LikeBefore (w v : Ledger) : Type 0 where
  pub account : forget_account w.account ≡ v.account
  pub points : w.points ≡ v.points
  pub trades : forget_trades w.trades ≡ v.trades

-- EVERY RUN, however the rules are asked
pub run_like_before : (s : Settings) (asked : Asked) (a : Account) (rows : List ℕ) (bars : List (List ℕ))
    → LikeBefore (whole_run s asked a rows bars) (run_before s asked a rows bars)
unfolding whole_run_by run_before taken_before forget_trades
run_like_before s asked a rows [] = record { account = refl; points = refl; trades = refl }
run_like_before s asked a rows (bar ∷ bars) =
    let b = taken s asked a rows bar in
    let c = taken s asked (forget_account a) rows bar in
    let next = rows ++ row_of s.slots bar in
    let same = taken_forgets s asked a rows bar in
    let later = run_like_before s asked b.account next bars in
    let on : run_before s asked b.account next bars ≡ run_before s asked (forget_account c.account) next bars =
    before_only s asked b.account (forget_account c.account) next bars (same.account ∙ sym (forgotten_twice c.account)) in
    record {
      account = later.account ∙ rw on;
      points = rw (same.point, later.points, on);
      trades = trades_append b.trades _ ∙ rw (same.trades, later.trades, on);
    }

-- ---- the end and the figures

-- the pnl of a trade is one of its first eight words
pnls_more : (t : Trade) (rest : List ℕ) → pnls_of (words_of_trade t ++ rest) ≡ float_of (word_of t.pnl) ∷ pnls_of rest
unfolding pnls_of column words_of_trade
pnls_more t rest =
    let more : length (words_of_trade t ++ rest) / Limits.trade_words ≡ suc (length rest / Limits.trade_words) = omega arith in
    rw more

pnls_forget : (ts : List Trade) → pnls_of (flat_map words_of_trade ts) ≡ pnls_of (flat_map words_of_trade (forget_trades ts))
unfolding flat_map forget_trades
pnls_forget [] = refl
pnls_forget (t ∷ ts) = pnls_more t _ ∙ rw (pnls_forget ts) (sym (pnls_more (forget_trade t) _ ∙ (unfold forget_trade in refl)))

-- the same figures
figures_like : (s : Settings) (w v : Ledger) → LikeBefore w v → whole_metrics s w ≡ whole_metrics s v
unfolding whole_metrics
figures_like s w v h = rw (h.points, pnls_forget w.trades, h.trades)

last_forgets : (s : Settings) (a : Account) → forget_exit (last_exit s (state_of_account a)) ≡ forget_exit (last_exit s (state_of_account (forget_account a)))
unfolding last_exit to_close in_position forget_account forget_position forget
last_forgets s a = exit_test (to_close (state_of_account a)) _ _ (closed_forgets a.position.portfolio _ _ _ _)

end_forgets : (ps : List Point) (x : Option Closed) (close : Float) → end_points ps x close ≡ end_points ps (forget_exit x) close
unfolding end_points forget_exit equity forget
end_forgets ps None close = refl
end_forgets ps (Some c) close = refl

trades_twice : (ts : List Trade) → forget_trades (forget_trades ts) ≡ forget_trades ts
unfolding forget_trades forget_trade
trades_twice [] = refl
trades_twice (t ∷ ts) = rw (trades_twice ts)

account_parts : (a b : Account) → forget_account a ≡ b
    → (a.seen ≡ b.seen) × (a.order ≡ b.order) × (forget_position a.position ≡ b.position) × (a.last ≡ b.last)
unfolding forget_account
account_parts a b e = (
  ap (λ (c : Account). c.seen) e,
  ap (λ (c : Account). c.order) e,
  ap (λ (c : Account). c.position) e,
  ap (λ (c : Account). c.last) e,
)

account_of_lem : (a b : Account) → a.seen ≡ b.seen → a.order ≡ b.order → forget_position a.position ≡ forget_position b.position → a.last ≡ b.last
    → forget_account a ≡ forget_account b
unfolding forget_account
account_of_lem a b seen order position last = rw (seen, order, position, last)

position_twice : (p : Position) → forget_position (forget_position p) ≡ forget_position p
unfolding forget_position forget
position_twice p = refl

-- THE END TOO
end_like_before : (s : Settings) (w v : Ledger) → LikeBefore w v → LikeBefore (whole_end s w) (end_before s v)
unfolding whole_end end_before
end_like_before s w v h =
    let x = last_exit s (state_of_account w.account) in
    let y = last_exit s (state_of_account v.account) in
    let exits : forget_exit x ≡ forget_exit y = last_forgets s w.account ∙ rw h.account in
    let parts = account_parts w.account v.account h.account in
    let kept : forget_position w.account.position ≡ v.account.position = parts.2 in
    let twice : forget_position v.account.position ≡ forget_position w.account.position = rw (← kept) (position_twice w.account.position) in
    let position : forget_position (leaving w.account.position x) ≡ forget_position (leaving v.account.position y) =
    leaving_forgets w.account.position x ∙ rw exits (sym (leaving_forgets v.account.position y ∙ rw twice)) in
    record {
      account = account_of_lem _ _ parts.0 parts.1 position parts.3;
      points =
          end_forgets w.points x w.account.last.close
          ∙ rw (exits, h.points, parts.3) (sym (end_forgets v.points y v.account.last.close));
      trades =
          trades_append w.trades (trades_of x)
          ∙ rw (trade_forgets x, exits)
          (sym (trades_append v.trades (trades_of y) ∙ rw (trade_forgets y, ← h.trades, trades_twice w.trades)));
    }

-- "the first eight words of each trade"
abbrev pub eight_words : Trade → List ℕ
eight_words t = take 8 (words_of_trade t)

eight-forget : (ts : List Trade) → flat_map eight_words ts ≡ flat_map eight_words (forget_trades ts)
unfolding flat_map forget_trades words_of_trade forget_trade
eight-forget [] = refl
eight-forget (t ∷ ts) = rw (eight-forget ts)

-- A box r that has the account of v but for the two words, its points, the first eight words of its trades, and gives its figures.
pub record AsBefore (s : Settings) (r : Run) (v : Ledger) : Type 0 where
  pub account : forget_account (account_of r.state) ≡ v.account
  pub equity : held_points r.state r.rooms ≡ flat_map words_of_point v.points
  pub trades : List Trade
  pub closed : held_trades r.state r.rooms ≡ flat_map words_of_trade trades
  pub eight : flat_map eight_words trades ≡ flat_map eight_words v.trades
  pub figures : finish_judged s r.state r.rooms ≡ Ok tt → (ended s r.state r.rooms).result.metrics ≡ whole_metrics s (end_before s v)

-- AS BEFORE: for every run from a fresh state, over the bars that it took
pub as_before : (s : Settings) (ls : Lists) (m : Rooms) (bars : List (List ℕ))
    → let r = run_over s ls (fresh_state s) m bars in
    AsBefore s r (run_before s (by_lists s ls) (account_of (fresh_state s)) [] (take r.done bars))
as_before s ls m bars =
    let r : Run = run_over s ls (fresh_state s) m bars in
    let a = account_of (fresh_state s) in
    let w : Ledger = whole_run s (by_lists s ls) a [] (take r.done bars) in
    let v : Ledger = run_before s (by_lists s ls) a [] (take r.done bars) in
    let holds = by_lists_lem s ls m bars in
    let like : LikeBefore w v = run_like_before s (by_lists s ls) a [] (take r.done bars) in
    record {
      account = rw holds.account like.account;
      equity = holds.equity ∙ rw like.points;
      trades = w.trades;
      closed = holds.closed;
      eight = eight-forget w.trades ∙ rw like.trades;
      figures = λ fine. (ends_whole s r.state r.rooms w holds fine).1 ∙ figures_like s _ _ (end_like_before s w v like);
    }
