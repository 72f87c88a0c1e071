-- Two boxes with the same account, the same last D rows and room for D rows are judged by the same lines, but for those of a full book.
use Rattle.std.specs.Prelude.{ℕ, ◌≤◌, ◌<◌, ◌≡◌, refl, Bool, true, false, cond, ◌&&◌, List, [], ◌∷◌, ◌++◌, ltb, leb, eqb, length, Err, Ok}
use Rattle.words.specs.Prelude.{sym, ◌∙◌, arith, leb-true, le-leb}
use Rattle.words.specs.{Limits.bar_words, Limits.most_count, declared.refusal.Refusal.Refusal}
use Rattle.records.specs.{declared.settings.Settings.Settings, declared.state.Counts.Counts, declared.state.State.State, Lent.Lists, Lent.Rooms}
use Rattle.records.specs.{Lent.point_places, Lent.trade_places}
use Rattle.refusals.specs.{Judgement.run_lines, Judgement.step_lines, Judgement.step_judged, Judgement.finish_lines, Judgement.finish_judged, Laws.Lines.never}
use Rattle.refusals.specs.{Laws.Lines.below_fine, Laws.Lines.below_bad, Lines.Line, Lines.line, Lines.judged, Bar.bar_lines, Lists.list_lines, Settings.lookback}
use Rattle.refusals.specs.{Rooms.entry_below, Rooms.room_lines, Rooms.state_lines, Rooms.place_lines, Rooms.to_close, Rooms.close_lines}
use Rattle.engine.specs.{Boxes.WithinRooms, Boxes.Sound, Boxes.SameCounts, Boxes.Alike, Boxes.NotFull, Laws.Verdict.handed_bad}
use Rattle.engine.specs.{Laws.Verdict.verdicts_alike, Step.size_lines, Step.step_verdict, Whole.account_of, Whole.rows_held}
use Rattle.runs.specs.{Laws.AccountStep.same_parts, Laws.AccountStep.fill_alike}
use Rattle.refusals.specs.{Lines.Verdict}
use Rattle.words.specs.{Outcome.number_of}

-- ---- the lines of a box with room for D rows: none looks at its rows

-- a test that holds where the one before it does
passing : (a b : Bool) → (a ≡ true → b ≡ true) → (a && b) ≡ a
passing true b h = h refl
passing false b h = refl

-- a count that is no more than the bars seen exceeds 4,294,967,295 only where those do
count_below : (seen c : ℕ) → c ≤ seen → (leb seen most_count && leb c most_count) ≡ leb seen most_count
count_below seen c h = passing _ _ (λ e. le-leb c most_count (omega (arith, leb-true seen most_count e)))

module _ (s : Settings) (t : State) (m : Rooms) where
  -- what is asked of the books
  abbrev books_fine : Bool
  books_fine = leb t.counts.bars_seen most_count && leb t.counts.equity_points most_count && leb t.counts.trades most_count

  abbrev books_held : Bool
  books_held = leb t.counts.equity_points (point_places m.equity) && leb t.counts.trades (trade_places m.trades)

  room_lines_lem : Sound s t m → room_lines s m.rows ≡ line true (Refusal.Room 0) ∷ []
  unfolding room_lines
  room_lines_lem r = rw (le-leb _ _ r.depth)

  state_lines_lem : Sound s t m
      → state_lines s t m ≡ line books_fine Refusal.Records ∷ line books_held Refusal.Records ∷ line (entry_below t.position.entered t.counts.bars_seen) Refusal.Records ∷ []
  unfolding state_lines
  state_lines_lem r = rw (count_below t.counts.bars_seen t.counts.rows_held r.within.rows_seen, le-leb _ _ r.within.rows)

-- ---- the same books, as far as their counts and places go

module _ (s : Settings) (t t' : State) (m m' : Rooms) (r : Sound s t m) (r' : Sound s t' m') (same : account_of t ≡ account_of t')
    (c : SameCounts t m t' m') where
  same_handed : (bar : List ℕ) (ls : Lists) → step_judged s t bar m ls ≡ step_judged s t' bar m' ls
  unfolding step_judged step_lines run_lines place_lines
  same_handed bar ls =
      let p = same_parts t t' same in
      rw (room_lines_lem s t m r, room_lines_lem s t' m' r', state_lines_lem s t m r, state_lines_lem s t' m' r')
      (rw (p.seen, p.position, c.points, c.trades, c.equity, c.closed))

  -- THE SAME VERDICT, number and place, at the end
  pub same_finish_verdict : finish_judged s t m ≡ finish_judged s t' m'
  unfolding finish_judged finish_lines close_lines to_close
  same_finish_verdict =
      let p = same_parts t t' same in
      rw (room_lines_lem s t m r, room_lines_lem s t' m' r', state_lines_lem s t m r, state_lines_lem s t' m' r')
      (rw (p.seen, p.position, c.points, c.trades, c.equity, c.closed))

-- what is filled is the same, where the lookback is below D
same_sizes : (s : Settings) (t t' : State) (m m' : Rooms) → Alike s t m t' m' → (bar : List ℕ) → lookback s.terms.sizing < s.depth
    → size_lines s t bar m ≡ size_lines s t' bar m'
unfolding size_lines
same_sizes s t t' m m' a bar deep =
    let p = same_parts t t' a.account in
    rw (fill_alike s (account_of t) (rows_held s t m) bar (rows_held s t' m') deep a.window) (rw (p.seen, p.order, p.position))

-- THE SAME VERDICT, number and place, on a bar: also of 16, which reads the rows
pub same_verdict : (s : Settings) (t t' : State) (m m' : Rooms) → Sound s t m → Sound s t' m' → Alike s t m t' m' → SameCounts t m t' m'
    → (bar : List ℕ) (ls : Lists) → step_verdict s t bar m ls ≡ step_verdict s t' bar m' ls
same_verdict s t t' m m' r r' a c bar ls =
    verdicts_alike s t t' bar m m' ls (same_handed s t t' m m' r r' a.account c bar ls) (λ f. same_sizes s t t' m m' a bar f.settings.behind)

-- ---- other books: the same verdict, unless one is full

by_14 : (ok : Bool) (v : Verdict) (why : Refusal) → (v ≡ Err why → number_of why ≡ 14) → cond ok v (Err Refusal.Full) ≡ Err why → number_of why ≡ 14
by_14 true v why below e = below e
by_14 false v why below e = cc

-- the lines of places are refused with 14 alone
places_14 : (n : Counts) (equity trades : List ℕ) (why : Refusal) → judged (place_lines n equity trades) ≡ Err why → number_of why ≡ 14
unfolding judged place_lines
places_14 n equity trades why =
    by_14 (ltb n.equity_points (point_places equity)) _ why
    (by_14 (ltb n.trades (trade_places trades)) _ why
    (by_14 (ltb n.bars_seen most_count) _ why (λ e. never (sym e))))

-- where they do not refuse, what stands below them decides
places_passed : (n : Counts) (equity trades : List ℕ) (below : List Line) → NotFull (judged (place_lines n equity trades ++ below))
    → judged (place_lines n equity trades ++ below) ≡ judged below
places_passed n equity trades below free = go (judged (place_lines n equity trades)) refl
  where
    go : (v : Verdict) → judged (place_lines n equity trades) ≡ v → judged (place_lines n equity trades ++ below) ≡ judged below
    go (Ok _) e = below_fine (place_lines n equity trades) below e
    go (Err why) e = absurd (unfold NotFull in free why (below_bad (place_lines n equity trades) below why e) (places_14 n equity trades why e))

-- lines above say the same of both
above : (a b b' : List Line) → (NotFull (judged b) → NotFull (judged b') → judged b ≡ judged b')
    → NotFull (judged (a ++ b)) → NotFull (judged (a ++ b')) → judged (a ++ b) ≡ judged (a ++ b')
unfolding judged
above [] b b' h f f' = h f f'
above (l ∷ a) b b' h f f' = by_line l.ok (judged (a ++ b)) (judged (a ++ b')) (above a b b' h) f f'
  where
    by_line : (ok : Bool) (v v' : Verdict) → (NotFull v → NotFull v' → v ≡ v')
        → NotFull (cond ok v (Err l.why)) → NotFull (cond ok v' (Err l.why))
        → cond ok v (Err l.why) ≡ cond ok v' (Err l.why)
    by_line true v v' same f f' = same f f'
    by_line false v v' same f f' = refl

-- books that are within their rooms and the bars seen are fine where those are
books_within : (s : Settings) (t : State) (m : Rooms) → WithinRooms s t m
    → (books_fine s t m ≡ leb t.counts.bars_seen most_count) × (books_held s t m ≡ true)
books_within s t m w = (
  rw (count_below _ t.counts.equity_points w.points_seen, count_below _ t.counts.trades w.trades_seen),
  rw (le-leb _ _ w.points, le-leb _ _ w.trades),
)

handed_unless_full : (s : Settings) (t t' : State) (m m' : Rooms) → Sound s t m → Sound s t' m' → account_of t ≡ account_of t'
    → (bar : List ℕ) (ls : Lists) → NotFull (step_judged s t bar m ls) → NotFull (step_judged s t' bar m' ls)
    → step_judged s t bar m ls ≡ step_judged s t' bar m' ls
unfolding step_judged step_lines run_lines
handed_unless_full s t t' m m' r r' same bar ls f f' =
    let start : List Line = run_lines s t' m' in
    let whole : Line = line (eqb (length bar) (bar_words s.slots)) Refusal.Records in
    let rest : List Line = bar_lines s.slots bar t'.counts.bars_seen ++ list_lines s.slots s.depth ls in
    let p : List Line = place_lines t.counts m.equity m.trades in
    let p' : List Line = place_lines t'.counts m'.equity m'.trades in
    let parts = same_parts t t' same in
    let b = books_within s t m r.within in
    let b' = books_within s t' m' r'.within in
    let e : step_lines s t bar m ls ≡ start ++ (whole ∷ (p ++ rest)) =
    rw (room_lines_lem s t m r, room_lines_lem s t' m' r', state_lines_lem s t m r, state_lines_lem s t' m' r', b.0, b.1, b'.0, b'.1)
    (rw (parts.seen, parts.position)) in
    rw e (above start (whole ∷ (p ++ rest)) (whole ∷ (p' ++ rest))
    (above (whole ∷ []) (p ++ rest) (p' ++ rest)
    (λ g g'. places_passed t.counts m.equity m.trades rest g ∙ sym (places_passed t'.counts m'.equity m'.trades rest g')))
    (rw e at f) f')

-- THE SAME VERDICT on a bar, whatever the books, unless one is refused with 14
pub same_unless_full : (s : Settings) (t t' : State) (m m' : Rooms) → Sound s t m → Sound s t' m' → Alike s t m t' m'
    → (bar : List ℕ) (ls : Lists) → NotFull (step_verdict s t bar m ls) → NotFull (step_verdict s t' bar m' ls)
    → step_verdict s t bar m ls ≡ step_verdict s t' bar m' ls
unfolding NotFull
same_unless_full s t t' m m' r r' a bar ls f f' =
    verdicts_alike s t t' bar m m' ls
    (handed_unless_full s t t' m m' r r' a.account bar ls
    (λ why e. f why (handed_bad s t bar m ls why e)) (λ why e. f' why (handed_bad s t' bar m' ls why e)))
    (λ fine. same_sizes s t t' m m' a bar fine.settings.behind)
