-- Every bar that a run took has finite prices: 11 sees to it.
use Rattle.std.specs.Prelude.{ℕ, ◌≡◌, Bool, true, false, ◌&&◌, List, [], ◌∷◌, ◌++◌, take, Ok}
use Rattle.floats.specs.{Floats.finite}
use Rattle.portfolio.specs.{declared.Candle.Candle}
use Rattle.records.specs.{declared.settings.Settings.Settings, declared.state.State.State, Bar.candle_of, Lent.Lists, Lent.Rooms}
use Rattle.refusals.specs.{Bar.candle_fine, Bar.bar_lines, Judgement.run_lines, Judgement.step_lines, Laws.Lines.and_true, Laws.Lines.first_holds}
use Rattle.refusals.specs.{Laws.Lines.both_fine, Rooms.place_lines}
use Rattle.engine.specs.{Laws.Runs.run_none, Run.run_over, Step.stepped, Step.size_lines, Step.step_verdict}
use Rattle.runs.specs.{During.against, During.AllFinite, Laws.FirstBar.by_first_bar}

-- "a price, volume .. not finite" is said of none of these bars
unfoldable pub AllFine : List (List ℕ) → Type 0
AllFine [] = Unit {0}
AllFine (bar ∷ bars) = (candle_fine (candle_of bar) ≡ true) × AllFine bars

-- a bar that is taken
pub taken_fine : (s : Settings) (t : State) (bar : List ℕ) (m : Rooms) (ls : Lists) → step_verdict s t bar m ls ≡ Ok tt → candle_fine (candle_of bar) ≡ true
unfolding step_verdict step_lines bar_lines
taken_fine s t bar m ls h =
    let handed = (both_fine (step_lines s t bar m ls) (size_lines s t bar m) h).0 in
    let whole = first_holds _ _ (both_fine (run_lines s t m) _ handed).1 in
    let places = both_fine (place_lines t.counts m.equity m.trades) _ whole.1 in
    (first_holds _ _ (both_fine (bar_lines s.slots bar t.counts.bars_seen) _ places.1).0).0

-- EVERY BAR THAT A RUN TOOK, from any state and over any rooms
pub run_fine : (s : Settings) (ls : Lists) (bars : List (List ℕ)) (t : State) (m : Rooms) → AllFine (take (run_over s ls t m bars).done bars)
unfolding AllFine
run_fine s ls [] t m = rw (run_none s ls t m) tt
run_fine s ls (bar ∷ bars) t m =
    by_first_bar s ls t m bar bars (λ took u n. AllFine took) tt
    (λ fine. (taken_fine s t bar m ls fine, run_fine s ls bars (stepped s t bar m ls).result (stepped s t bar m ls).rooms))

-- ---- of some of them

pub fine_after : (before since : List (List ℕ)) → AllFine (before ++ since) → AllFine since
unfolding AllFine
fine_after [] since h = h
fine_after (b ∷ before) since h = fine_after before since h.1

pub fine_both : (bars more : List (List ℕ)) → AllFine bars → AllFine more → AllFine (bars ++ more)
unfolding AllFine
fine_both [] more h k = k
fine_both (b ∷ bars) more h k = (h.0, fine_both bars more h.1 k)

prices : («open» high low close volume : Bool) → («open» && high && low && close && volume) ≡ true → (high ≡ true) × (low ≡ true)
prices «open» high low close volume h =
    let four = (and_true («open» && high && low && close) volume h).0 in
    let three = (and_true («open» && high && low) close four).0 in
    let two = and_true («open» && high) low three in
    ((and_true «open» high two.0).1, two.1)

-- the low and the high of such bars are finite
pub fine_finite : (long : Bool) (bars : List (List ℕ)) → AllFine bars → AllFinite long bars
unfolding AllFine AllFinite
fine_finite long [] h = tt
fine_finite long (bar ∷ bars) h =
    let k : Candle = candle_of bar in
    let both = prices (finite k.«open») (finite k.high) (finite k.low) (finite k.close) (finite k.volume) h.0 in
    (side long both.0 both.1, fine_finite long bars h.1)
  where
    side : (long : Bool) → finite (candle_of bar).high ≡ true → finite (candle_of bar).low ≡ true → finite (against long bar) ≡ true
    side true high low = low
    side false high low = high
