-- Request 6: the least favourable price of each trade of a run is as bad as its fill and as every bar's from the entry bar on, and is one of them.
-- A fill need not be finite (docs/DECISIONS.md), so nothing is asked of it.
use Rattle.std.specs.Prelude.{ℕ, ◌≡◌, refl, ◌⊎◌, Bool, true, false, List, [], ◌∷◌, ◌++◌, Float, take, Ok, Option}
use Rattle.words.specs.Prelude.{◌∙◌, inl, inr, false≢true, nan, inf, fin}
use Rattle.floats.specs.{Floats.◌≺◌, Floats.finite, Floats.zero, Laws.Order.numbers, Laws.Order.itself, Laws.Order.in_turn, Laws.Order.min_is}
use Rattle.floats.specs.{Laws.Order.max_is, Laws.Order.min_first, Laws.Order.min_second, Laws.Order.max_first, Laws.Order.max_second}
use Rattle.portfolio.specs.{declared.Trade.Trade, Portfolio.worse}
use Rattle.records.specs.{declared.settings.Settings.Settings, Bar.candle_of, Lent.Lists, Lent.Rooms, State.fresh_state}
use Rattle.engine.specs.{Books.trades_of, Finish.last_exit, Run.Run, Run.run_over, Step.fill_of, Step.step_verdict}
use Rattle.runs.specs.{During.against, During.worst_over, During.as_bad, During.AsBadAsEach, During.OneOfThem, During.AllFinite, Recorded.Recorded}
use Rattle.runs.specs.{Recorded.RecordedAtEnd, Recorded.Each, Recorded.recorded, Recorded.recorded_end}
use Rattle.trades.specs.{Finite.AllFine, Finite.taken_fine, Finite.run_fine, Finite.fine_after, Finite.fine_both, Finite.fine_finite}
use Rattle.std.specs.Float.Ieee as Ieee

-- w is the least favourable of a fill and of these bars
pub record LeastOf (long : Bool) (price : Float) (over : List (List ℕ)) (w : Float) : Type 0 where
  pub fill : Ieee.is_nan price ≡ false → as_bad long w price ≡ true
  pub bars : AsBadAsEach long w over
  pub one : (w ≡ price) ⊎ OneOfThem long w over

-- ---- any bars

number : (x : Float) → finite x ≡ true → Ieee.is_nan x ≡ false
unfolding Ieee.is_nan
number nan h = absurd (false≢true h)
number (inf s) h = refl
number (fin s m e) h = refl

bad_on : (long : Bool) (x y z : Float) → as_bad long x y ≡ true → as_bad long y z ≡ true → as_bad long x z ≡ true
bad_on true x y z h k = in_turn x y z h k
bad_on false x y z h k = in_turn z y x k h

bad_itself : (long : Bool) (x : Float) → Ieee.is_nan x ≡ false → as_bad long x x ≡ true
bad_itself true x f = itself x f
bad_itself false x f = itself x f

-- a bar with a finite price makes a number of any price
record Worse (long : Bool) (price : Float) (bar : List ℕ) (w : Float) : Type 0 where
  fill : Ieee.is_nan price ≡ false → as_bad long w price ≡ true
  own : as_bad long w (against long bar) ≡ true
  one : (w ≡ price) ⊎ (w ≡ against long bar)
  number : Ieee.is_nan w ≡ false

worse_is : (long : Bool) (price : Float) (bar : List ℕ) → finite (against long bar) ≡ true → Worse long price bar (worse (candle_of bar) price long)
unfolding worse
worse_is true price bar g =
    let low = (candle_of bar).low in
    let own = min_second price low (number low g) in
    record { fill = λ f. min_first price low f; own = own; one = min_is price low; number = (numbers _ low own).0 }
worse_is false price bar g =
    let high = (candle_of bar).high in
    let own = max_second price high (number high g) in
    record { fill = λ f. max_first price high f; own = own; one = max_is price high; number = (numbers high _ own).1 }

-- THE LEAST FAVOURABLE PRICE of any fill and any bars whose prices are finite
pub least_of : (long : Bool) (price : Float) (bars : List (List ℕ)) → AllFinite long bars → LeastOf long price bars (worst_over long price bars)
unfolding worst_over AsBadAsEach OneOfThem AllFinite
least_of long price [] g = record { fill = λ f. bad_itself long price f; bars = tt; one = inl refl }
least_of long price (bar ∷ bars) g =
    let p = worse (candle_of bar) price long in
    let first = worse_is long price bar g.0 in
    let later = least_of long p bars g.1 in
    let w = worst_over long p bars in
    let on = later.fill first.number in
    record {
      fill = λ f. bad_on long w p price on (first.fill f);
      bars = (bad_on long w p (against long bar) on first.own, later.bars);
      one = from later.one first.one;
    }
  where
    from : {w p : Float} → (w ≡ p) ⊎ OneOfThem long w bars → (p ≡ price) ⊎ (p ≡ against long bar)
        → (w ≡ price) ⊎ ((w ≡ against long bar) ⊎ OneOfThem long w bars)
    from (inl e) (inl d) = inl (e ∙ d)
    from (inl e) (inr d) = inr (inl (e ∙ d))
    from (inr o) d = inr (inr o)

-- ---- the trades of a run

-- a trade as recorded, and its price the least favourable of its fill and of its bars
pub record Least (s : Settings) (bars : List (List ℕ)) (bar : List ℕ) (e : Option ℕ) (t : Trade) : Type 0 where
  pub recorded : Recorded s bars bar e t
  pub least : LeastOf (zero ≺ t.qty) t.entry_price (recorded.since ++ (bar ∷ [])) t.worst

pub record LeastAtEnd (s : Settings) (bars : List (List ℕ)) (e : Option ℕ) (t : Trade) : Type 0 where
  pub recorded : RecordedAtEnd s bars e t
  pub least : LeastOf (zero ≺ t.qty) t.entry_price recorded.since t.worst

each : (P Q : Trade → Type 0) → ((t : Trade) → P t → Q t) → (ts : List Trade) → Each P ts → Each Q ts
unfolding Each
each P Q f [] h = tt
each P Q f (t ∷ ts) h = (f t h.0, each P Q f ts h.1)

-- the bars from the entry bar on are some of those taken
since_fine : (bars before since : List (List ℕ)) → AllFine bars → bars ≡ before ++ since → AllFine since
since_fine bars before since h e = fine_after before since (rw e at h)

least_is : (s : Settings) (bars : List (List ℕ)) (bar : List ℕ) (e : Option ℕ) (t : Trade) → AllFine bars → AllFine (bar ∷ []) → Recorded s bars bar e t
    → Least s bars bar e t
least_is s bars bar e t fine own x = record {
  recorded = x;
  least = rw x.worst
      (least_of (zero ≺ t.qty) t.entry_price (x.since ++ (bar ∷ []))
      (fine_finite (zero ≺ t.qty) _ (fine_both x.since (bar ∷ []) (since_fine bars x.before x.since fine x.split) own)));
}

-- IN EVERY RUN from a fresh state, of each trade that a bar closes: left by order, or inside the bar
pub least_recorded : (s : Settings) (ls : Lists) (m : Rooms) (bars : List (List ℕ)) (bar : List ℕ)
    → let r = run_over s ls (fresh_state s) m bars in
    (fine : step_verdict s r.state bar r.rooms ls ≡ Ok tt)
    → let a = recorded s ls m bars bar fine in
    Each (Least s (take r.done bars) bar r.state.position.entered) a.by_order
    × Each (Least s (take r.done bars) bar (fill_of s r.state bar r.rooms).position.entered) a.inside_bar
least_recorded s ls m bars bar fine =
    let r : Run = run_over s ls (fresh_state s) m bars in
    let done = take r.done bars in
    let all : AllFine done = run_fine s ls bars (fresh_state s) m in
    let own : AllFine (bar ∷ []) = unfold AllFine in (taken_fine s r.state bar r.rooms ls fine, tt) in
    let a = recorded s ls m bars bar fine in
    let found : Option ℕ = r.state.position.entered in
    let left : Option ℕ = (fill_of s r.state bar r.rooms).position.entered in (
      each (Recorded s done bar found) (Least s done bar found) (λ t x. least_is s done bar found t all own x) a.by_order a.each_by_order,
      each (Recorded s done bar left) (Least s done bar left) (λ t x. least_is s done bar left t all own x) a.inside_bar a.each_inside,
    )

-- and of the trade that finish closes
pub least_recorded_end : (s : Settings) (ls : Lists) (m : Rooms) (bars : List (List ℕ))
    → let r = run_over s ls (fresh_state s) m bars in
    Each (LeastAtEnd s (take r.done bars) r.state.position.entered) (trades_of (last_exit s r.state))
least_recorded_end s ls m bars =
    let r : Run = run_over s ls (fresh_state s) m bars in
    let done = take r.done bars in
    let e : Option ℕ = r.state.position.entered in
    each (RecordedAtEnd s done e) (LeastAtEnd s done e) (λ t x. record {
      recorded = x;
      least = rw x.worst
          (least_of (zero ≺ t.qty) t.entry_price x.since
          (fine_finite (zero ≺ t.qty) _ (since_fine done x.before x.since (run_fine s ls bars (fresh_state s) m) x.split)));
    }) (trades_of (last_exit s r.state)) (recorded_end s ls m bars)
