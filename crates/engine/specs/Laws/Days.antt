-- A call over many bars is a step for each: its first bar, one bar more, and what is judged once.
use Rattle.std.specs.Prelude.{ℕ, zero, suc, ◌+◌, ◌-◌, ◌*◌, ◌/◌, ◌%◌, ◌<◌, ◌≤◌, ◌≡◌, refl, Bool, true, false, List, [], ◌∷◌, ◌++◌, ltb, length, take, drop, Err, Ok, Result}
use Rattle.words.specs.Prelude.{sym, ap, ◌∙◌, zero-div}
use Rattle.words.specs.Prelude.{le-div_iff_mul-le, mod-eq_of_lt, arith, eqb-true, eqb-false, ltb-true, ltb-false, drop-drop}
use Rattle.words.specs.Prelude.{length-take-le, take_all}
use Rattle.words.specs.{Limits.bar_words, declared.refusal.Refusal.Refusal}
use Rattle.records.specs.{declared.settings.Settings.Settings, declared.state.State.State, Lent.Lists, Lent.Rooms, Lent.rooms}
use Rattle.refusals.specs.{Day.whole_bars, Day.whole_for, Day.day_lines, Day.next_lines, Judgement.step_judged, Laws.Lines.below_fine, Laws.Lines.below_bad}
use Rattle.refusals.specs.{Laws.Steady.Steady, Laws.Steady.day_bad, Laws.Steady.day_ragged, Laws.Steady.next_judged, Lines.Line, Lines.judged, Lists.list_lines}
use Rattle.engine.specs.{Day.Underway, Day.in_records, Day.bars_in, Day.bars_for, Day.no_bars, Day.day_of, Day.first_refused, Day.run_with, Day.unlisted_by}
use Rattle.engine.specs.{Run.Run, Run.one_more, Run.goes_on, Run.run_over, Step.With, Step.Is, Step.answered, Step.stepped, Step.step_verdict}
use Rattle.engine.specs.{Step.step_answer, Laws.Runs.run_none, Laws.Runs.run_stops, Laws.Underway.step_steady, Laws.Verdict.handed_bad}
use Rattle.std.proofs.Math.Nat.{zero-mod, div_self}
use Rattle.refusals.specs.{declared.day.Span.Span, declared.day.Span.TheVariants.One, declared.day.Span.TheVariants.Many}
use Rattle.refusals.specs.{Lines.Verdict}

-- ---- a bar

-- a step that was taken is the one of its phases, and all that was looked at once is as it was
by_answer : (v : Verdict) (t : State) (m : Rooms) (done : With State) (u : State) (ws es ts : List ℕ) → Is (Result State (Refusal × State)) (answered v t m done) (Ok u) ws es ts
    → (u ≡ done.result) × (rooms ws es ts ≡ done.rooms)
unfolding answered
by_answer (Err why) t m done u ws es ts d = absurd (let z : ◌≡◌ {A = ℕ} 0 1 = cc d.result in omega arith)
by_answer (Ok _) t m done u ws es ts d = (let same : Ok u ≡ Ok done.result = d.result in cc, rw (d.rows, d.equity, d.trades))

module _ (s : Settings) (ls : Lists) (t : State) (m : Rooms) (bar : List ℕ) {u : State} {ws es ts : List ℕ} where
  pub stays_underway : Is (Result State (Refusal × State)) (step_answer s t bar m ls) (Ok u) ws es ts → Underway s t m ls → Underway s u (rooms ws es ts) ls
  unfolding step_answer
  stays_underway d c =
      let e = by_answer (step_verdict s t bar m ls) t m (stepped s t bar m ls) u ws es ts d in
      rw (e.0, e.1) (record { steady = step_steady s t bar m ls c.steady; lists = c.lists })

  -- the run that begins with it
  pub run_goes : (bars : List (List ℕ)) → Is (Result State (Refusal × State)) (step_answer s t bar m ls) (Ok u) ws es ts
      → run_over s ls t m (bar ∷ bars) ≡ one_more (run_over s ls u (rooms ws es ts) bars)
  unfolding run_over goes_on
  run_goes bars d = rw (← d.result, d.rows, d.equity, d.trades)

  pub run_refused : (bars : List (List ℕ)) {why : Refusal} → Is (Result State (Refusal × State)) (step_answer s t bar m ls) (Err (why, u)) ws es ts
      → run_over s ls t m (bar ∷ bars) ≡ record { done = 0; verdict = Err why; state = u; rooms = rooms ws es ts }
  unfolding run_over goes_on
  run_refused bars d = rw (← d.result, d.rows, d.equity, d.trades)

-- ---- bar after bar

-- k bars more, before those of a run
abbrev pub more_bars : ℕ → Run → Run
more_bars k r = record { done = r.done + k; verdict = r.verdict; state = r.state; rooms = r.rooms }

-- one record more
pub records_next : (n w : ℕ) (ws : List ℕ) → 0 < n → in_records n w ws ≡ take w ws ∷ in_records (n - 1) w (drop w ws)
unfolding in_records
records_next zero w ws h = absurd (omega arith)
records_next (suc n) w ws h = let less : suc n - 1 ≡ n = omega arith in rw less

module _ (s : Settings) (ls : Lists) (t₀ : State) (m₀ : Rooms) (bars : List ℕ) (count w : ℕ) where
  -- the run over all bars is that over the bars left, after those done
  abbrev pub After : ℕ → State → Rooms → Type 0
  After done t m = run_over s ls t₀ m₀ (in_records count w bars) ≡ more_bars done (run_over s ls t m (in_records (count - done) w (drop (done * w) bars)))

  pub after_none : After 0 t₀ m₀
  after_none =
      let all : count - 0 ≡ count = omega arith in
      let start : 0 * w ≡ 0 = omega arith in
      let none : (n : ℕ) → n + 0 ≡ n = λ n. omega arith in
      rw (all, start, none)

  -- all are done
  pub after_all : (done : ℕ) {t : State} {m : Rooms} → count ≤ done → After done t m
      → run_over s ls t₀ m₀ (in_records count w bars) ≡ record { done = done; verdict = Ok tt; state = t; rooms = m }
  unfolding in_records
  after_all done h after =
      let none : count - done ≡ 0 = omega arith in
      let zero_more : 0 + done ≡ done = omega arith in
      after ∙ rw (none, run_none, zero_more)

  -- the next bar
  abbrev pub next_bar : ℕ → List ℕ
  next_bar done = take w (drop (done * w) bars)

  next : (done : ℕ) → done < count
      → in_records (count - done) w (drop (done * w) bars) ≡ next_bar done ∷ in_records (count - (done + 1)) w (drop ((done + 1) * w) bars)
  next done h =
      let left : count - done - 1 ≡ count - (done + 1) = omega arith in
      let on : done * w + w ≡ (done + 1) * w = omega arith in
      records_next (count - done) w (drop (done * w) bars) (omega arith) ∙ rw (drop-drop w (done * w) bars, left, on)

  module _ (done : ℕ) (more : done < count) (t : State) (m : Rooms) (after : After done t m) where
    pub after_more : {u : State} {ws es ts : List ℕ} → Is (Result State (Refusal × State)) (step_answer s t (next_bar done) m ls) (Ok u) ws es ts → After (done + 1) u (rooms ws es ts)
    after_more {u} {ws} {es} {ts} d =
        let more-by-one : (n : ℕ) → n + 1 + done ≡ n + (done + 1) = λ n. omega arith in
        after ∙ rw (next done more, run_goes s ls t m (next_bar done) _ d, more-by-one)

    pub after_refused : {why : Refusal} {u : State} {ws es ts : List ℕ} → Is (Result State (Refusal × State)) (step_answer s t (next_bar done) m ls) (Err (why, u)) ws es ts
        → run_over s ls t₀ m₀ (in_records count w bars) ≡ record { done = done; verdict = Err why; state = u; rooms = rooms ws es ts }
    after_refused d =
        let zero_more : 0 + done ≡ done = omega arith in
        after ∙ rw (next done more, run_refused s ls t m (next_bar done) _ d, zero_more)

-- ---- the call

pos_of_ne : (n : ℕ) → (n ≡ 0 → ⊥) → 0 < n
pos_of_ne zero h = absurd (h refl)
pos_of_ne (suc n) h = omega arith

-- a number above 0 that leaves nothing is no less than what divides it
not-below : (n w : ℕ) → 0 < n → n % w ≡ 0 → w ≤ n
not-below n w some e = go (ltb n w) refl
  where
    go : (b : Bool) → ltb n w ≡ b → w ≤ n
    go true h = absurd (omega (arith, mod-eq_of_lt (ltb-true n w h), e))
    go false h = ltb-false n w h

module _ (K : ℕ) (bars : List ℕ) where
  pub bars_none : length bars ≡ 0 → bars_in K bars ≡ []
  unfolding bars_in whole_bars in_records
  bars_none none = rw (none, zero-mod, zero-div)

  -- one bar or more, and whole: a first bar
  pub whole_one : (span : Span) → no_bars span bars ≡ false → whole_for span K bars ≡ true → bar_words K ≤ length bars
  unfolding no_bars whole_for whole_bars
  whole_one One some whole = omega (arith, eqb-true (length bars) (bar_words K) whole)
  whole_one Many some whole =
      not-below (length bars) (bar_words K) (pos_of_ne (length bars) (eqb-false (length bars) 0 some)) (eqb-true (length bars % bar_words K) 0 whole)

  pub some_bars : bar_words K ≤ length bars → 0 < length bars / bar_words K
  some_bars h = (le-div_iff_mul-le {k = bar_words K} (omega arith)).1 (omega (arith, h))

  -- the bars of whole bars
  pub whole_bars_lem : (span : Span) → whole_for span K bars ≡ true → bars_for span K bars ≡ in_records (length bars / bar_words K) (bar_words K) bars
  unfolding bars_for whole_for bars_in in_records
  whole_bars_lem One whole =
      let long : length bars ≡ bar_words K = eqb-true (length bars) (bar_words K) whole in
      let once : length bars / bar_words K ≡ 1 = rw long (div_self {n = bar_words K} (omega arith)) in
      rw once (ap (λ (l : List ℕ). l ∷ []) (sym (take_all (bar_words K) bars (omega arith))))
  whole_bars_lem Many whole = rw whole

  -- and of others
  pub ragged_bars : (span : Span) → whole_for span K bars ≡ false → bars_for span K bars ≡ bars ∷ []
  unfolding bars_for whole_for bars_in
  ragged_bars One h = refl
  ragged_bars Many h = rw h

-- a call of many that is handed none makes no step
no_bars_lem : (span : Span) (K : ℕ) (bars : List ℕ) → no_bars span bars ≡ true → bars_for span K bars ≡ []
unfolding no_bars bars_for
no_bars_lem One K bars h = absurd (let z : ◌≡◌ {A = ℕ} 0 1 = cc in omega arith)
no_bars_lem Many K bars h = bars_none K bars (eqb-true (length bars) 0 h)

module _ (span : Span) (s : Settings) (t : State) (bars : List ℕ) (m : Rooms) (ls : Lists) where
  -- no bars
  pub day_none : no_bars span bars ≡ true → day_of span s t bars m ls ≡ record { done = 0; verdict = Ok tt; state = t; rooms = m }
  unfolding day_of
  day_none none = rw (no_bars_lem span s.slots bars none) (run_none s ls t m)

  -- whole bars
  pub day_whole : whole_for span s.slots bars ≡ true
      → day_of span s t bars m ls ≡ run_over s ls t m (in_records (length bars / bar_words s.slots) (bar_words s.slots) bars)
  unfolding day_of
  day_whole h = rw (whole_bars_lem s.slots bars span h)

  module _ (some : no_bars span bars ≡ false) where
    -- whole bars whose first is refused
    first_bad : whole_for span s.slots bars ≡ true → (why : Refusal) → step_judged s t (take (bar_words s.slots) bars) m ls ≡ Err why
        → day_of span s t bars m ls ≡ run_with (first_refused t why) m
    first_bad h why bad =
        day_whole h ∙ rw (records_next _ (bar_words s.slots) bars (some_bars s.slots bars (whole_one s.slots bars span some h)))
        (run_stops s ls t m _ _ why (handed_bad s t _ m ls why bad))

    -- WHAT IS LOOKED AT ONCE is what the first bar would be refused with
    pub day_stops : (why : Refusal) → judged (day_lines span s t bars m) ≡ Err why → day_of span s t bars m ls ≡ run_with (first_refused t why) m
    day_stops why bad = go (whole_for span s.slots bars) refl
      where
        go : (b : Bool) → whole_for span s.slots bars ≡ b → day_of span s t bars m ls ≡ run_with (first_refused t why) m
        go true h = first_bad h why (day_bad span s t bars m ls why bad h _)
        go false h =
            unfold day_of in
            rw (ragged_bars s.slots bars span h) (run_stops s ls t m bars [] why (handed_bad s t bars m ls why (day_ragged span s t bars m ls why bad h)))

    -- and so are the lists, after the bar itself
    pub day_unlisted : (fifteen : Refusal) → Steady s t m → whole_for span s.slots bars ≡ true
        → judged (list_lines s.slots s.depth ls) ≡ Err fifteen
        → day_of span s t bars m ls
        ≡ run_with (unlisted_by (judged (next_lines s.slots t.counts (take (bar_words s.slots) bars) m.equity m.trades)) t fifteen) m
    unfolding unlisted_by
    day_unlisted fifteen steady h bad = go (judged own) refl
      where
        first : List ℕ
        first = take (bar_words s.slots) bars

        own : List Line
        own = next_lines s.slots t.counts first m.equity m.trades

        judge : step_judged s t first m ls ≡ judged (own ++ list_lines s.slots s.depth ls)
        judge = next_judged s t first m ls steady (length-take-le _ bars (whole_one s.slots bars span some h))

        go : (v : Verdict) → judged own ≡ v → day_of span s t bars m ls ≡ run_with (unlisted_by v t fifteen) m
        go (Err why) e = first_bad h why (judge ∙ below_bad own _ why e)
        go (Ok _) e = first_bad h fifteen (judge ∙ (below_fine own _ e ∙ bad))

-- A CALL OF ONE BAR IS A STEP: what it comes to is the step's answer.
unfoldable pub answer_in : Verdict → State → Result State (Refusal × State)
answer_in (Err why) t = Err (why, t)
answer_in (Ok _) t = Ok t

-- a run of one bar, as an answer
abbrev IsRun : With (Result State (Refusal × State)) → Run → Type 0
IsRun d r = Is (Result State (Refusal × State)) d (answer_in r.verdict r.state) r.rooms.rows r.rooms.equity r.rooms.trades

one_answer : (d : With (Result State (Refusal × State))) (later : State → Run) → ((u : State) → later u ≡ record { done = 0; verdict = Ok tt; state = u; rooms = d.rooms })
    → (a : Result State (Refusal × State)) → d.result ≡ a → IsRun d (goes_on a d.rooms later)
unfolding goes_on answer_in
one_answer d later none (Err (why, given)) f = record { result = sym f; rows = refl; equity = refl; trades = refl }
one_answer d later none (Ok u) f = rw (none u) (record { result = sym f; rows = refl; equity = refl; trades = refl })

pub day_one : (s : Settings) (t : State) (bar : List ℕ) (m : Rooms) (ls : Lists) (r : Run) → day_of One s t bar m ls ≡ r → IsRun (step_answer s t bar m ls) r
unfolding day_of bars_for run_over
day_one s t bar m ls r e =
    let d = step_answer s t bar m ls in
    let is : IsRun d (day_of One s t bar m ls) = one_answer d (λ u. run_over s ls u d.rooms []) (λ u. run_none s ls u d.rooms) d.result refl in
    rw e at is
