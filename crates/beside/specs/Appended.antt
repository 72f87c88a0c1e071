-- Bars behind bars: their records, what the stream takes of them, and what an account's calls over them come to.
use Rattle.std.specs.Prelude.{ℕ, zero, suc, ◌+◌, ◌*◌, ◌/◌, ◌^◌, ◌≤◌, ◌≡◌, refl, Bool, true, false, cond, List, [], ◌∷◌, ◌++◌, eqb, length, drop, Err, Ok}
use Rattle.words.specs.Prelude.{sym, arith, ltb-true}
use Rattle.words.specs.Prelude.{eqb-false, length-drop}
use Rattle.words.specs.{declared.refusal.Refusal.Refusal, Limits.most_count}
use Rattle.records.specs.{Lent.Lists}
use Rattle.refusals.specs.{Laws.Lines.never, Laws.Lines.first_holds, Lines.judged}
use Rattle.engine.specs.{Day.in_records}
use Rattle.accounts.specs.{declared.stream.StreamTaken.StreamTaken, Laws.Stream.more_taken, Stream.stream_bar_lines, Stream.one_more_taken, Stream.taken_unless}
use Rattle.accounts.specs.{Stream.stream_takes}
use Rattle.replies.specs.{Call.Call}
use Rattle.stepping.specs.{Bars.StepLent, Bars.step_call, WordRun.WordRun, WordRun.call_more, WordRun.calls_over}
use Rattle.capi.specs.{Laws.RunCalls.step_honest}
use Rattle.refusals.specs.{Lines.Verdict}
use Rattle.std.proofs.lemmas.List.{take-append-le, drop-append-le}

-- ---- records of words

-- the first records are those of the front, where they lie in it
pub records_front : (n w : ℕ) (a b : List ℕ) → n * w ≤ length a → in_records n w (a ++ b) ≡ in_records n w a
unfolding in_records
records_front zero w a b h = refl
records_front (suc n) w a b h =
    let one : suc n * w ≡ w + n * w = omega arith in
    let long : w ≤ length a = omega arith in
    let rest : n * w ≤ length (drop w a) = rw length-drop (omega arith) in
    rw (take-append-le w a b long, drop-append-le w a b long, records_front n w (drop w a) b rest)

-- and so many more are those that stand behind
pub records_behind : (n m w : ℕ) (a b : List ℕ) → length a ≡ n * w → in_records (n + m) w (a ++ b) ≡ in_records n w a ++ in_records m w b
unfolding in_records
records_behind zero m w [] b h = let none : 0 + m ≡ m = omega arith in rw none
records_behind zero m w (x ∷ a) b h = absurd (omega (arith, h))
records_behind (suc n) m w a b h =
    let one : suc n * w ≡ w + n * w = omega arith in
    let long : w ≤ length a = omega arith in
    let rest : length (drop w a) ≡ n * w = rw length-drop (omega arith) in
    let more : suc n + m ≡ suc (n + m) = omega arith in
    rw (more, take-append-le w a b long, drop-append-le w a b long, records_behind n m w (drop w a) b rest)

-- ---- the stream

-- a bar that is taken, and those after it
one_more : (v : Verdict) (t : StreamTaken) → (taken_unless v (one_more_taken t)).verdict ≡ Ok tt → (v ≡ Ok tt) × (t.verdict ≡ Ok tt)
unfolding taken_unless
one_more (Ok _) t e = (refl, e)
one_more (Err why) t e = never e

-- where all of the front is taken, so is of all what is taken behind it, with so many bars more
pub takes_behind : (S : ℕ) (a b : List (List ℕ)) (seen : ℕ) → (stream_takes S seen a).verdict ≡ Ok tt
    → stream_takes S seen (a ++ b) ≡ more_taken (length a) (stream_takes S (seen + length a) b)
unfolding stream_takes taken_unless
takes_behind S [] b seen e =
    let none : seen + 0 ≡ seen = omega arith in
    let same : (n : ℕ) → n + 0 ≡ n = λ n. omega arith in
    rw (none, same)
takes_behind S (bar ∷ a) b seen e =
    let own = one_more (judged (stream_bar_lines S seen bar)) (stream_takes S (seen + 1) a) e in
    let on : seen + 1 + length a ≡ seen + length (bar ∷ a) = omega arith in
    let all : (n : ℕ) → n + length a + 1 ≡ n + length (bar ∷ a) = λ n. omega arith in
    rw (own.0, takes_behind S a b (seen + 1) own.1, on, all)

-- then each of them is counted, and the stream's bars are a count still
pub takes_all : (S : ℕ) (a : List (List ℕ)) (seen : ℕ) → (stream_takes S seen a).verdict ≡ Ok tt → (stream_takes S seen a).done ≡ length a
unfolding stream_takes taken_unless
takes_all S [] seen e = refl
takes_all S (bar ∷ a) seen e =
    let own = one_more (judged (stream_bar_lines S seen bar)) (stream_takes S (seen + 1) a) e in
    let on = takes_all S a (seen + 1) own.1 in
    rw own.0 (omega (arith, on))

pub takes_early : (S : ℕ) (a : List (List ℕ)) (seen : ℕ) → seen ≤ most_count → (stream_takes S seen a).verdict ≡ Ok tt → seen + length a ≤ most_count
unfolding stream_takes stream_bar_lines
takes_early S [] seen early e = omega arith
takes_early S (bar ∷ a) seen early e =
    let own = one_more (judged (stream_bar_lines S seen bar)) (stream_takes S (seen + 1) a) e in
    let below = ltb-true seen most_count (first_holds _ _ own.0).0 in
    let on = takes_early S a (seen + 1) (omega (arith, below)) own.1 in
    omega (arith, on)

-- a bar of the front that is refused ends both
pub takes_ended : (S : ℕ) (a b : List (List ℕ)) (seen : ℕ) (why : Refusal) → (stream_takes S seen a).verdict ≡ Err why
    → stream_takes S seen (a ++ b) ≡ stream_takes S seen a
unfolding stream_takes
takes_ended S [] b seen why e = never (sym e)
takes_ended S (bar ∷ a) b seen why e = go (judged (stream_bar_lines S seen bar)) (takes_ended S a b (seen + 1) why) e
  where
    go : (v : Verdict) → ((stream_takes S (seen + 1) a).verdict ≡ Err why → stream_takes S (seen + 1) (a ++ b) ≡ stream_takes S (seen + 1) a)
        → (taken_unless v (one_more_taken (stream_takes S (seen + 1) a))).verdict ≡ Err why
        → taken_unless v (one_more_taken (stream_takes S (seen + 1) (a ++ b))) ≡ taken_unless v (one_more_taken (stream_takes S (seen + 1) a))
    go (Err r) later f = unfold taken_unless in refl
    go (Ok _) later f = unfold taken_unless in rw (later f)

-- ---- calls of a step

-- k calls more, before those of a run
abbrev pub more_calls : ℕ → WordRun → WordRun
more_calls k r = record { done = r.done + k; answer = r.answer; lent = r.lent }

-- a call, and those after it where it does its work
abbrev onwards : Call StepLent → WordRun → WordRun
onwards c later = cond (eqb c.answer 0) (call_more later) (record { done = 0; answer = c.answer; lent = c.lent })

module _ (settings : List ℕ) (ls : Lists) where
  abbrev calls : StepLent → List (List ℕ) → WordRun
  calls lent bars = calls_over settings ls lent bars

  abbrev step : StepLent → List ℕ → Call StepLent
  step lent bar = step_call settings lent.state bar lent.rooms ls

  -- where those over the front all do their work, those behind go on with what they left
  pub calls_behind : (a b : List (List ℕ)) (lent : StepLent) → (calls_over settings ls lent a).answer ≡ 0
      → calls_over settings ls lent (a ++ b) ≡ more_calls (length a) (calls_over settings ls (calls_over settings ls lent a).lent b)
  unfolding calls_over
  calls_behind [] b lent e = let same : (n : ℕ) → n + 0 ≡ n = λ n. omega arith in rw same
  calls_behind (bar ∷ a) b lent e = go (step lent bar) e (calls_behind a b (step lent bar).lent)
    where
      go : (c : Call StepLent) → (onwards c (calls c.lent a)).answer ≡ 0
          → ((calls c.lent a).answer ≡ 0 → calls c.lent (a ++ b) ≡ more_calls (length a) (calls (calls c.lent a).lent b))
          → onwards c (calls c.lent (a ++ b)) ≡ more_calls (length (bar ∷ a)) (calls (onwards c (calls c.lent a)).lent b)
      go c h later = by (eqb c.answer 0) refl h
        where
          by : (d : Bool) → eqb c.answer 0 ≡ d
              → (cond d (call_more (calls c.lent a)) (record { done = 0; answer = c.answer; lent = c.lent })).answer ≡ 0
              → cond d (call_more (calls c.lent (a ++ b))) (record { done = 0; answer = c.answer; lent = c.lent })
              ≡ more_calls (length (bar ∷ a))
              (calls (cond d (call_more (calls c.lent a)) (record { done = 0; answer = c.answer; lent = c.lent })).lent b)
          by true f k =
              let all : (n : ℕ) → n + length a + 1 ≡ n + length (bar ∷ a) = λ n. omega arith in
              rw (later k, all)
          by false f k = absurd (eqb-false _ _ f k)

  -- one that is refused ends both
  pub calls_ended : (a b : List (List ℕ)) (lent : StepLent) → ((calls_over settings ls lent a).answer ≡ 0 → ⊥)
      → calls_over settings ls lent (a ++ b) ≡ calls_over settings ls lent a
  unfolding calls_over
  calls_ended [] b lent h = absurd (h refl)
  calls_ended (bar ∷ a) b lent h = go (eqb (step lent bar).answer 0) h (calls_ended a b (step lent bar).lent)
    where
      other : WordRun
      other = record { done = 0; answer = (step lent bar).answer; lent = (step lent bar).lent }

      go : (d : Bool) → ((cond d (call_more (calls (step lent bar).lent a)) other).answer ≡ 0 → ⊥)
          → (((calls (step lent bar).lent a).answer ≡ 0 → ⊥) → calls (step lent bar).lent (a ++ b) ≡ calls (step lent bar).lent a)
          → cond d (call_more (calls (step lent bar).lent (a ++ b))) other ≡ cond d (call_more (calls (step lent bar).lent a)) other
      go true f later = rw (later f)
      go false f later = refl

  -- and its answer has a number: what it stops an account with is not 0
  pub calls_number : (a : List (List ℕ)) (lent : StepLent) → ((calls_over settings ls lent a).answer ≡ 0 → ⊥)
      → (calls_over settings ls lent a).answer / 2 ^ 32 ≡ 0 → ⊥
  unfolding calls_over
  calls_number [] lent h = absurd (h refl)
  calls_number (bar ∷ a) lent h =
      go (eqb (step lent bar).answer 0) h (step_honest settings lent.state bar lent.rooms ls).told (calls_number a (step lent bar).lent)
    where
      run : Bool → WordRun
      run d = cond d (call_more (calls (step lent bar).lent a)) (record { done = 0; answer = (step lent bar).answer; lent = (step lent bar).lent })

      go : (d : Bool) → ((run d).answer ≡ 0 → ⊥) → (((step lent bar).answer ≡ 0 → ⊥) → (step lent bar).answer / 2 ^ 32 ≡ 0 → ⊥)
          → (((calls (step lent bar).lent a).answer ≡ 0 → ⊥) → (calls (step lent bar).lent a).answer / 2 ^ 32 ≡ 0 → ⊥)
          → (run d).answer / 2 ^ 32 ≡ 0 → ⊥
      go true f own later = later f
      go false f own later = own f
