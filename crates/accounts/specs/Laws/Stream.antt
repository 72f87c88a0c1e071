-- The stream, bar after bar: the bars that are left after those taken, and what a bar that is taken has been seen to have.
use Rattle.std.specs.Prelude.{ℕ, zero, suc, ◌+◌, ◌-◌, ◌*◌, ◌/◌, ◌<◌, ◌≤◌, ◌≡◌, refl, Bool, true, false, cond, List, [], ◌∷◌, eqb, length, take, drop, Err, Ok}
use Rattle.words.specs.Prelude.{◌∙◌, arith, leb-true}
use Rattle.words.specs.Prelude.{drop-drop}
use Rattle.words.specs.{declared.refusal.Refusal.Refusal, Laws.Records.records_fit, Limits.bar_words, Limits.most_count, Limits.most_slots}
use Rattle.refusals.specs.{Laws.Lines.first_holds, Lines.judged}
use Rattle.engine.specs.{Day.in_records, Laws.Days.records_next}
use Rattle.accounts.specs.{declared.stream.StreamTaken.StreamTaken, Stream.stream_lines, Stream.stream_bar_lines, Stream.none_taken, Stream.one_more_taken}
use Rattle.accounts.specs.{Stream.taken_unless, Stream.stream_takes, Stream.stream_taken}
use Rattle.refusals.specs.{Lines.Verdict}

-- the next record, and those after it
pub next_record : (count w : ℕ) (ws : List ℕ) (done : ℕ) → done < count
    → in_records (count - done) w (drop (done * w) ws) ≡ take w (drop (done * w) ws) ∷ in_records (count - (done + 1)) w (drop ((done + 1) * w) ws)
next_record count w ws done h =
    let left : count - done - 1 ≡ count - (done + 1) = omega arith in
    let on : done * w + w ≡ (done + 1) * w = omega arith in
    records_next (count - done) w (drop (done * w) ws) (omega arith) ∙ rw (drop-drop w (done * w) ws, left, on)

-- record `done` as code takes it: from its first word up to the next record's
abbrev pub record_at : ℕ → List ℕ → ℕ → List ℕ
record_at w ws done = take (done * w + w - done * w) (drop (done * w) ws)

pub same_record : (w : ℕ) (ws : List ℕ) (done : ℕ) → record_at w ws done ≡ take w (drop (done * w) ws)
same_record w ws done = let wide : done * w + w - done * w ≡ w = omega arith in rw wide

-- k bars more, before those of a stream
abbrev pub more_taken : ℕ → StreamTaken → StreamTaken
more_taken k t = record { done = t.done + k; verdict = t.verdict }

module _ (S seen : ℕ) (bars : List ℕ) (count w : ℕ) where
  -- all bars are those left, after those done
  abbrev pub LeftAfter : ℕ → Type 0
  LeftAfter done =
      stream_takes S seen (in_records count w bars)
      ≡ more_taken done (stream_takes S (seen + done) (in_records (count - done) w (drop (done * w) bars)))

  pub left_none : LeftAfter 0
  left_none =
      let all : count - 0 ≡ count = omega arith in
      let start : 0 * w ≡ 0 = omega arith in
      let here : seen + 0 ≡ seen = omega arith in
      let none : (n : ℕ) → n + 0 ≡ n = λ n. omega arith in
      rw (all, start, here, none)

  pub left_all : (done : ℕ) → count ≤ done → LeftAfter done → stream_takes S seen (in_records count w bars) ≡ record { done = done; verdict = Ok tt }
  unfolding in_records stream_takes
  left_all done h after =
      let none : count - done ≡ 0 = omega arith in
      let zero_more : 0 + done ≡ done = omega arith in
      after ∙ rw (none, zero_more)

  module _ (done : ℕ) (more : done < count) (after : LeftAfter done) where
    pub left_more : judged (stream_bar_lines S (seen + done) (record_at w bars done)) ≡ Ok tt → LeftAfter (done + 1)
    unfolding stream_takes taken_unless
    left_more fine =
        let one : (n : ℕ) → n + 1 + done ≡ n + (done + 1) = λ n. omega arith in
        let on : seen + done + 1 ≡ seen + (done + 1) = omega arith in
        after ∙ rw (next_record count w bars done more, ← same_record w bars done, fine, one, on)

    pub left_stops : (why : Refusal) → judged (stream_bar_lines S (seen + done) (record_at w bars done)) ≡ Err why
        → stream_takes S seen (in_records count w bars) ≡ record { done = done; verdict = Err why }
    unfolding stream_takes taken_unless
    left_stops why bad =
        let zero_more : 0 + done ≡ done = omega arith in
        after ∙ rw (next_record count w bars done more, ← same_record w bars done, bad, zero_more)

-- ---- what was taken lies within the list

-- a stream whose lines are fine
pub stream_fine : (S seen : ℕ) (bars : List ℕ) → judged (stream_lines S seen bars) ≡ Ok tt → (S ≤ most_slots) × (seen ≤ most_count)
unfolding stream_lines
stream_fine S seen bars h =
    let slots = first_holds _ _ h in
    (leb-true S most_slots slots.0, leb-true seen most_count (first_holds _ _ slots.1).0)

-- a bar has ten words or more
pub tenth : (n S done : ℕ) → done < n / bar_words S → 10 * done ≤ n
tenth n S done h = let fits : done * bar_words S ≤ n = records_fit n (bar_words S) (omega arith) done (omega arith) in omega arith

-- as many records as are cut
pub records_length : (n w : ℕ) (ws : List ℕ) → length (in_records n w ws) ≡ n
unfolding in_records
records_length zero w ws = refl
records_length (suc n) w ws = rw (records_length n w (drop w ws))

-- no more are taken than there are
takes_few : (S : ℕ) (bars : List (List ℕ)) (seen : ℕ) → (stream_takes S seen bars).done ≤ length bars
unfolding stream_takes taken_unless
takes_few S [] seen = omega arith
takes_few S (bar ∷ bars) seen = go (judged (stream_bar_lines S seen bar)) (takes_few S bars (seen + 1))
  where
    go : (v : Verdict) → (stream_takes S (seen + 1) bars).done ≤ length bars
        → (taken_unless v (one_more_taken (stream_takes S (seen + 1) bars))).done ≤ length (bar ∷ bars)
    go (Err why) h = omega arith
    go (Ok _) h = omega arith

-- the first `count` bars of S slots stand in the list; where there is one, the stream's slots and its bars are within their limits
pub record Within (S seen : ℕ) (bars : List ℕ) (count : ℕ) : Type 0 where
  pub words : count * bar_words S ≤ length bars
  pub slots : 0 < count → S ≤ most_slots
  pub early : 0 < count → seen ≤ most_count

none_within : (S seen : ℕ) (bars : List ℕ) → Within S seen bars 0
none_within S seen bars = record {
  words = omega arith;
  slots = λ h. absurd (omega arith);
  early = λ h. absurd (omega arith);
}

-- WHAT THE STREAM TAKES is within its list
pub taken_within : (S seen : ℕ) (bars : List ℕ) → Within S seen bars (stream_taken S seen bars).done
unfolding stream_taken taken_unless
taken_within S seen bars = go (eqb (length bars) 0) (judged (stream_lines S seen bars)) refl
  where
    some : List (List ℕ)
    some = in_records (length bars / bar_words S) (bar_words S) bars

    goes : (v : Verdict) → judged (stream_lines S seen bars) ≡ v → Within S seen bars (taken_unless v (stream_takes S seen some)).done
    goes (Err why) e = none_within S seen bars
    goes (Ok _) e =
        let few : (stream_takes S seen some).done ≤ length bars / bar_words S =
        rw (records_length (length bars / bar_words S) (bar_words S) bars) at (takes_few S some seen) in
        record {
          words = records_fit (length bars) (bar_words S) (omega arith) _ few;
          slots = λ h. (stream_fine S seen bars e).0;
          early = λ h. (stream_fine S seen bars e).1;
        }

    go : (b : Bool) (v : Verdict) → judged (stream_lines S seen bars) ≡ v
        → Within S seen bars (cond b (none_taken (Ok tt)) (taken_unless v (stream_takes S seen some))).done
    go true v e = none_within S seen bars
    go false v e = goes v e
