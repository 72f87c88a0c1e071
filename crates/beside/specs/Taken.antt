-- The bars that a stream takes: each is whole, and 11 accepts it for the stream's slots.
use Rattle.std.specs.Prelude.{ℕ, zero, suc, ◌+◌, ◌-◌, ◌*◌, ◌/◌, ◌≤◌, ◌≡◌, refl, Bool, true, false, cond, List, [], ◌∷◌, eqb, length, take, drop, Err, Ok}
use Rattle.words.specs.Prelude.{◌∙◌, arith}
use Rattle.words.specs.Prelude.{length-drop, length-take-le}
use Rattle.words.specs.{Laws.Records.records_fit, Limits.bar_words}
use Rattle.refusals.specs.{Bar.bar_lines, Laws.Lines.first_holds, Lines.judged}
use Rattle.engine.specs.{Day.in_records, Laws.Days.records_next}
use Rattle.accounts.specs.{Stream.stream_lines, Stream.stream_bar_lines, Stream.none_taken, Stream.one_more_taken, Stream.taken_unless, Stream.stream_takes}
use Rattle.accounts.specs.{Stream.stream_taken}
use Rattle.beside.specs.{OwnFine.fine_anywhere}
use Rattle.refusals.specs.{Lines.Verdict}

-- each is a bar of S slots that 11 accepts, whatever the bars seen
unfoldable pub AllFine : ℕ → List (List ℕ) → Type 0
AllFine S [] = Unit
AllFine S (bar ∷ bars) = (length bar ≡ bar_words S) × ((seen : ℕ) → judged (bar_lines S bar seen) ≡ Ok tt) × AllFine S bars

-- a bar that the stream takes
bar_fine : (S seen : ℕ) (bar : List ℕ) → judged (stream_bar_lines S seen bar) ≡ Ok tt → (seen' : ℕ) → judged (bar_lines S bar seen') ≡ Ok tt
unfolding stream_bar_lines
bar_fine S seen bar h seen' = fine_anywhere S bar seen seen' (first_holds _ _ h).1

-- one record fewer
fewer : (n w long : ℕ) → suc n * w ≤ long → (w ≤ long) × (n * w ≤ long - w)
fewer n w long h = let one : suc n * w ≡ n * w + w = omega arith in (omega arith, omega arith)

takes_fine : (S w n seen : ℕ) (ws : List ℕ) → w ≡ bar_words S → n * w ≤ length ws → AllFine S (in_records (stream_takes S seen (in_records n w ws)).done w ws)
unfolding in_records stream_takes taken_unless AllFine
takes_fine S w zero seen ws wide h = tt
takes_fine S w (suc n) seen ws wide h =
    go (judged (stream_bar_lines S seen (take w ws))) refl (takes_fine S w n (seen + 1) (drop w ws) wide (rw length-drop (fewer n w (length ws) h).1))
  where
    later : ℕ
    later = (stream_takes S (seen + 1) (in_records n w (drop w ws))).done

    go : (v : Verdict) → judged (stream_bar_lines S seen (take w ws)) ≡ v → AllFine S (in_records later w (drop w ws))
        → AllFine S (in_records (taken_unless v (one_more_taken (stream_takes S (seen + 1) (in_records n w (drop w ws))))).done w ws)
    go (Err why) e rest = tt
    go (Ok _) e rest =
        let back : later + 1 - 1 ≡ later = omega arith in
        rw (records_next (later + 1) w ws (omega arith), back)
        (length-take-le w ws (fewer n w (length ws) h).0 ∙ wide, bar_fine S seen (take w ws) e, rest)

-- THE BARS TAKEN
pub taken_fine : (S seen : ℕ) (bars : List ℕ) → AllFine S (in_records (stream_taken S seen bars).done (bar_words S) bars)
unfolding stream_taken taken_unless in_records AllFine
taken_fine S seen bars = go (eqb (length bars) 0) (judged (stream_lines S seen bars))
  where
    all : List (List ℕ)
    all = in_records (length bars / bar_words S) (bar_words S) bars

    go : (b : Bool) (v : Verdict) → AllFine S (in_records (cond b (none_taken (Ok tt)) (taken_unless v (stream_takes S seen all))).done (bar_words S) bars)
    go true v = tt
    go false (Err why) = tt
    go false (Ok _) = takes_fine S (bar_words S) (length bars / bar_words S) seen bars refl (records_fit (length bars) (bar_words S) (omega arith) _ (omega arith))
