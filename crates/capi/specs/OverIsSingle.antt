-- ysh_why_over is single calls of ysh_why, one for each row that is asked.
use Rattle.std.specs.Prelude.{ℕ, ◌*◌, ◌<◌, ◌≤◌, ◌≡◌, refl, true, List, ◌++◌, length, drop, get_or, Err, Ok, Result}
use Rattle.words.specs.Prelude.{sym, arith, le-ltb, length-drop, length-take-le}
use Rattle.words.specs.{Outcome.gives}
use Rattle.rows.specs.{History.whole_rows}
use Rattle.table.specs.{Bytes.Bytes}
use Rattle.table.specs.{Header.slots, Checked.checked}
use Rattle.rules.specs.{declared.position.PositionState.PositionState, Answers.state_right}
use Rattle.chain.specs.{Lines.chain_words, Explained.explanation, Explained.explained, Explained.explained_by, Explained.lines_after_answer, Laws.Short.few_lines}
use Rattle.refusals.specs.{Laws.Lines.never}
use Rattle.questions.specs.{Position.position_at, Over.asked_rows, Over.rows_to, Over.explanation_over, Over.place_words, Over.lines_over, Over.counts_over}
use Rattle.questions.specs.{Over.over_by, Over.over_verdict, Laws.Fine.OverFine, Laws.Fine.over_fine, Laws.Right.each_right, Laws.Upto.upto_whole}
use Rattle.questions.specs.{Laws.Places.place, Laws.Places.place_after, Laws.Places.past_places, Laws.Places.lines_long, Laws.Places.count_after}
use Rattle.questions.specs.{Laws.Places.past_counts, Laws.Places.counts_long}
use Rattle.replies.specs.{Call.call_of, Call.unless_bad}
use Rattle.capi.specs.{Why.why_gives, Why.why_call, WhyOver.OverLent, WhyOver.over_gives, WhyOver.over_call, Laws.Calls.Honest}
use Rattle.capi.specs.{Laws.WhyOverCalls.why_over_honest}
use Rattle.refusals.specs.{Lines.Verdict}
use Rattle.words.specs.{declared.refusal.Refusal.Refusal}
use Rattle.table.specs.{declared.answer.Accepted.Accepted, Outcome.accepts}

-- ---- the statement

-- What is said of a call for the n newest rows that answers 0.
pub record Singles (t : List ℕ) (x : ℕ) (rows ps : List ℕ) (before after : OverLent) : Type 0 where
  -- The i-th row that is asked: ysh_why over the rows up to it, with the i-th position and the i-th place as it was, answers 0 whatever its count held,
  -- leaves in that place what stands there now, and counts what count i says.
  pub single : (i : ℕ) → i < asked_rows ps → (count : ℕ)
      → why_call t x (rows_to (slots t) rows (asked_rows ps) i) (position_at ps i) (record { count = count; lines = place i before.lines })
      ≡ record { answer = 0; lent = record { count = get_or after.counts i 0; lines = place i after.lines } }
  -- what stands past the places and past the counts is as it was, and neither list is longer or shorter
  pub lines_past : drop (place_words * asked_rows ps) after.lines ≡ drop (place_words * asked_rows ps) before.lines
  pub counts_past : drop (asked_rows ps) after.counts ≡ drop (asked_rows ps) before.counts
  pub lines_long : length after.lines ≡ length before.lines
  pub counts_long : length after.counts ≡ length before.counts

-- ---- a single call that does its work
why_does : (t : List ℕ) (n r : ℕ) → checked t ≡ accepts n r → (x : ℕ) (rows : List ℕ) (s : PositionState) (list : List ℕ) (count : ℕ)
    → length list ≡ 256 → whole_rows (slots t) rows ≡ true → state_right s ≡ true
    → why_call t x rows s (record { count = count; lines = list })
    ≡ record {
      answer = 0;
      lent = record {
        count = length (explanation t x rows s);
        lines = chain_words (explanation t x rows s) ++ drop (8 * length (explanation t x rows s)) list;
      };
    }
unfolding why_call why_gives call_of explained explained_by lines_after_answer
why_does t n r ok x rows s list count long whole right = rw (ok, le-ltb (length list) 256 (omega arith), whole, right)

-- ---- what an answer of 0 tells

gives_only : {A : Type 0} (v : Verdict) (after lent : A) → unless_bad v (gives after) ≡ gives lent → (v ≡ Ok tt) × (after ≡ lent)
unfolding unless_bad
gives_only (Ok _) after lent e = (refl, cc)
gives_only (Err r) after lent e = absurd (let z : ◌≡◌ {A = ℕ} 0 1 = cc in omega arith)

record Seen (t rows ps : List ℕ) (lines counts : ℕ) : Type 0 where
  nodes : ℕ
  needed : ℕ
  accepted : checked t ≡ accepts nodes needed
  fine : OverFine (slots t) rows ps lines counts

seen : (t rows ps : List ℕ) (lines counts : ℕ) (a : Result Accepted Refusal) → a ≡ checked t → over_by a t rows ps lines counts ≡ Ok tt → Seen t rows ps lines counts
unfolding over_by
seen t rows ps lines counts (Err why) e h = never h
seen t rows ps lines counts (Ok accepted) e h = record {
  nodes = accepted.nodes;
  needed = accepted.rows;
  accepted = sym e;
  fine = over_fine (slots t) rows ps lines counts h;
}

-- ---- the places and the counts of a call that is judged fine
module _ (t : List ℕ) (small : Bytes t) (x : ℕ) (rows ps lines counts : List ℕ) (s : Seen t rows ps (length lines) (length counts)) where
  each_short : (i : ℕ) → length (explanation_over t x rows ps i) ≤ 32
  unfolding explanation_over
  each_short i = few_lines t small s.nodes s.needed s.accepted x (rows_to (slots t) rows (asked_rows ps) i) (position_at ps i)

  place_long : (i : ℕ) → i < asked_rows ps → length (place i lines) ≡ 256
  unfolding place
  place_long i l = length-take-le 256 (drop (256 * i) lines) (omega (arith, s.fine.places, length-drop (256 * i) lines))

  one_single : (i : ℕ) → i < asked_rows ps → (count : ℕ)
      → why_call t x (rows_to (slots t) rows (asked_rows ps) i) (position_at ps i) (record { count = count; lines = place i lines })
      ≡ record {
        answer = 0;
        lent = record {
          count = get_or (counts_over (explanation_over t x rows ps) (asked_rows ps) counts) i 0;
          lines = place i (lines_over (explanation_over t x rows ps) (asked_rows ps) lines);
        };
      }
  unfolding explanation_over
  one_single i l count =
      rw (
        count_after (explanation_over t x rows ps) counts (asked_rows ps) s.fine.counted i l,
        place_after (explanation_over t x rows ps) each_short lines (asked_rows ps) s.fine.places i l,
      )
      (why_does t s.nodes s.needed s.accepted x (rows_to (slots t) rows (asked_rows ps) i) (position_at ps i) (place i lines) count (place_long i l)
      (upto_whole (slots t) rows (asked_rows ps) i s.fine.held l) (each_right ps (asked_rows ps) i l s.fine.right))

  all_singles : Singles t x rows ps (record { lines = lines; counts = counts }) (record {
    lines = lines_over (explanation_over t x rows ps) (asked_rows ps) lines;
    counts = counts_over (explanation_over t x rows ps) (asked_rows ps) counts;
  })
  all_singles = record {
    single = one_single;
    lines_past = past_places (explanation_over t x rows ps) each_short lines (asked_rows ps) s.fine.places;
    counts_past = past_counts (explanation_over t x rows ps) counts (asked_rows ps) s.fine.counted;
    lines_long = lines_long (explanation_over t x rows ps) lines (asked_rows ps);
    counts_long = counts_long (explanation_over t x rows ps) counts (asked_rows ps);
  }

-- ONE CALL IS SINGLE CALLS: where a call for the newest rows answers 0, each row's lines and count are those of ysh_why for it alone.
pub over_is_single : (t : List ℕ) → Bytes t → (x : ℕ) (rows ps : List ℕ) (before : OverLent) → (over_call t x rows ps before).answer ≡ 0
    → Singles t x rows ps before (over_call t x rows ps before).lent
unfolding over_gives over_verdict
over_is_single t small x rows ps before zero =
    let h : Honest (over_call t x rows ps before) before (over_gives t x rows ps before) = why_over_honest t x rows ps before in
    let g = gives_only _ _ _ (h.does zero) in
    let s = seen t rows ps (length before.lines) (length before.counts) (checked t) refl g.0 in
    rw (← g.1) (all_singles t small x rows ps before.lines before.counts s)
