-- What a call for many rows that is judged fine has been seen to have.
use Rattle.std.specs.Prelude.{ℕ, ◌*◌, ◌/◌, ◌≤◌, ◌≡◌, true, List, Ok}
use Rattle.words.specs.Prelude.{arith, leb-true}
use Rattle.rows.specs.{History.history_of, History.whole_rows}
use Rattle.refusals.specs.{Lines.judged, Laws.Lines.first_holds}
use Rattle.questions.specs.{Position.all_right, Over.asked_rows, Over.place_words, Over.over_lines}

pub record OverFine (K : ℕ) (rows ps : List ℕ) (lines counts : ℕ) : Type 0 where
  pub places : place_words * asked_rows ps ≤ lines
  pub counted : asked_rows ps ≤ counts
  pub whole : whole_rows K rows ≡ true
  pub held : asked_rows ps ≤ (history_of K rows).rows
  pub right : all_right ps (asked_rows ps) ≡ true

pub over_fine : (K : ℕ) (rows ps : List ℕ) (lines counts : ℕ) → judged (over_lines K rows ps lines counts) ≡ Ok tt → OverFine K rows ps lines counts
unfolding over_lines
over_fine K rows ps lines counts h =
    let a = first_holds _ _ h in
    let room : asked_rows ps ≤ lines / place_words = leb-true _ _ a.0 in
    let b = first_holds _ _ a.1 in
    let c = first_holds _ _ b.1 in
    let d = first_holds _ _ c.1 in
    let e = first_holds _ _ d.1 in
    record {
      places = omega (arith, room);
      counted = leb-true _ _ b.0;
      whole = c.0;
      held = leb-true _ _ e.0;
      right = (first_holds _ _ e.1).0;
    }
