-- ALL AND ONLY: where the comparison answers lines, those that stand in the room say what differs between the two runs, all of it and nothing else.
-- Assumes nothing.
use Rattle.std.specs.Prelude.{ℕ, ◌*◌, ◌%◌, ◌≤◌, ◌≡◌, refl, Bool, true, false, cond, ◌&&◌, List, eqb, leb, drop, length, Err, Ok, Result}
use Rattle.words.specs.Prelude.{sym, ap, subst, ◌∙◌, false≢true, eqb-true, leb-true}
use Rattle.words.specs.{declared.refusal.Refusal.Refusal, Limits.point_words, Limits.trade_words, Words.overwrite}
use Rattle.words.specs.{Laws.Overwrite.overwrite-length}
use Rattle.differences.specs.{Compared.Comparison, Compared.whole, Compared.written, Compared.compared}
use Rattle.differences.specs.{Lines.Line, Lines.differences, Lines.line_words, Lines.words_of, Truth.AllAndOnly, Truth.lines_in, Truth.Answered}
use Rattle.differences.specs.{Laws.ReadBack.lines_back, Laws.ReadBack.rest_kept, Laws.Said.lines_so}

unfoldable is_lines : Result ℕ Refusal → Bool
is_lines (Ok n) = true
is_lines (Err r) = false

unfoldable how_many : Result ℕ Refusal → ℕ
how_many (Ok n) = n
how_many (Err r) = 0

-- an answer that is lines came by the first way
by_first : (b : Bool) (x : Comparison) (r : Refusal) (room after : List ℕ) (n : ℕ)
    → cond b x (record { answer = Err r; room = room }) ≡ record { answer = Ok n; room = after }
    → (b ≡ true) × (x ≡ record { answer = Ok n; room = after })
unfolding is_lines
by_first true x r room after n e = (refl, e)
by_first false x r room after n e = absurd (false≢true (ap (λ (y : Comparison). is_lines y.answer) e))

and_first : (x y : Bool) → x && y ≡ true → x ≡ true
and_first true y e = refl
and_first false y e = e

and_second : (x y : Bool) → x && y ≡ true → y ≡ true
and_second true y e = e
and_second false y e = absurd (false≢true e)

pub whole_trades : (e t : List ℕ) → whole e t ≡ true → length t % trade_words ≡ 0
whole_trades e t h =
    eqb-true (length t % trade_words) 0 (and_second (eqb (length e % point_words) 0) (eqb (length t % trade_words) 0) h)

-- what an answer of n lines came from: lists of whole records, and all lines in the room
pub record Came (e t e' t' room : List ℕ) (n : ℕ) (after : List ℕ) : Type 0 where
  pub whole_list : length t % trade_words ≡ 0
  pub whole_other : length t' % trade_words ≡ 0
  pub count : length (differences e t e' t') ≡ n
  pub fits : line_words * length (differences e t e' t') ≤ length room
  pub stand : after ≡ overwrite room 0 (words_of (differences e t e' t'))

module _ (e t e' t' room : List ℕ) (n : ℕ) (after : List ℕ) (h : compared e t e' t' room ≡ record { answer = Ok n; room = after }) where
  abbrev ls : List Line
  ls = differences e t e' t'

  pub came : Came e t e' t' room n after
  unfolding compared written how_many
  came =
      let one = by_first (whole e t && whole e' t') (written ls room) Refusal.Records room after n h in
      let two = by_first (leb (line_words * length ls) (length room)) (record { answer = Ok (length ls); room = overwrite room 0 (words_of ls) })
      (Refusal.Room 15) room after n one.1 in
      record {
        whole_list = whole_trades e t (and_first (whole e t) (whole e' t') one.0);
        whole_other = whole_trades e' t' (and_second (whole e t) (whole e' t') one.0);
        count = ap (λ (y : Comparison). how_many y.answer) two.1;
        fits = leb-true (line_words * length ls) (length room) two.0;
        stand = sym (ap (λ (y : Comparison). y.room) two.1);
      }

  -- the lines that stand in the room are those of the definition
  pub stand_there : lines_in n after ≡ ls
  stand_there =
      ap (λ (m : ℕ). lines_in m after) (sym came.count) ∙ ap (lines_in (length ls)) came.stand ∙ lines_back room ls came.fits

  -- ALL AND ONLY. No premise but the answer.
  pub all_and_only : Answered e t e' t' room n after
  all_and_only = record {
    fits = subst (λ (m : ℕ). line_words * m ≤ length room) came.count came.fits;
    so = subst (AllAndOnly e t e' t') (sym stand_there) (lines_so e t e' t');
    rest = subst (λ (m : ℕ). drop (line_words * m) after ≡ drop (line_words * m) room) came.count
        (ap (drop (line_words * length ls)) came.stand ∙ rest_kept room ls came.fits);
    long = ap length came.stand ∙ overwrite-length room 0 (words_of ls);
  }
