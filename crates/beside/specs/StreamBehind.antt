-- The stream over bars behind bars: its words, and what it takes of two lists of whole bars.
use Rattle.std.specs.Prelude.{ℕ, zero, suc, ◌+◌, ◌*◌, ◌/◌, ◌%◌, ◌≤◌, ◌≡◌, refl, Bool, true, false, cond, List, [], ◌∷◌, ◌++◌, eqb, length, Err, Ok}
use Rattle.words.specs.Prelude.{sym, ◌∙◌, add-mul, div-add-mod'}
use Rattle.words.specs.Prelude.{mul-div_cancel, mul-mod_left, zero-div, arith, eq-eqb, ne_eqb, eqb-true, le-leb, length-append}
use Rattle.words.specs.{declared.refusal.Refusal.Refusal, Laws.Overwrite.overwrite-length, Limits.bar_words, Limits.most_count, Limits.most_slots, Words.word}
use Rattle.words.specs.{Words.overwrite}
use Rattle.refusals.specs.{Day.whole_bars, Laws.Lines.never, Lines.judged}
use Rattle.engine.specs.{Day.in_records}
use Rattle.accounts.specs.{Laws.Stream.records_length, Laws.Stream.more_taken, Laws.Stream.stream_fine, Stream.stream_lines, Stream.none_taken, Stream.taken_unless}
use Rattle.accounts.specs.{Stream.stream_takes, Stream.stream_taken}
use Rattle.streamed.specs.{Accounts.stream_words, Accounts.stream_after}
use Rattle.beside.specs.{Appended.records_behind, Appended.takes_behind, Appended.takes_all, Appended.takes_early, Appended.takes_ended}
use Rattle.refusals.specs.{Lines.Verdict}

-- ---- the stream's words

-- the second of two words or more, written over
two_words : (x y z : ℕ) (rest : List ℕ) → overwrite (x ∷ y ∷ rest) 1 (z ∷ []) ≡ x ∷ z ∷ rest
unfolding overwrite
two_words x y z rest = let fits : 1 + 1 ≤ length (x ∷ y ∷ rest) = omega arith in rw (le-leb _ _ fits)

-- its slots stay, its bars are so many more, and counting twice is counting both
pub record Counted (stream : List ℕ) (n m : ℕ) : Type 0 where
  pub slots : word (stream_after stream (word stream 1) n) 0 ≡ word stream 0
  pub bars : word (stream_after stream (word stream 1) n) 1 ≡ word stream 1 + n
  pub twice : stream_after (stream_after stream (word stream 1) n) (word stream 1 + n) m ≡ stream_after stream (word stream 1) (m + n)

-- so many bars more, of a stream that has its words
put_bars : (x y z k : ℕ) (rest : List ℕ) → (k ≡ 0 → ⊥) → stream_after (x ∷ z ∷ rest) y k ≡ x ∷ (y + k) ∷ rest
unfolding stream_after
put_bars x y z k rest some = rw (ne_eqb k 0 some) (two_words x z (y + k) rest)

pub counted : (stream : List ℕ) (n m : ℕ) → stream_words ≤ length stream → Counted stream n m
counted [] n m two = absurd (omega arith)
counted (x ∷ []) n m two = absurd (omega arith)
counted (x ∷ y ∷ rest) zero m two =
    let same : stream_after (x ∷ y ∷ rest) y 0 ≡ x ∷ y ∷ rest = unfold stream_after in refl in
    let none : (k : ℕ) → k + 0 ≡ k = λ k. omega arith in
    record { slots = rw same; bars = rw (same, none); twice = rw (same, none (word (x ∷ y ∷ rest) 1), none m) }
counted (x ∷ y ∷ rest) (suc n) zero two =
    let put = put_bars x y y (suc n) rest (λ e. omega (arith, e)) in
    let same : (ws : List ℕ) (k : ℕ) → stream_after ws k 0 ≡ ws = λ ws k. unfold stream_after in refl in
    let none : 0 + suc n ≡ suc n = omega arith in
    record { slots = rw put; bars = rw put; twice = rw (same, none) }
counted (x ∷ y ∷ rest) (suc n) (suc m) two =
    let put = put_bars x y y (suc n) rest (λ e. omega (arith, e)) in
    let again = put_bars x (y + suc n) (y + suc n) (suc m) rest (λ e. omega (arith, e)) in
    let once = put_bars x y y (suc m + suc n) rest (λ e. omega (arith, e)) in
    let sum : y + suc n + suc m ≡ y + (suc m + suc n) = omega arith in
    record { slots = rw put; bars = rw put; twice = rw (put, again, once, sum) }

-- and they are as many
pub stream_long : (stream : List ℕ) (seen n : ℕ) → length (stream_after stream seen n) ≡ length stream
unfolding stream_after
stream_long stream seen n = go (eqb n 0)
  where
    go : (b : Bool) → length (cond b stream (overwrite stream 1 ((seen + n) ∷ []))) ≡ length stream
    go true = refl
    go false = overwrite-length stream 1 ((seen + n) ∷ [])

-- ---- what the stream takes

-- the lines of a stream ask of its words, and of a list that it is whole bars
lines_hold : (S seen : ℕ) (bars : List ℕ) → S ≤ most_slots → seen ≤ most_count → whole_bars S bars ≡ true → judged (stream_lines S seen bars) ≡ Ok tt
unfolding stream_lines judged
lines_hold S seen bars few early whole = rw (le-leb S most_slots few, le-leb seen most_count early, whole)

-- so two lists of whole bars are judged alike
lines_alike : (S seen : ℕ) (a b : List ℕ) → whole_bars S a ≡ true → whole_bars S b ≡ true → judged (stream_lines S seen a) ≡ judged (stream_lines S seen b)
unfolding stream_lines
lines_alike S seen a b p q = rw (p, q)

abbrev bars_of : ℕ → List ℕ → List (List ℕ)
bars_of S ws = in_records (length ws / bar_words S) (bar_words S) ws

-- with lines that hold, it takes bar after bar; no bars are none
taken_is : (S seen : ℕ) (ws : List ℕ) → judged (stream_lines S seen ws) ≡ Ok tt → stream_taken S seen ws ≡ stream_takes S seen (bars_of S ws)
unfolding stream_taken taken_unless in_records stream_takes
taken_is S seen ws fine = go (eqb (length ws) 0) refl
  where
    go : (b : Bool) → eqb (length ws) 0 ≡ b
        → cond b (none_taken (Ok tt)) (taken_unless (judged (stream_lines S seen ws)) (stream_takes S seen (bars_of S ws))) ≡ stream_takes S seen (bars_of S ws)
    go true e = let none : length ws ≡ 0 = eqb-true _ _ e in rw (none, zero-div)
    go false e = rw fine

-- with one that does not, it takes nothing
taken_not : (S seen : ℕ) (x : ℕ) (ws : List ℕ) (why : Refusal) → judged (stream_lines S seen (x ∷ ws)) ≡ Err why
    → stream_taken S seen (x ∷ ws) ≡ none_taken (Err why)
unfolding stream_taken taken_unless
taken_not S seen x ws why bad = rw (ne_eqb (length (x ∷ ws)) 0 (λ e. omega (arith, e)), bad)

-- of no bars it takes none, and refuses nothing
taken_none : (S seen : ℕ) → stream_taken S seen [] ≡ none_taken (Ok tt)
unfolding stream_taken
taken_none S seen = refl

-- whole bars fill their list
whole_long : (S : ℕ) (ws : List ℕ) → whole_bars S ws ≡ true → length ws ≡ length ws / bar_words S * bar_words S
unfolding whole_bars
whole_long S ws h =
    let none : length ws % bar_words S ≡ 0 = eqb-true _ _ h in
    let sum = div-add-mod' (length ws) (bar_words S) in
    omega (arith, none, sum)

module _ (S seen : ℕ) (a b : List ℕ) (front : whole_bars S a ≡ true) (back : whole_bars S b ≡ true) where
  all_long : length (a ++ b) ≡ (length a / bar_words S + length b / bar_words S) * bar_words S
  all_long =
      let sum = add-mul (length a / bar_words S) (length b / bar_words S) (bar_words S) in
      let p = whole_long S a front in
      let q = whole_long S b back in
      length-append a b ∙ omega (arith, sum, p, q)

  pub whole_both : whole_bars S (a ++ b) ≡ true
  unfolding whole_bars
  whole_both =
      let none : length (a ++ b) % bar_words S ≡ 0 = rw all_long (mul-mod_left (length a / bar_words S + length b / bar_words S) (bar_words S)) in
      eq-eqb _ _ none

  both_bars : bars_of S (a ++ b) ≡ bars_of S a ++ bars_of S b
  both_bars =
      let many : length (a ++ b) / bar_words S ≡ length a / bar_words S + length b / bar_words S =
      rw all_long (mul-div_cancel (length a / bar_words S + length b / bar_words S) {n = bar_words S} (omega arith)) in
      rw many (records_behind (length a / bar_words S) (length b / bar_words S) (bar_words S) a b (whole_long S a front))

  -- of two lists of which the first is taken whole
  pub record Behind : Type 0 where
    pub words : length a ≡ (stream_taken S seen a).done * bar_words S
    pub both : stream_taken S seen (a ++ b) ≡ more_taken (stream_taken S seen a).done (stream_taken S (seen + (stream_taken S seen a).done) b)

  taken_behind_fine : judged (stream_lines S seen a) ≡ Ok tt → (stream_taken S seen a).verdict ≡ Ok tt → Behind
  taken_behind_fine fine all =
      let known = stream_fine S seen a fine in
      let own : stream_taken S seen a ≡ stream_takes S seen (bars_of S a) = taken_is S seen a fine in
      let verdict : (stream_takes S seen (bars_of S a)).verdict ≡ (Ok tt) = rw own at all in
      let many : (stream_taken S seen a).done ≡ length (bars_of S a) = rw own (takes_all S (bars_of S a) seen verdict) in
      let long : length (bars_of S a) ≡ length a / bar_words S = records_length (length a / bar_words S) (bar_words S) a in
      let early = takes_early S (bars_of S a) seen known.1 verdict in
      let rest : stream_taken S (seen + length (bars_of S a)) b ≡ stream_takes S (seen + length (bars_of S a)) (bars_of S b) =
      taken_is S _ b (lines_hold S _ b known.0 early back) in
      record {
        words = rw (many, long) (whole_long S a front);
        both =
            taken_is S seen (a ++ b) (lines_alike S seen (a ++ b) a whole_both front ∙ fine)
            ∙ rw (both_bars, many, rest) (takes_behind S (bars_of S a) (bars_of S b) seen verdict);
      }

pub taken_behind : (S seen : ℕ) (a b : List ℕ) (front : whole_bars S a ≡ true) (back : whole_bars S b ≡ true) → (stream_taken S seen a).verdict ≡ Ok tt
    → Behind S seen a b front back
taken_behind S seen a b front back all = go (judged (stream_lines S seen a)) refl
  where
    none : (a : List ℕ) (why : Refusal) (front : whole_bars S a ≡ true) → judged (stream_lines S seen a) ≡ Err why → (stream_taken S seen a).verdict ≡ Ok tt
        → Behind S seen a b front back
    none [] why front bad all =
        let here : seen + 0 ≡ seen = omega arith in
        let same : (n : ℕ) → n + 0 ≡ n = λ n. omega arith in
        let no : 0 * bar_words S ≡ 0 = omega arith in
        record { words = rw (taken_none S seen, no); both = rw (taken_none S seen, here, same) }
    none (x ∷ a) why front bad all = never (rw (taken_not S seen x a why bad) at all)

    go : (v : Verdict) → judged (stream_lines S seen a) ≡ v → Behind S seen a b front back
    go (Ok _) e = taken_behind_fine S seen a b front back e all
    go (Err why) e = none a why front e all

-- and of two of which the first ends it
pub taken_ended : (S seen : ℕ) (a b : List ℕ) → whole_bars S a ≡ true → whole_bars S b ≡ true → (why : Refusal) → (stream_taken S seen a).verdict ≡ Err why
    → stream_taken S seen (a ++ b) ≡ stream_taken S seen a
taken_ended S seen [] b front back why e = never (sym (rw (taken_none S seen) at e))
taken_ended S seen (x ∷ a) b front back why e = go (judged (stream_lines S seen (x ∷ a))) refl
  where
    alike : judged (stream_lines S seen (x ∷ a ++ b)) ≡ judged (stream_lines S seen (x ∷ a))
    alike = lines_alike S seen (x ∷ a ++ b) (x ∷ a) (whole_both S seen (x ∷ a) b front back) front

    go : (v : Verdict) → judged (stream_lines S seen (x ∷ a)) ≡ v → stream_taken S seen (x ∷ a ++ b) ≡ stream_taken S seen (x ∷ a)
    go (Err r) f = taken_not S seen x (a ++ b) r (alike ∙ f) ∙ sym (taken_not S seen x a r f)
    go (Ok _) f =
        let own : stream_taken S seen (x ∷ a) ≡ stream_takes S seen (bars_of S (x ∷ a)) = taken_is S seen (x ∷ a) f in
        taken_is S seen (x ∷ a ++ b) (alike ∙ f)
        ∙ rw (both_bars S seen (x ∷ a) b front back, own) (takes_ended S (bars_of S (x ∷ a)) (bars_of S b) seen why (rw own at e))
