-- What a comparison answers and leaves, by its answer: one law for each way out.
use Rattle.std.specs.Prelude.{Err, Ok, Result, ℕ}
use Rattle.words.specs.Prelude.{ℕ, ◌*◌, ◌≡◌, sym, ap, ◌∙◌, Bool, true, false, cond, ◌&&◌, List, arith, leb, length}
use Rattle.words.specs.{declared.refusal.Refusal.Refusal, Words.overwrite}
use Rattle.differences.specs.{Lines.line_words, Lines.differences, Lines.words_of, Compared.Comparison, Compared.compared, Compared.written, Compared.whole}
use Rattle.replies.specs.{Call.answer_word, Call.call_of}
use Rattle.capi.specs.{Compare.compare_gives, Compare.compare_call}

no_lines : {A : Type 0} {r : Refusal} {n : ℕ} → Ok n ≡ Err r → A
no_lines e = absurd (let z : ◌≡◌ {A = ℕ} 0 1 = cc in omega arith)

-- by both tests: where the answer is a refusal, the buffer is as it was
kept_by : (p q : Bool) (n : ℕ) (room after : List ℕ) (a b why : Refusal)
    → (cond {A = Comparison} p (cond q (record { answer = Ok n; room = after }) (record { answer = Err a; room = room }))
    (record { answer = Err b; room = room })).answer ≡ Err why
    → cond {A = Comparison} p (cond q (record { answer = Ok n; room = after }) (record { answer = Err a; room = room }))
    (record { answer = Err b; room = room }) ≡ record { answer = Err why; room = room }
kept_by true true n room after a b why e = no_lines e
kept_by true false n room after a b why e = ap (λ (x : Result ℕ Refusal). record { answer = x; room = room }) e
kept_by false q n room after a b why e = ap (λ (x : Result ℕ Refusal). record { answer = x; room = room }) e

module _ (e t e' t' room : List ℕ) (count : ℕ) (r : Result ℕ Refusal) (after : List ℕ) (did : compared e t e' t' room ≡ record { answer = r; room = after }) where
  -- a refusal keeps all that was lent
  pub compare_refused : {why : Refusal} {a : ℕ} → r ≡ Err why → a ≡ answer_word why
      → compare_call e t e' t' (record { lines = room; count = count }) ≡ record { answer = a; lent = record { lines = after; count = count } }
  unfolding compare_call compare_gives call_of compared written
  compare_refused {why} {a} refused word =
      let kept : compared e t e' t' room ≡ record { answer = Err why; room = room }
      = kept_by (whole e t && whole e' t') (leb (line_words * length (differences e t e' t')) (length room)) (length (differences e t e' t')) room
      (overwrite room 0 (words_of (differences e t e' t'))) _ _ why (ap (λ (x : Comparison). x.answer) did ∙ refused) in
      let same = ap (λ (x : Comparison). x.room) (sym did ∙ kept) in
      simp (kept, word, same)

  -- the lines, and how many
  pub compare_told : {n : ℕ} → r ≡ Ok n
      → compare_call e t e' t' (record { lines = room; count = count }) ≡ record { answer = 0; lent = record { lines = after; count = n } }
  unfolding compare_call compare_gives call_of
  compare_told told = simp (did, told)
