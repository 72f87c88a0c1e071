-- What an append answers and leaves, by the answer of the room's own: one law for each way out.
use Rattle.std.specs.Prelude.{Err, Ok, Result, ℕ}
use Rattle.words.specs.Prelude.{ℕ, ◌≡◌, sym, ap, ◌∙◌, List}
use Rattle.words.specs.{declared.refusal.Refusal.Refusal}
use Rattle.blocks.specs.{Append.Append}
use Rattle.blocks.specs.{Append.appended, Laws.Append.refusal_keeps}
use Rattle.replies.specs.{Call.answer_word, Call.call_of}
use Rattle.capi.specs.{Stretch.append_gives, Stretch.append_call}

module _ (held close : ℕ) (closes blocks : List ℕ) (r : Result ℕ Refusal) (after behind : List ℕ)
    (did : appended held close closes blocks ≡ record { answer = r; closes = after; blocks = behind }) where
  -- a refusal keeps all that was lent
  pub append_refused : {why : Refusal} {a : ℕ} → r ≡ Err why → a ≡ answer_word why
      → append_call close (record { held = held; closes = closes; blocks = blocks })
      ≡ record { answer = a; lent = record { held = held; closes = after; blocks = behind } }
  unfolding append_call append_gives call_of
  append_refused {why} {a} refused word =
      let kept = refusal_keeps held close closes blocks why (ap (λ (x : Append). x.answer) did ∙ refused) in
      let same = ap (λ (x : Append). x.closes) (sym did ∙ kept) in
      let alike = ap (λ (x : Append). x.blocks) (sym did ∙ kept) in
      simp (kept, word, same, alike)

  -- a bar more
  pub append_taken : {bars : ℕ} → r ≡ Ok bars
      → append_call close (record { held = held; closes = closes; blocks = blocks })
      ≡ record { answer = 0; lent = record { held = bars; closes = after; blocks = behind } }
  unfolding append_call append_gives call_of
  append_taken taken = simp (did, taken)
