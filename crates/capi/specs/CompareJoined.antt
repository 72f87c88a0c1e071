-- TWO RUNS COMPARED IN C: what stands in the caller's buffer where ysh_compare answers 0, and a buffer that is always enough. Assumes nothing.
use Rattle.std.specs.Prelude.{ℕ, ◌*◌, ◌/◌, ◌^◌, ◌≤◌, min, ◌≡◌, refl, Bool, true, false, ◌&&◌, List, map, length, Err, Ok, Result}
use Rattle.words.specs.Prelude.{sym, ap, ◌∙◌, arith}
use Rattle.words.specs.{Outcome.gives}
use Rattle.differences.specs.{Lines.trades, Compared.Comparison, Compared.whole}
use Rattle.differences.specs.{Compared.compared, Truth.lines_in, Truth.Answered, Truth.Equal, Truth.enough_words}
use Rattle.differences.specs.{Truth.exchanged, Laws.AllAndOnly.stand_there, Laws.AllAndOnly.all_and_only, Laws.Enough.always_written}
use Rattle.differences.specs.{Laws.Equal.none_exactly, Laws.Exchanged.runs_exchanged}
use Rattle.replies.specs.{Call.Call, Call.answer_word, Call.call_of}
use Rattle.capi.specs.{Compare.LineRooms, Compare.compare_gives, Compare.compare_call, Laws.CompareCalls.compare_honest}
use Rattle.words.specs.{declared.refusal.Refusal.Refusal}

-- what is given was answered as lines: as many as are counted, in the buffer as it is left
lines_given : (a : Result ℕ Refusal) (room : List ℕ) (after : LineRooms) → compare_gives a room ≡ gives after → (a ≡ Ok after.count) × (room ≡ after.lines)
unfolding compare_gives
lines_given (Ok n) room after e =
    let same : record { lines = room; count = n } ≡ after = cc in
    (ap (λ (x : LineRooms). Ok x.count) same, ap (λ (x : LineRooms). x.lines) same)
lines_given (Err r) room after e = absurd (let z : ◌≡◌ {A = ℕ} 0 1 = cc in omega arith)

module _ (e t e' t' : List ℕ) (before : LineRooms) where
  abbrev call : Call LineRooms
  call = compare_call e t e' t' before

  -- where the call answers 0, the comparison below it answered lines
  below : call.answer ≡ 0 → compared e t e' t' before.lines ≡ record { answer = Ok call.lent.count; room = call.lent.lines }
  below z =
      let after = compared e t e' t' before.lines in
      let given = lines_given after.answer after.room call.lent ((compare_honest e t e' t' before).does z) in
      ap (λ (a : Result ℕ Refusal). record { answer = a; room = after.room }) given.0
      ∙ ap (λ (r : List ℕ). record { answer = Ok call.lent.count; room = r }) given.1

  -- ALL AND ONLY, of the call: the lines that stand in the buffer say all that differs and nothing else. No premise but the answer.
  pub all_and_only_in_c : call.answer ≡ 0 → Answered e t e' t' before.lines call.lent.count call.lent.lines
  all_and_only_in_c z = all_and_only e t e' t' before.lines call.lent.count call.lent.lines (below z)

  -- the count is 0 exactly where the runs are equal
  pub equal_in_c : call.answer ≡ 0 → (call.lent.count ≡ 0 → Equal e t e' t') × (Equal e t e' t' → call.lent.count ≡ 0)
  equal_in_c z = none_exactly e t e' t' before.lines call.lent.count call.lent.lines (below z)

  -- ---- a buffer that is always enough

  -- "13 here comes first"
  ragged : whole e t && whole e' t' ≡ false → call.answer ≡ 13 * 2 ^ 32
  unfolding compare_call compare_gives call_of compared answer_word
  ragged h = simp h

  module _ (room : enough_words (min (trades t) (trades t')) ≤ length before.lines) where
    -- of lists of whole records the call does its work
    pub enough_in_c : whole e t ≡ true → whole e' t' ≡ true → call.answer ≡ 0
    unfolding compare_call compare_gives call_of
    enough_in_c h i =
        ap (λ (x : Comparison). (call_of (compare_gives x.answer x.room) before).answer) (always_written e t e' t' before.lines h i room)

    -- ENOUGH: whatever the lists, the call is not refused with 10.
    pub never_ten : call.answer / 2 ^ 32 ≡ 10 → ⊥
    never_ten ten = go (whole e t) (whole e' t') refl refl
      where
        go : (p q : Bool) → whole e t ≡ p → whole e' t' ≡ q → ⊥
        go true true h i = omega (arith, enough_in_c h i, ten)
        go true false h i = omega (arith, ten, ragged (cc))
        go false q h i = omega (arith, ten, ragged (cc))

-- the runs exchanged: the same lines, their last two words exchanged
pub exchanged_in_c : (e t e' t' : List ℕ) (one two : LineRooms) →
    (let here = compare_call e t e' t' one in
    let there = compare_call e' t' e t two in
    here.answer ≡ 0 → there.answer ≡ 0 → lines_in there.lent.count there.lent.lines ≡ map exchanged (lines_in here.lent.count here.lent.lines))
exchanged_in_c e t e' t' one two y z =
    stand_there e' t' e t _ _ _ (below e' t' e t two z) ∙ runs_exchanged e t e' t'
    ∙ ap (map exchanged) (sym (stand_there e t e' t' _ _ _ (below e t e' t' one y)))
