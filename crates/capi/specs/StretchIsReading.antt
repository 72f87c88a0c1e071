-- Request 10 in the words of the C calls: rooms filled from empty by ysh_append, each answered 0, and any ysh_stretch over bars that they hold.
use Rattle.std.specs.Prelude.{ℕ, ◌+◌, ◌-◌, ◌<◌, ◌≤◌, ◌≡◌, List, [], ◌∷◌, ◌++◌, Err, Ok, Result}
use Rattle.words.specs.Prelude.{sym, ap, subst, ◌∙◌, arith}
use Rattle.words.specs.{Outcome.gives}
use Rattle.blocks.specs.{declared.best.Best.Best, Append.Append, Append.appended, Reading.reading, Reading.HighAndLow}
use Rattle.blocks.specs.{Stretch.stretched, Laws.Append.appended_has, Laws.Append.is_taken, StretchIsReading.Filled, StretchIsReading.empty}
use Rattle.blocks.specs.{StretchIsReading.then, StretchIsReading.stretch_is_reading}
use Rattle.replies.specs.{Call.Call, Call.call_of}
use Rattle.capi.specs.{Stretch.BlockRooms, Stretch.append_gives, Stretch.append_call, Stretch.stretch_gives, Stretch.stretch_call}
use Rattle.capi.specs.{Laws.StretchCalls.append_honest}
use Rattle.words.specs.{declared.refusal.Refusal.Refusal}

-- closes appended one after another, each call answered 0, to rooms with no bar held and any words
pub data Appended : List ℕ → BlockRooms → Type 0 where
  none : (closes blocks : List ℕ) → Appended [] (record { held = 0; closes = closes; blocks = blocks })
  more : {given : List ℕ} {rooms : BlockRooms} → Appended given rooms → (close : ℕ) → (append_call close rooms).answer ≡ 0
      → Appended (given ++ (close ∷ [])) (append_call close rooms).lent

-- what ysh_stretch answers and writes over them
pub record TellsReading (given : List ℕ) (first last : ℕ) (call : Call Best) : Type 0 where
  pub answers : call.answer ≡ 0
  pub read : call.lent ≡ reading given first (last - first)
  pub best_is : HighAndLow given first last call.lent

-- ---- an append that answers 0 is one that is taken

given_up : (a : Result ℕ Refusal) (closes blocks : List ℕ) (after : BlockRooms) → append_gives a closes blocks ≡ gives after
    → (a ≡ Ok after.held) × (after ≡ record { held = after.held; closes = closes; blocks = blocks })
unfolding append_gives
given_up (Ok bars) closes blocks after e = let same : record { held = bars; closes = closes; blocks = blocks } ≡ after = cc in
    (ap (λ (r : BlockRooms). Ok r.held) same, sym same ∙ ap (λ (r : BlockRooms). record { held = r.held; closes = closes; blocks = blocks }) same)
given_up (Err why) closes blocks after e = absurd (let z : ◌≡◌ {A = ℕ} 0 1 = cc in omega arith)

filled : {given : List ℕ} {rooms : BlockRooms} → Appended given rooms → Filled given rooms.held rooms.closes rooms.blocks
filled (none closes blocks) = empty closes blocks
filled (more {given} {rooms} f close e) =
    let after = appended rooms.held close rooms.closes rooms.blocks in
    let up = given_up after.answer after.closes after.blocks _ ((append_honest close rooms).does e) in
    let taken = is_taken rooms.held close rooms.closes rooms.blocks (appended_has rooms.held close rooms.closes rooms.blocks up.0) in
    let held = ap (λ (x : Append). x.answer) taken in
    let next : (append_call close rooms).lent.held ≡ rooms.held + 1 = cc in
    subst (λ (r : BlockRooms). Filled (given ++ (close ∷ [])) r.held r.closes r.blocks)
    (sym (up.1 ∙ ap (λ (n : ℕ). record { held = n; closes = after.closes; blocks = after.blocks }) next)) (then (filled f) close held)

-- ---- a question that finds answers 0, with what it found

told : (f : Result Best Refusal) (b before : Best) → f ≡ Ok b → call_of (stretch_gives f) before ≡ record { answer = 0; lent = b }
unfolding stretch_gives call_of
told f b before e = simp e

-- A CALL OF THE QUESTION TELLS WHAT READING EVERY CLOSE TELLS.
pub stretch_call_is_reading : {given : List ℕ} {rooms : BlockRooms} → Appended given rooms → (first last : ℕ) → first ≤ last → last < rooms.held
    → (before : Best) → TellsReading given first last (stretch_call rooms.held first last rooms.closes rooms.blocks before)
unfolding stretch_call
stretch_call_is_reading {given} {rooms} f first last order exists before =
    let is = stretch_is_reading (filled f) first last order exists in
    let call = told (stretched rooms.held first last rooms.closes rooms.blocks) is.best before is.found in
    let best = ap (λ (c : Call Best). c.lent) call in
    record {
      answers = ap (λ (c : Call Best). c.answer) call;
      read = best ∙ is.read;
      best_is = subst (HighAndLow given first last) (sym best) is.best_is;
    }
