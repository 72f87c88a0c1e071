-- Rows that do not move are read, and added to, as if they did.
use Rattle.std.specs.Prelude.{ℕ, ◌/◌, ◌≡◌, refl, Bool, true, false, cond, List, eqb, Float, length, Err, Ok, Result}
use Rattle.words.specs.Prelude.{ap, ◌∙◌, arith, eqb-true}
use Rattle.rows.specs.{declared.ring.Ring.Ring, History.history_of, History.width, History.last_rows, Laws.Ring.RingFine, Laws.Ring.ring_adds}
use Rattle.rows.specs.{Laws.Ring.ring_none, Laws.Ring.held_turned, Laws.Turned.turned_none, Ring.ring_of, Ring.turned, Room.with_row, Room.held_with}
use Rattle.rules.specs.{declared.position.PositionState.PositionState}
use Rattle.portfolio.specs.{declared.Candle.Candle}
use Rattle.execution.specs.{RingEntry.entry_turned}
use Rattle.steps.specs.{declared.machine.Ran.Ran, AnyList.ring_any, WellFormed.formed}
use Rattle.records.specs.{declared.settings.Settings.Settings, declared.state.Order.Order, declared.state.Position.Position, Lent.Lists}
use Rattle.refusals.specs.{Laws.Lines.first_holds, Lines.judged, Lists.is_well, Lists.list_lines}
use Rattle.engine.specs.{declared.account.Due.Due, declared.account.Due.TheVariants.Waits, declared.account.Due.TheVariants.Enters}
use Rattle.engine.specs.{declared.account.Due.TheVariants.Leaves, declared.record.Place.Place, Account.entry_filled, Account.due_of, Account.done_of}
use Rattle.engine.specs.{Account.filled, Decide.list_says, Decide.answers_of, Decide.state_at, Decide.decided, InPlace.kept_ring, InPlace.kept_room}
use Rattle.engine.specs.{InPlace.row_placed, InPlace.PlaceFor, InPlace.read_from, InPlace.decided_from, Laws.Lengths.row_long, Laws.Lengths.row_fits}
use Rattle.engine.specs.{Record.row_of, Record.held_rows}
use Rattle.refusals.specs.{declared.day.Span.Span, declared.day.Span.TheVariants.One, declared.day.Span.TheVariants.Many}

-- ---- lists

well : (f : Result (Unit {0}) ℕ) → is_well f ≡ true → f ≡ Ok tt
well (Ok _) e = refl
well (Err p) e = absurd (let z : ◌≡◌ {A = ℕ} 0 1 = cc in omega arith)

-- the four lists of a call, each well formed
record AllWell (K D : ℕ) (ls : Lists) : Type 0 where
  entry : formed K D ls.entry ≡ Ok tt
  «exit» : formed K D ls.«exit» ≡ Ok tt
  short_entry : formed K D ls.short_entry ≡ Ok tt
  short_exit : formed K D ls.short_exit ≡ Ok tt

all_well : (K D : ℕ) (ls : Lists) → judged (list_lines K D ls) ≡ Ok tt → AllWell K D ls
unfolding list_lines
all_well K D ls h =
    let a = first_holds _ _ h in
    let b = first_holds _ _ a.1 in
    let c = first_holds _ _ b.1 in
    let d = first_holds _ _ c.1 in
    record { entry = well _ a.0; «exit» = well _ b.0; short_entry = well _ c.0; short_exit = well _ d.0 }

-- ---- reading

filled-turned : (K start : ℕ) (ws : List ℕ) (due : Due) (s : Settings) (p : Position) (k : Candle) (n : ℕ)
    → done_of due s p k (ring_of K start ws) n ≡ done_of due s p k (history_of K (turned (width K) start ws)) n
unfolding done_of entry_filled
filled-turned K start ws (Waits o) s p k n = refl
filled-turned K start ws (Enters side kind price) s p k n = rw (entry_turned K start ws)
filled-turned K start ws Leaves s p k n = refl

says_turned : (K D start : ℕ) (ws list : List ℕ) (st : PositionState) → formed K D list ≡ Ok tt
    → list_says (ring_of K start ws) st list ≡ list_says (history_of K (last_rows K D (turned (width K) start ws))) st list
unfolding list_says
says_turned K D start ws list st w = ap (λ (r : Ran). r.answer) (ring_any K D start ws list st w)

module _ (s : Settings) (ls : Lists) (fine : judged (list_lines s.slots s.depth ls) ≡ Ok tt) where
  answers_turned : (start : ℕ) (ws : List ℕ) (st : PositionState)
      → answers_of (ring_of s.slots start (read_from s.slots s.depth start ws)) st ls
      ≡ answers_of (history_of s.slots (last_rows s.slots s.depth (turned (width s.slots) start ws))) st ls
  unfolding answers_of read_from
  answers_turned start ws st = go (eqb start 0) refl
    where
      K : ℕ
      K = s.slots

      D : ℕ
      D = s.depth

      go : (b : Bool) → eqb start 0 ≡ b
          → answers_of (ring_of K start (cond b (last_rows K D ws) ws)) st ls ≡ answers_of (history_of K (last_rows K D (turned (width K) start ws))) st ls
      go true e = rw (eqb-true start 0 e, turned_none, ring_none)
      go false e =
          let w = all_well K D ls fine in
          unfold answers_of in
          rw (
            says_turned K D start ws ls.entry st w.entry,
            says_turned K D start ws ls.«exit» st w.«exit»,
            says_turned K D start ws ls.short_entry st w.short_entry,
            says_turned K D start ws ls.short_exit st w.short_exit,
          )

module _ (s : Settings) (rows : List ℕ) (ring : Ring) (ok : RingFine (length rows / width s.slots) ring) where
  -- the rows held, as they would stand
  held_in_place : held_rows s.slots ring.held (turned (width s.slots) ring.start rows)
      ≡ turned (width s.slots) ring.start (held_rows s.slots ring.held rows)
  unfolding held_rows
  held_in_place = held_turned (width s.slots) ring rows (omega arith) ok

  -- THE FILL over rows that did not move
  pub fill_in_place : (o : Order) (p : Position) (k : Candle) (n : ℕ)
      → filled s o p k (ring_of s.slots ring.start (held_rows s.slots ring.held rows)) n
      ≡ filled s o p k (history_of s.slots (held_rows s.slots ring.held (turned (width s.slots) ring.start rows))) n
  unfolding filled
  fill_in_place o p k n = rw held_in_place (filled-turned s.slots ring.start (held_rows s.slots ring.held rows) (due_of o k) s p k n)

  -- WHAT IS DECIDED over them
  pub decide_in_place : (ls : Lists) → judged (list_lines s.slots s.depth ls) ≡ Ok tt → (o : Order) (p : Position) (n : ℕ) (close : Float)
      → decided_from s o p n close ring.start (held_rows s.slots ring.held rows) ls
      ≡ decided s o p n close (held_rows s.slots ring.held (turned (width s.slots) ring.start rows)) ls
  unfolding decided_from decided
  decide_in_place ls fine o p n close = rw (held_in_place, answers_turned s ls fine ring.start (held_rows s.slots ring.held rows) (state_at p n))

-- ---- writing

-- A row more, kept in place: turned, the room is what it was, turned, with that row added.
pub record Keeps (span : Span) (K : ℕ) (room : List ℕ) (before : Ring) (bar : List ℕ) (after : Ring) (rows : List ℕ) : Type 0 where
  pub holds : after.held ≡ held_with (turned (width K) before.start room) before.held (row_of K bar)
  pub turns : turned (width K) after.start rows ≡ with_row (turned (width K) before.start room) before.held (row_of K bar)
  pub ring : RingFine (length rows / width K) after
  pub first : span ≡ One → after.start ≡ 0

keeps : (span : Span) (K : ℕ) (room : List ℕ) (before : Ring) (bar : List ℕ) → RingFine (length room / width K) before → (span ≡ One → before.start ≡ 0)
    → Keeps span K room before bar (kept_ring span room before (row_of K bar)) (kept_room span room before (row_of K bar))
unfolding kept_ring kept_room
keeps One K room before bar ok first =
    let fits = row_fits K room before.held bar in
    let zero : before.start ≡ 0 = first refl in
    record {
      holds = rw (zero, turned_none);
      turns = rw (zero, turned_none, turned_none);
      ring = rw fits.1 (record { few = fits.0; begins = λ h. refl; within = omega (arith, ok.within) });
      first = λ h. refl;
    }
keeps Many K room before bar ok first =
    let w : length (row_of K bar) ≡ width K = row_long K bar in
    let a = ring_adds room before (row_of K bar) (omega (arith, w)) (rw w ok) in
    record {
      holds = rw w at a.holds;
      turns = rw w at a.turns;
      ring = rw w at a.fine;
      first = λ h. absurd (let z : ◌≡◌ {A = ℕ} 0 1 = cc in omega arith);
    }

-- THE ROW WRITTEN AT ITS PLACE is added to the rows as they would stand
pub placed : (span : Span) (K : ℕ) (room : List ℕ) (before : Ring) (bar : List ℕ) → RingFine (length room / width K) before → (span ≡ One → before.start ≡ 0)
    → {p : Place} → PlaceFor span (width K) room before p → {rows : List ℕ} → rows ≡ row_placed room p (row_of K bar)
    → Keeps span K room before bar p.ring rows
placed span K room before bar ok first place was =
    let long = row_long K bar in
    rw (place.ring (row_of K bar) long, was ∙ place.added (row_of K bar) long) (keeps span K room before bar ok first)
