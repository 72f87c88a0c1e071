-- The order of writing is a plan: each byte a program of its own, the mark's last byte the last. So the bytes of a dump may be torn, and the area need
-- not be cleared: it is enough that its byte 2 is not the mark's.
use Rattle.std.specs.Prelude.{ℕ, zero, suc, ◌-◌, ◌≤◌, ◌<◌, min, ◌≡◌, refl, Bool, true, false, ◌||◌, List, [], ◌∷◌, ◌++◌, eqb, length, get_or, take}
use Rattle.words.specs.Prelude.{sym, ap, ◌∙◌, ⊎_elim, eq-or-lt_of_le}
use Rattle.words.specs.Prelude.{zero-add, arith, eq-eqb, ne_eqb}
use Rattle.dump.specs.{Order.place_of, Order.stretch, Order.written}
use Rattle.restart.specs.{Laws.Programs.done_is_cut, Laws.Programs.cut_rest, Laws.Programs.plan_done, Laws.Ranks.mark_last, Laws.Ranks.mark_at}
use Rattle.restart.specs.{Laws.Ranks.ranked, Plans.touches, Plans.covers, Plans.programmed, Plans.all_programmed, Plans.in_order, Plans.Plan}

-- ---- definitions

-- the first n bytes of the order, each a program
unfoldable pub byte_by_byte : ℕ → ℕ → List (List ℕ)
byte_by_byte size zero = []
byte_by_byte size (suc n) = byte_by_byte size n ++ ((place_of size n ∷ []) ∷ [])

-- ---- programs one after another

or_assoc : (a b c : Bool) → (a || (b || c)) ≡ ((a || b) || c)
or_assoc true b c = refl
or_assoc false b c = refl

or_none : (a : Bool) → (a || false) ≡ a
or_none true = refl
or_none false = refl

or_right : (a : Bool) → (a || true) ≡ true
or_right true = refl
or_right false = refl

covers-append : (a b : List (List ℕ)) (i : ℕ) → covers (a ++ b) i ≡ (covers a i || covers b i)
unfolding covers
covers-append [] b i = refl
covers-append (p ∷ a) b i = rw (covers-append a b i) (or_assoc (touches p i) (covers a i) (covers b i))

programmed-append : (bytes : List ℕ) (a b : List (List ℕ)) (area : List ℕ)
    → all_programmed bytes (a ++ b) area ≡ all_programmed bytes b (all_programmed bytes a area)
unfolding all_programmed
programmed-append bytes [] b area = refl
programmed-append bytes (p ∷ a) b area = programmed-append bytes a b (programmed bytes p area)

one_covers : (p i : ℕ) → covers ((p ∷ []) ∷ []) i ≡ eqb p i
unfolding covers touches
one_covers p i = or_none (eqb p i || false) ∙ or_none (eqb p i)

module _ (size i : ℕ) where
  not_yet : (n : ℕ) → ((k : ℕ) → k < n → place_of size k ≡ i → ⊥) → covers (byte_by_byte size n) i ≡ false
  unfolding byte_by_byte
  not_yet zero other = unfold covers in refl
  not_yet (suc n) other =
      covers-append (byte_by_byte size n) ((place_of size n ∷ []) ∷ []) i
      ∙ rw (not_yet n (λ k l. other k (omega arith)), one_covers (place_of size n) i) (ne_eqb (place_of size n) i (other n (omega arith)))

  by_now : (n k : ℕ) → k < n → place_of size k ≡ i → covers (byte_by_byte size n) i ≡ true
  unfolding byte_by_byte
  by_now zero k l e = absurd (omega arith)
  by_now (suc n) k l e =
      covers-append (byte_by_byte size n) ((place_of size n ∷ []) ∷ []) i
      ∙ ⊎_elim
      (λ (h : k ≡ n). rw (one_covers (place_of size n) i, eq-eqb (place_of size n) i (ap (place_of size) (sym h) ∙ e)) (or_right (covers (byte_by_byte size n) i)))
      (λ (h : k < n). rw (by_now n k h e))
      (eq-or-lt_of_le {n = k} {m = n} (omega arith))

-- ---- the plan

module _ (bytes area : List ℕ) (big : 256 ≤ length bytes) where
  last_else : (i : ℕ) → (2 ≡ i → ⊥) → touches (2 ∷ []) i ≡ false
  unfolding touches
  last_else i n = rw (ne_eqb 2 i n)

  last_at : (i : ℕ) → touches (2 ∷ []) i ≡ false → 2 ≡ i → ⊥
  unfolding touches
  last_at i h e = let t : eqb 2 i ≡ true = eq-eqb 2 i e in let z : ◌≡◌ {A = ℕ} 0 1 = let h' : (true || false) ≡ false = rw t at h in cc in omega arith

  -- THE ORDER OF WRITING IS A PLAN, for any bytes over any area.
  pub order_plan : Plan bytes area (byte_by_byte (length bytes) (length bytes - 1)) (2 ∷ [])
  order_plan = record {
    off = not_yet (length bytes) 2 (length bytes - 1) (λ k l. mark_last (length bytes) k big (omega arith));
    low = λ i l. last_else i (λ e. omega arith);
    rest = λ i l c n. absurd (go i l c n);
  }
    where
      go : (i : ℕ) → i < length bytes → covers (byte_by_byte (length bytes) (length bytes - 1)) i ≡ false → touches (2 ∷ []) i ≡ false → ⊥
      go i l c n =
          let r = ranked (length bytes) i big l in
          let other : 2 ≡ i → ⊥ = last_at i n in
          let early : r.rank < length bytes - 1 = ⊎_elim
          (λ (h : r.rank ≡ length bytes - 1). absurd (other (sym (mark_at (length bytes) big) ∙ ap (place_of (length bytes)) (sym h) ∙ r.place)))
          (λ (h : r.rank < length bytes - 1). h)
          (eq-or-lt_of_le {n = r.rank} {m = length bytes - 1} (omega (arith, r.low))) in
          let t : covers (byte_by_byte (length bytes) (length bytes - 1)) i ≡ true = by_now (length bytes) i (length bytes - 1) r.rank early r.place in
          let z : ◌≡◌ {A = ℕ} 0 1 = cc in omega arith

  -- done, it is what a dump of those bytes of the order writes
  pub stretch-programmed : (n : ℕ) → all_programmed bytes (byte_by_byte (length bytes) n) area ≡ stretch bytes area 0 n
  unfolding byte_by_byte stretch
  stretch-programmed zero = unfold all_programmed in refl
  stretch-programmed (suc n) =
      programmed-append bytes (byte_by_byte (length bytes) n) ((place_of (length bytes) n ∷ []) ∷ []) area
      ∙ rw (stretch-programmed n, zero-add n) (unfold all_programmed programmed in refl)

  -- all bytes of the order are those of the plan
  all_of_order : byte_by_byte (length bytes) (suc (length bytes - 1)) ≡ in_order (byte_by_byte (length bytes) (length bytes - 1)) (2 ∷ [])
  unfolding byte_by_byte
  all_of_order = rw (mark_at (length bytes) big)

  -- A WHOLE DUMP LEAVES THE IMAGE, over any area of its size or more.
  pub all_written : length bytes ≤ length area → (n : ℕ) → length bytes ≤ n → take (length bytes) (written bytes area 0 n) ≡ bytes
  unfolding written
  all_written fits n l =
      let size = length bytes in
      let k : min n size - 0 ≡ suc (size - 1) = omega arith in
      rw (k, ← (stretch-programmed (suc (size - 1))), all_of_order)
      (plan_done bytes (2 ∷ []) (byte_by_byte size (size - 1)) area fits order_plan.rest)

  -- AND BEFORE ITS LAST BYTE THE MARK'S IS AS IT WAS.
  pub mark_stays : (n : ℕ) → n < length bytes → get_or (written bytes area 0 n) 2 0 ≡ get_or area 2 0
  unfolding written
  mark_stays n l =
      let size = length bytes in
      let k : min n size - 0 ≡ n = omega arith in
      let none : covers (byte_by_byte size n) 2 ≡ false = not_yet size 2 n (λ j h. mark_last size j big (omega arith)) in
      rw k
      (ap (λ (x : List ℕ). get_or x 2 0) (sym (stretch-programmed n))
      ∙ cut_rest bytes (byte_by_byte size n) area _ 2 none (done_is_cut bytes (byte_by_byte size n) area))
