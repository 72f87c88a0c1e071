-- The rows that a room holds, and the last D of them, when a row is added.
use Rattle.std.specs.Prelude.{ℕ, ◌+◌, ◌-◌, ◌*◌, ◌/◌, ◌≤◌, ◌<◌, ◌≡◌, refl, Bool, true, false, List, ◌++◌, ltb, length, take, drop}
use Rattle.words.specs.Prelude.{sym, ap, ◌∙◌, add-mul, le-div_iff_mul-le}
use Rattle.words.specs.Prelude.{mul-add-div_right, mul-div_cancel, mul-le-mul_right, arith, ltb-true, ltb-false, lt-ltb, le-ltb, ne_eqb}
use Rattle.words.specs.Prelude.{length-append, length-drop, length-take-le, drop-drop, take_at}
use Rattle.rows.specs.{History.width, History.last_rows, Room.with_row, Room.held_with}
use Rattle.engine.specs.{Record.held_rows}
use Rattle.std.proofs.lemmas.List.{drop-append-le}

-- ---- the last D rows of any list of words

module _ (K D : ℕ) where
  -- dropping rows that are older than the last D changes nothing
  last_drop : (j : ℕ) (ws : List ℕ) → j ≤ length ws / (width K) - D → j ≤ length ws / (width K)
      → last_rows K D (drop (j * (width K)) ws) ≡ last_rows K D ws
  unfolding last_rows
  last_drop j ws h k =
      let inside : j * (width K) ≤ length ws = (le-div_iff_mul-le {k = width K} (omega arith)).0 k in
      let rest : ℕ = length ws - j * (width K) in
      let split : length ws ≡ j * (width K) + rest = omega arith in
      let count : length ws / (width K) ≡ j + rest / (width K) =
      ap (λ (n : ℕ). n / (width K)) split ∙ mul-add-div_right {m = width K} (omega arith) j rest in
      let gone : j * (width K) + (rest / (width K) - D) * (width K) ≡ (length ws / (width K) - D) * (width K) =
      sym (add-mul j (rest / (width K) - D) (width K)) ∙ ap (λ (n : ℕ). n * (width K)) (omega arith) in
      rw (length-drop, drop-drop, gone)

  -- the last D of the last D are these
  pub last_of_last : (ws : List ℕ) → last_rows K D (last_rows K D ws) ≡ last_rows K D ws
  unfolding last_rows
  last_of_last ws = last_drop (length ws / (width K) - D) ws (omega arith) (omega arith)

  module _ (ws row : List ℕ) (long : length row ≡ width K) where
    -- with a row, they are one more
    one_more : length (ws ++ row) / (width K) ≡ 1 + length ws / (width K)
    one_more =
        let sum : length (ws ++ row) ≡ 1 * (width K) + length ws = omega (arith, length-append ws row) in
        ap (λ (n : ℕ). n / (width K)) sum ∙ mul-add-div_right {m = width K} (omega arith) 1 (length ws)

    -- THE WINDOW AND A ROW: the last D of rows and one more are the last D of the last D before, and it.
    pub last_added : last_rows K D (ws ++ row) ≡ last_rows K D (last_rows K D ws ++ row)
    unfolding last_rows
    last_added =
        let g : ℕ = length ws / (width K) - D in
        let older : g * (width K) ≤ length ws = (le-div_iff_mul-le {k = width K} (omega arith)).0 (omega arith) in
        rw (← (drop-append-le (g * (width K)) ws row older))
        (sym (last_drop g (ws ++ row) (omega (arith, one_more)) (omega (arith, one_more))))

    -- so they are where the oldest row goes
    last_moved : 1 ≤ length ws / (width K) → D ≤ length ws / (width K) → last_rows K D (drop (width K) ws ++ row) ≡ last_rows K D (ws ++ row)
    last_moved one h =
        let once : 1 * (width K) ≡ width K = omega arith in
        let there : width K ≤ length ws = rw once at ((le-div_iff_mul-le {k = width K} (omega arith)).0 one) in
        rw (← (drop-append-le (width K) ws row there)) (rw once at (last_drop 1 (ws ++ row) (omega (arith, one_more)) (omega (arith, one_more))))

-- ---- a room

module _ (K : ℕ) (room : List ℕ) (held : ℕ) (row : List ℕ) (long : length row ≡ width K) where
  -- the rows in a room's places are whole
  whole : (n : ℕ) → n ≤ length room / (width K) → length (take (n * (width K)) room) ≡ n * (width K)
  whole n b = length-take-le (n * (width K)) room ((le-div_iff_mul-le {k = width K} (omega arith)).0 b)

  -- where there is a place, the row stands after those held
  pub row_added : held < length room / (width K) → held_rows K (held_with room held row) (with_row room held row) ≡ held_rows K held room ++ row
  unfolding held_rows held_with with_row
  row_added h =
      let old : List ℕ = take (held * (width K)) room in
      let w = whole held (omega arith) in
      rw (long, lt-ltb held (length room / (width K)) h)
      (take_at (old ++ row) (drop (held * (width K) + (width K)) room) ((held + 1) * (width K)) (omega (arith, length-append old row)))

  -- where there is none, the oldest goes
  row_moved : 0 < length room / (width K) → held ≡ length room / (width K)
      → held_rows K (held_with room held row) (with_row room held row) ≡ drop (width K) (held_rows K held room) ++ row
  unfolding held_rows held_with with_row
  row_moved some full =
      let P : ℕ = length room / (width K) in
      let old : List ℕ = take (P * (width K)) room in
      let w = whole P (omega arith) in
      let there : 1 * (width K) ≤ P * (width K) = mul-le-mul_right (width K) some in
      rw (long, le-ltb held P (omega arith), ne_eqb P 0 (λ z. omega arith), full)
      (take_at (drop (width K) old ++ row) (drop (P * (width K)) room) (P * (width K))
      (omega (arith, there, length-append (drop (width K) old) row, length-drop (width K) old)))

  -- how many rows are held
  held_count : held ≤ length room / (width K) → length (held_rows K held room) / (width K) ≡ held
  unfolding held_rows
  held_count h = ap (λ (n : ℕ). n / (width K)) (whole held h) ∙ mul-div_cancel held {n = width K} (omega arith)

  -- THE WINDOW of a room to which a row is added, whether or not it had a place for one more
  pub window_added : (D : ℕ) → 1 ≤ D → D ≤ length room / (width K) → held ≤ length room / (width K)
      → last_rows K D (held_rows K (held_with room held row) (with_row room held row)) ≡ last_rows K D (held_rows K held room ++ row)
  window_added D some fit h = go (ltb held (length room / (width K))) refl
    where
      go : (b : Bool) → ltb held (length room / (width K)) ≡ b
          → last_rows K D (held_rows K (held_with room held row) (with_row room held row)) ≡ last_rows K D (held_rows K held room ++ row)
      go true e = rw (row_added (ltb-true held _ e))
      go false e =
          let count = held_count h in
          rw (row_moved (omega arith) (omega (arith, ltb-false held _ e)))
          (last_moved K D (held_rows K held room) row long (omega (arith, count, ltb-false held _ e)) (omega (arith, count, ltb-false held _ e)))
