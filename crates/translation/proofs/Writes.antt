-- Laws of writing bytes into a room. Assumes nothing.
use Rattle.words.specs.Prelude.{ℕ, suc, ◌+◌, ◌*◌, ◌/◌, ◌%◌, ◌<◌, ◌≤◌, ◌≡◌, refl, sym, ap, ◌∙◌, List, [], ◌∷◌, ◌++◌, append_assoc, arith, length, set, take}
use Rattle.words.specs.Prelude.{drop, length-set, length-append}
use Rattle.steps.specs.{declared.step.Op.Op, Bytes.write_at, Bytes.write_from, Bytes.bytes_of, Bytes.step_bytes, Bytes.step_of, Bytes.fields, Bytes.four}
use Rattle.steps.specs.{Bytes.eight, Bytes.written, Bytes.Fits, Bytes.Wrote, Laws.Encoding.steps_long}
use lib.Seq.{set_comm, set-set, sets, sets-eq}

length_from : (l : List ℕ) (i j : ℕ) (vs : List ℕ) → length (write_from l i j vs) ≡ length l
length_from l i j [] = refl
length_from l i j (v ∷ vs) = length_from (set l (i + j) v) i (suc j) vs ∙ length-set l (i + j) v

pub length_write : (l : List ℕ) (i : ℕ) (vs : List ℕ) → length (write_at l i vs) ≡ length l
unfolding write_at
length_write l i vs = length_from l i 0 vs

-- what is written j places on is written from i + j
shift : (l : List ℕ) (i j k : ℕ) (vs : List ℕ) → write_from l i (j + k) vs ≡ write_from l (i + j) k vs
shift l i j k [] = refl
shift l i j k (v ∷ vs) =
    let at : i + (j + k) ≡ i + j + k = omega arith in
    let on : suc (j + k) ≡ j + suc k = omega arith in
    rw (at, on) (shift (set l (i + j + k) v) i j (suc k) vs)

append_from : (l : List ℕ) (i j : ℕ) (xs ys : List ℕ) → write_from l i j (xs ++ ys) ≡ write_from (write_from l i j xs) i (j + length xs) ys
append_from l i j [] ys = ap (λ (n : ℕ). write_from l i n ys) (omega arith)
append_from l i j (x ∷ xs) ys =
    append_from (set l (i + j) x) i (suc j) xs ys ∙ ap (λ (n : ℕ). write_from (write_from (set l (i + j) x) i (suc j) xs) i n ys) (omega arith)

pub write_append : (l : List ℕ) (i : ℕ) (xs ys : List ℕ) → write_at l i (xs ++ ys) ≡ write_at (write_at l i xs) (i + length xs) ys
unfolding write_at
write_append l i xs ys =
    append_from l i 0 xs ys ∙ ap (λ (n : ℕ). write_from (write_from l i 0 xs) i n ys) (omega arith) ∙ shift (write_from l i 0 xs) i (length xs) 0 ys

pub bytes_append : (xs ys : List Op) → bytes_of (xs ++ ys) ≡ bytes_of xs ++ bytes_of ys
unfolding bytes_of
bytes_append [] ys = refl
bytes_append (x ∷ xs) ys = rw (bytes_append xs ys) (sym (append_assoc (step_bytes (step_of x)) (bytes_of xs) (bytes_of ys)))

-- steps written from place `at` on, and then more
pub then : (l : List ℕ) (at : ℕ) (xs ys : List Op) → written (written l at xs) (at + length xs) ys ≡ written l at (xs ++ ys)
then l at xs ys =
    let on : 16 * (at + length xs) ≡ 16 * at + length (bytes_of xs) = omega (arith, steps_long xs) in
    rw (bytes_append xs ys, on) (sym (write_append l (16 * at) (bytes_of xs) (bytes_of ys)))

-- one step
pub one : (l : List ℕ) (i : ℕ) (x : Op) → write_at l i (step_bytes (step_of x)) ≡ write_at l i (bytes_of (x ∷ []))
unfolding bytes_of step_bytes
one l i x = refl

pub four_sets : (l : List ℕ) (p a b c d : ℕ) → set (set (set (set l p a) (p + 1) b) (p + 2) c) (p + 3) d ≡ write_at l p (a ∷ b ∷ c ∷ d ∷ [])
unfolding write_at
four_sets l p a b c d = ap (λ (q : ℕ). set (set (set (set l q a) (p + 1) b) (p + 2) c) (p + 3) d) (omega arith)

-- a step's bytes, four at a time
pub step_written : (l : List ℕ) (p k s skip n b : ℕ)
    → write_at (write_at (write_at (write_at l p (k ∷ s % 256 ∷ skip % 256 ∷ skip / 256 % 256 ∷ [])) (p + 4) (four n)) (p + 8) (four (b % 4294967296))) (p + 12)
    (four (b / 4294967296))
    ≡ write_at l p (step_bytes (fields k s skip n b))
unfolding step_bytes
step_written l p k s skip n b =
    let e8 : p + 8 ≡ p + 4 + 4 = omega arith in
    let e12 : p + 12 ≡ p + 4 + 4 + 4 = omega arith in
    let first : List ℕ = k ∷ s % 256 ∷ skip % 256 ∷ skip / 256 % 256 ∷ [] in
    rw (e12, e8) (sym (
    write_append l p first (four n ++ eight b)
    ∙ write_append (write_at l p first) (p + 4) (four n) (eight b)
    ∙ write_append (write_at (write_at l p first) (p + 4) (four n)) (p + 4 + 4) (four (b % 4294967296)) (four (b / 4294967296))))

-- a byte set before what is written
set_before : (l : List ℕ) (p v i j : ℕ) (ys : List ℕ) → p < i + j → set (write_from l i j ys) p v ≡ write_from (set l p v) i j ys
set_before l p v i j [] lt = refl
set_before l p v i j (y ∷ ys) lt =
    set_before (set l (i + j) y) p v i (suc j) ys (omega arith)
    ∙ ap (λ (m : List ℕ). write_from m i (suc j) ys) (set_comm l (i + j) p y v (λ e. absurd (omega arith)))

-- bytes written before what is written
from_before : (l : List ℕ) (a b i j : ℕ) (xs ys : List ℕ) → a + b + length xs ≤ i + j
    → write_from (write_from l i j ys) a b xs ≡ write_from (write_from l a b xs) i j ys
from_before l a b i j [] ys le = refl
from_before l a b i j (x ∷ xs) ys le =
    rw (set_before l (a + b) x i j ys (omega arith)) (from_before (set l (a + b) x) a (suc b) i j xs ys (omega arith))

-- what stands first may be written last
write_before : (l : List ℕ) (i : ℕ) (xs ys : List ℕ) → write_at (write_at l (i + length xs) ys) i xs ≡ write_at l i (xs ++ ys)
unfolding write_at
write_before l i xs ys = from_before l i 0 (i + length xs) 0 xs ys (omega arith) ∙ sym (unfold write_at in write_append l i xs ys)

-- bytes over as many bytes
over_from : (l : List ℕ) (i j : ℕ) (xs ys : List ℕ) → length xs ≡ length ys → write_from (write_from l i j xs) i j ys ≡ write_from l i j ys
over_from l i j [] [] e = refl
over_from l i j [] (y ∷ ys) e = absurd (omega arith)
over_from l i j (x ∷ xs) [] e = absurd (omega arith)
over_from l i j (x ∷ xs) (y ∷ ys) e =
    rw (set_before (set l (i + j) x) (i + j) y i (suc j) xs (omega arith), set-set) (over_from (set l (i + j) y) i (suc j) xs ys (omega arith))

-- and more behind them
write_over : (l : List ℕ) (i : ℕ) (xs ys zs : List ℕ) → length xs ≡ length ys → write_at (write_at l i (xs ++ zs)) i ys ≡ write_at l i (ys ++ zs)
write_over l i xs ys zs e =
    rw (← write_before l i xs zs, e) (unfold write_at in over_from (write_at l (i + length ys) zs) i 0 xs ys e ∙ write_before l i ys zs)

-- ---- where the bytes stand

-- the same as the library's run of stores
from_sets : (l : List ℕ) (i j : ℕ) (vs : List ℕ) → write_from l i j vs ≡ sets l (i + j) vs
from_sets l i j [] = refl
from_sets l i j (v ∷ vs) = from_sets (set l (i + j) v) i (suc j) vs ∙ ap (λ (k : ℕ). sets (set l (i + j) v) k vs) (omega arith)

-- between the bytes before them and those behind
pub bytes_there : (l : List ℕ) (i : ℕ) (vs : List ℕ) → i + length vs ≤ length l → write_at l i vs ≡ take i l ++ (vs ++ drop (i + length vs) l)
unfolding write_at
bytes_there l i vs fit =
    from_sets l i 0 vs ∙ ap (λ (k : ℕ). sets l k vs) (omega arith) ∙ sets-eq vs l i fit
    ∙ append_assoc (take i l) vs (drop (i + length vs) l)

-- ---- calls that write steps, one after the other

-- the room stays as long as it was
pub length_wrote : {l l' : List ℕ} {at p : ℕ} {xs : List Op} → Wrote l at xs l' p → length l' ≡ length l
length_wrote {l} {at = at} {xs = xs} w = ap length w.bytes ∙ length_write l (16 * at) (bytes_of xs)

module _ {l : List ℕ} {at : ℕ} (xs ys : List Op) where
  pub fits_first : Fits l at (xs ++ ys) → Fits l at xs
  fits_first f = record { bytes = omega (arith, length-append xs ys, f.bytes) }

  module _ {l' : List ℕ} {p : ℕ} (w : Wrote l at xs l' p) where
    pub fits_rest : Fits l at (xs ++ ys) → Fits l' p ys
    fits_rest f = record { bytes = omega (arith, length-append xs ys, length_wrote w, f.bytes, w.place) }

    pub wrote_then : {l'' : List ℕ} {q : ℕ} → Wrote l' p ys l'' q → Wrote l at (xs ++ ys) l'' q
    wrote_then v =
        record {
          place = omega (arith, length-append xs ys, w.place, v.place);
          bytes = v.bytes ∙ rw (w.bytes, w.place) (then l at xs ys);
        }

pub fits_one : {l : List ℕ} {at : ℕ} (x : Op) → Fits l at (x ∷ []) → 16 * (at + 1) ≤ length l
fits_one x f = f.bytes

pub wrote_one : (l : List ℕ) (at : ℕ) (x : Op) (l' : List ℕ) (p : ℕ) → p ≡ at + 1 → l' ≡ write_at l (16 * at) (step_bytes (step_of x)) → Wrote l at (x ∷ []) l' p
wrote_one l at x l' p e f = record { place = e; bytes = f ∙ one l (16 * at) x }

-- a step over a step that stands first
pub wrote_over : {l l' l'' : List ℕ} {at p : ℕ} (x y : Op) (ys : List Op) → Wrote l at (x ∷ ys) l' p → l'' ≡ write_at l' (16 * at) (step_bytes (step_of y))
    → Wrote l at (y ∷ ys) l'' p
unfolding bytes_of
wrote_over {l} {at = at} x y ys w e =
    let same : length (step_bytes (step_of x)) ≡ length (step_bytes (step_of y)) = unfold step_bytes in refl in
    record { place = w.place; bytes = e ∙ rw w.bytes (write_over l (16 * at) (step_bytes (step_of x)) (step_bytes (step_of y)) (bytes_of ys) same) }

pub wrote_none : (l : List ℕ) (at : ℕ) → Wrote l at [] l at
unfolding write_at bytes_of
wrote_none l at = record { place = omega arith; bytes = refl }
