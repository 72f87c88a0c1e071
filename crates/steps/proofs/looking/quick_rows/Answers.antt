use Rattle.std.specs.Prelude.{Some}
use Rattle.words.specs.Prelude.{ℕ, ◌+◌, ◌-◌, ◌*◌, ◌<◌, ◌≤◌, ◌≡◌, refl, arith, mul-le-mul_right, length, not-false}
use Rattle.floats.specs.{Floats.float_of}
use Rattle.rules.specs.{Values.words_from, Values.took}
use Rattle.steps.specs.{Looks.over_of, Looks.of_row, Looks.best_after}
use Rattle.steps.proofs.{Words.high_stays, Words.high_goes, Words.low_stays, Words.low_goes, Looks.place_in, Looks.next_row, Looks.best_next}
use Rattle.steps.proofs.looking.quick_rows.Goals as goal
use Rattle.steps.proofs.looking.quick_rows.Goals.{then-kind-eq-HIGHEST+then-best-word+else-word-ge-INFINITY, then-kind-eq-HIGHEST+else-best-word}
use Rattle.steps.proofs.looking.quick_rows.Goals.{else-kind-eq-HIGHEST+then-word-best, else-kind-eq-HIGHEST+else-word-best+else-word-ge-INFINITY-2}

pub loop-left-init : goal.loop-left-init
unfolding best_after
loop-left-init c =
    let a = c.args in
    let none : a.count - a.count ≡ 0 = omega arith in
    (omega arith, rw none (omega arith), c.requires.2, rw none refl)

pub has_word-requires : goal.has_word-requires
has_word-requires c =
    let next_ends : let a = c.args in c.loop-left.at + (7 + a.slots) ≤ length a.rows.now = let room : (k i : ℕ) → let a = c.args in k < a.count → i ≡ a.base + k * (7 + a.slots)
    → i + (7 + a.slots) ≤ length a.rows.now = λ k i l is. let a = c.args in
    let more : (k + 1) * (7 + a.slots) ≤ a.count * (7 + a.slots) = mul-le-mul_right (7 + a.slots) (omega arith) in
    omega (arith, more, is, c.requires.0) in
    let l = c.loop-left in
    room (c.args.count - l.left) l.at (omega (arith, c.loop-left-test.true, l.invariant.0)) l.invariant.1 in
    (next_ends, c.requires.1)

pub returns-then-not-has_word : goal.returns-then-not-has_word
returns-then-not-has_word c = let l = c.loop-left in (l.invariant.0, l.invariant.3)

pub overflow_add-word : goal.overflow_add-word
overflow_add-word c =
    let word_in : c.loop-left.at + c.place_of-place.result < length c.args.rows.now = let next_ends : let a = c.args in c.loop-left.at + (7 + a.slots) ≤ length a.rows.now = let room : (k i : ℕ) → let a = c.args in k < a.count → i ≡ a.base + k * (7 + a.slots)
    → i + (7 + a.slots) ≤ length a.rows.now = λ k i l is. let a = c.args in
    let more : (k + 1) * (7 + a.slots) ≤ a.count * (7 + a.slots) = mul-le-mul_right (7 + a.slots) (omega arith) in
    omega (arith, more, is, c.requires.0) in
    let l = c.loop-left in
    room (c.args.count - l.left) l.at (omega (arith, c.loop-left-test.true, l.invariant.0)) l.invariant.1 in
    let a = c.args in
    omega (arith, next_ends, c.place_of-place.ensures, place_in a.slots a.slot a.which c.requires.1) in
    omega (arith, word_in)

pub offset_bounds-rows-at : goal.offset_bounds-rows-at
offset_bounds-rows-at c =
    let word_in : c.loop-left.at + c.place_of-place.result < length c.args.rows.now = let next_ends : let a = c.args in c.loop-left.at + (7 + a.slots) ≤ length a.rows.now = let room : (k i : ℕ) → let a = c.args in k < a.count → i ≡ a.base + k * (7 + a.slots)
    → i + (7 + a.slots) ≤ length a.rows.now = λ k i l is. let a = c.args in
    let more : (k + 1) * (7 + a.slots) ≤ a.count * (7 + a.slots) = mul-le-mul_right (7 + a.slots) (omega arith) in
    omega (arith, more, is, c.requires.0) in
    let l = c.loop-left in
    room (c.args.count - l.left) l.at (omega (arith, c.loop-left-test.true, l.invariant.0)) l.invariant.1 in
    let a = c.args in
    omega (arith, next_ends, c.place_of-place.ensures, place_in a.slots a.slot a.which c.requires.1) in
    omega (arith, word_in)

pub bounds-rows-at : goal.bounds-rows-at
bounds-rows-at c =
    let word_in : c.loop-left.at + c.place_of-place.result < length c.args.rows.now = let next_ends : let a = c.args in c.loop-left.at + (7 + a.slots) ≤ length a.rows.now = let room : (k i : ℕ) → let a = c.args in k < a.count → i ≡ a.base + k * (7 + a.slots)
    → i + (7 + a.slots) ≤ length a.rows.now = λ k i l is. let a = c.args in
    let more : (k + 1) * (7 + a.slots) ≤ a.count * (7 + a.slots) = mul-le-mul_right (7 + a.slots) (omega arith) in
    omega (arith, more, is, c.requires.0) in
    let l = c.loop-left in
    room (c.args.count - l.left) l.at (omega (arith, c.loop-left-test.true, l.invariant.0)) l.invariant.1 in
    let a = c.args in
    omega (arith, next_ends, c.place_of-place.ensures, place_in a.slots a.slot a.which c.requires.1) in
    omega (arith, word_in)

pub returns-then-word-ge-INFINITY : goal.returns-then-word-ge-INFINITY
returns-then-word-ge-INFINITY c = let l = c.loop-left in (l.invariant.0, l.invariant.3)

pub returns-then-word-ge-INFINITY-2 : goal.returns-then-word-ge-INFINITY-2
returns-then-word-ge-INFINITY-2 c = let l = c.loop-left in (l.invariant.0, l.invariant.3)

pub overflow_add-at : goal.overflow_add-at
overflow_add-at c =
    let next_ends : let a = c.args in c.loop-left.at + (7 + a.slots) ≤ length a.rows.now = let room : (k i : ℕ) → let a = c.args in k < a.count → i ≡ a.base + k * (7 + a.slots)
    → i + (7 + a.slots) ≤ length a.rows.now = λ k i l is. let a = c.args in
    let more : (k + 1) * (7 + a.slots) ≤ a.count * (7 + a.slots) = mul-le-mul_right (7 + a.slots) (omega arith) in
    omega (arith, more, is, c.requires.0) in
    let l = c.loop-left in
    room (c.args.count - l.left) l.at (omega (arith, c.loop-left-test.true, l.invariant.0)) l.invariant.1 in
    omega (arith, next_ends)

pub overflow_add-at-in-loop-left : goal.overflow_add-at-in-loop-left
overflow_add-at-in-loop-left c =
    let next_ends : let a = c.args in c.loop-left.at + (7 + a.slots) ≤ length a.rows.now = let room : (k i : ℕ) → let a = c.args in k < a.count → i ≡ a.base + k * (7 + a.slots)
    → i + (7 + a.slots) ≤ length a.rows.now = λ k i l is. let a = c.args in
    let more : (k + 1) * (7 + a.slots) ≤ a.count * (7 + a.slots) = mul-le-mul_right (7 + a.slots) (omega arith) in
    omega (arith, more, is, c.requires.0) in
    let l = c.loop-left in
    room (c.args.count - l.left) l.at (omega (arith, c.loop-left-test.true, l.invariant.0)) l.invariant.1 in
    omega (arith, next_ends)

pub overflow_sub-left : goal.overflow_sub-left
overflow_sub-left c = omega (arith, c.loop-left-test.true)

pub loop-left-smaller : goal.loop-left-smaller
loop-left-smaller c = omega (arith, c.loop-left-test.true)

pub loop-left-preserved : goal.loop-left-preserved
loop-left-preserved c =
    let picked : let a = c.args in
    let word = words_from a.rows.now c.loop-left.at c.place_of-place.result in
    (c.if-kind-eq-HIGHEST.best < 0x7ff0_0000_0000_0000) × (took a.kind (float_of c.loop-left.best) (float_of word) ≡ float_of c.if-kind-eq-HIGHEST.best) = let low = c.loop-left.invariant.2 in
    elim c.if-kind-eq-HIGHEST.branch [
      | then-kind-eq-HIGHEST+then-best-word+else-word-ge-INFINITY w ↦ rw w.best-is
          (w.if-word-ge-INFINITY.false, high_goes _ _ _ w.if-kind-eq-HIGHEST.true w.if-best-word.true w.if-word-ge-INFINITY.false)
      | then-kind-eq-HIGHEST+else-best-word w ↦ rw w.best-is (low, high_stays _ _ _ w.if-kind-eq-HIGHEST.true w.if-best-word.false low)
      | else-kind-eq-HIGHEST+then-word-best w ↦ rw w.best-is
          (omega (arith, w.if-word-best.true, low), low_goes _ _ _ w.if-kind-eq-HIGHEST.false w.if-word-best.true low)
      | else-kind-eq-HIGHEST+else-word-best+else-word-ge-INFINITY-2 w ↦ rw w.best-is
          (low, low_stays _ _ _ w.if-kind-eq-HIGHEST.false w.if-word-best.false w.if-word-ge-INFINITY-2.false)
    ] in
    let l = c.loop-left in
    let a = c.args in
    let over = over_of a.slot a.which in
    let ws = a.rows.now in
    let k = a.count - l.left in
    let more : a.count - (l.left - 1) ≡ k + 1 = omega (arith, c.loop-left-test.true, l.invariant.0) in
    let word = words_from ws l.at c.place_of-place.result in
    let found : of_row over (words_from ws (a.base + k * (7 + a.slots))) ≡ Some (float_of word) =
    rw (← l.invariant.1, c.place_of-place.ensures) (c.has_word.ensures (not-false _ c.if-not-has_word.false-raw)) in (
      omega (arith, l.invariant.0),
      next_row a.base l.at k (a.count - (l.left - 1)) (7 + a.slots) l.invariant.1 more,
      picked.0,
      best_next a.kind over ws a.slots a.base (Some (float_of a.start)) k (a.count - (l.left - 1)) (float_of l.best) (float_of word)
          (float_of c.if-kind-eq-HIGHEST.best) more l.invariant.3 found picked.1,
    )

pub returns : goal.returns
returns c = let l = c.loop-left in (l.invariant.0, l.invariant.3)
