use Rattle.std.specs.Prelude.{Float, Option}
use Rattle.words.specs.Prelude.{ℕ, ◌+◌, ◌*◌, ◌<◌, ◌≤◌, ◌≡◌, refl, sym, ap, ◌∙◌, true, arith, mul-le-mul_right, length}
use Rattle.rules.specs.{Values.words_from}
use Rattle.steps.specs.{Looks.over_of, Looks.of_row, Looks.Stopped}
use Rattle.steps.proofs.{Looks.not_higher, Looks.not_lower, Looks.passed_more}
use Rattle.steps.proofs.looking.pass_rows.Goals as goal
use Rattle.steps.proofs.looking.pass_rows.Goals.{then-kind-eq-HIGHEST+else-best-x, else-kind-eq-HIGHEST+else-x-best}

pub loop-k-init : goal.loop-k-init
loop-k-init c = (omega arith, λ i l. absurd (omega (arith, l)))

pub series_in-found-requires : goal.series_in-found-requires
series_in-found-requires c =
    let room : (k i : ℕ) → let a = c.args in k < a.count → i ≡ a.base + k * (7 + a.slots)
    → i + (7 + a.slots) ≤ length a.rows.now = λ k i l is. let a = c.args in
    let more : (k + 1) * (7 + a.slots) ≤ a.count * (7 + a.slots) = mul-le-mul_right (7 + a.slots) (omega arith) in
    omega (arith, more, is, c.requires.slots_in_bounds) in
    let l = c.loop-k in
    record { slots_in_bounds = room l.k l.at (omega arith) l.invariant.0; which_lt_slots = c.requires.which_lt_slots }

pub returns-in-None : goal.returns-in-None
returns-in-None c =
    let stops : (k i : ℕ) (found : Option Float) → let a = c.args in k < a.count → i ≡ a.base + k * (7 + a.slots)
    → found ≡ of_row (over_of a.slot a.which) (words_from a.rows.now i)
    → Stopped (over_of a.slot a.which) a.rows.now a.slots a.base a.count k true found = λ k i found l is has. let a = c.args in
    (l, has ∙ ap (λ (at : ℕ). of_row (over_of a.slot a.which) (words_from a.rows.now at)) is) in
    let l = c.loop-k in
    let stop = c.stopped_at.ensures in
    rw (stop.0, stop.1, stop.2) (
      l.invariant.1,
      stops l.k l.at _ (omega arith) l.invariant.0 c.series_in-found.ensures,
    )

pub returns-then-best-x : goal.returns-then-best-x
returns-then-best-x c =
    let stops : (k i : ℕ) (found : Option Float) → let a = c.args in k < a.count → i ≡ a.base + k * (7 + a.slots)
    → found ≡ of_row (over_of a.slot a.which) (words_from a.rows.now i)
    → Stopped (over_of a.slot a.which) a.rows.now a.slots a.base a.count k true found = λ k i found l is has. let a = c.args in
    (l, has ∙ ap (λ (at : ℕ). of_row (over_of a.slot a.which) (words_from a.rows.now at)) is) in
    let l = c.loop-k in
    let stop = c.stopped_at-then-best-x.ensures in
    rw (stop.0, stop.1, stop.2) (
      l.invariant.1,
      stops l.k l.at _ (omega arith) l.invariant.0
          (sym c.in-Some.is ∙ c.series_in-found.ensures),
    )

pub returns-then-x-best : goal.returns-then-x-best
returns-then-x-best c =
    let stops : (k i : ℕ) (found : Option Float) → let a = c.args in k < a.count → i ≡ a.base + k * (7 + a.slots)
    → found ≡ of_row (over_of a.slot a.which) (words_from a.rows.now i)
    → Stopped (over_of a.slot a.which) a.rows.now a.slots a.base a.count k true found = λ k i found l is has. let a = c.args in
    (l, has ∙ ap (λ (at : ℕ). of_row (over_of a.slot a.which) (words_from a.rows.now at)) is) in
    let l = c.loop-k in
    let stop = c.stopped_at-then-x-best.ensures in
    rw (stop.0, stop.1, stop.2) (
      l.invariant.1,
      stops l.k l.at _ (omega arith) l.invariant.0
          (sym c.in-Some.is ∙ c.series_in-found.ensures),
    )

pub overflow_add-at : goal.overflow_add-at
overflow_add-at c =
    let room : (k i : ℕ) → let a = c.args in k < a.count → i ≡ a.base + k * (7 + a.slots)
    → i + (7 + a.slots) ≤ length a.rows.now = λ k i l is. let a = c.args in
    let more : (k + 1) * (7 + a.slots) ≤ a.count * (7 + a.slots) = mul-le-mul_right (7 + a.slots) (omega arith) in
    omega (arith, more, is, c.requires.slots_in_bounds) in
    let l = c.loop-k in
    omega (arith, room l.k l.at (omega arith) l.invariant.0)

pub overflow_add-at-in-Some : goal.overflow_add-at-in-Some
overflow_add-at-in-Some c =
    let room : (k i : ℕ) → let a = c.args in k < a.count → i ≡ a.base + k * (7 + a.slots)
    → i + (7 + a.slots) ≤ length a.rows.now = λ k i l is. let a = c.args in
    let more : (k + 1) * (7 + a.slots) ≤ a.count * (7 + a.slots) = mul-le-mul_right (7 + a.slots) (omega arith) in
    omega (arith, more, is, c.requires.slots_in_bounds) in
    let l = c.loop-k in
    omega (arith, room l.k l.at (omega arith) l.invariant.0)

-- one row more
pub loop-k-preserved : goal.loop-k-preserved
loop-k-preserved c =
    let l = c.loop-k in
    let a = c.args in (
      omega (arith, l.invariant.0),
      passed_more a.kind (over_of a.slot a.which) a.rows.now a.slots a.base a.best l.k l.invariant.1
          (rw (← l.invariant.0, ← c.series_in-found.ensures, c.in-Some.is)
          (elim c.if-kind-eq-HIGHEST.branch [
            | then-kind-eq-HIGHEST+else-best-x w ↦ not_higher _ _ _ w.if-kind-eq-HIGHEST.true w.if-best-x.false
            | else-kind-eq-HIGHEST+else-x-best w ↦ not_lower _ _ _ w.if-kind-eq-HIGHEST.false w.if-x-best.false
          ])),
    )

pub returns : goal.returns
returns c = (λ i l. c.loop-k.invariant.1 i (omega (arith, l)), refl)
