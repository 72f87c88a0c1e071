use Rattle.words.specs.Prelude.{ℕ, ◌+◌, ◌-◌, ◌≤◌, ◌≡◌, sym, ap, ◌∙◌, arith, le_refl}
use Rattle.rows.specs.{Ring.ring_of}
use Rattle.rules.specs.{Values.pick, Meaning.extreme_over, Laws.Meaning.extreme_one, Laws.Meaning.extreme_more}
use Rattle.rules.specs.{Laws.Meaning.any_missing}
use Rattle.steps.specs.{Looks.over_of}
use Rattle.steps.proofs.looking.best_over.Goals as goal

pub loop-at-init : goal.loop-at-init
loop-at-init c =
    let a = c.args in (
      le_refl a.oldest,
      c.requires.held_value.2,
      c.requires.start_value ∙ sym (extreme_one (ring_of a.slots a.first a.rows.now) a.kind (over_of a.slot a.which) a.oldest),
    )

pub quick_from-quick-requires : goal.quick_from-quick-requires
quick_from-quick-requires c = let p = c.requires.held_value in (p.0, p.1, c.loop-at-test.true, p.3)

pub loop-at-smaller-then-at-quick : goal.loop-at-smaller-then-at-quick
loop-at-smaller-then-at-quick c = omega (arith, c.if-at-quick.true, c.quick_from-quick.ensures.0)

-- rows that were gone through by their words
pub loop-at-preserved-then-at-quick : goal.loop-at-preserved-then-at-quick
loop-at-preserved-then-at-quick c =
    let l = c.loop-at in
    let a = c.args in
    (omega (arith, l.invariant.0, c.if-at-quick.true), c.quick_from-quick.ensures.0, c.quick_from-quick.ensures.1 a.oldest l.invariant.0 l.invariant.2)

pub passed_from-stop-requires : goal.passed_from-stop-requires
passed_from-stop-requires c = let p = c.requires.held_value in (p.0, p.1, c.loop-at-test.true, p.3)

pub overflow_add-at : goal.overflow_add-at
overflow_add-at c = omega (arith, c.passed_from-stop.ensures.0)

pub overflow_add-at-then-stop : goal.overflow_add-at-then-stop
overflow_add-at-then-stop c = let stop = c.passed_from-stop.ensures.2 c.if-stop.true in omega (arith, stop.0)

-- a row in which it is missing
pub returns-in-None : goal.returns-in-None
returns-in-None c =
    let l = c.loop-at in
    let a = c.args in
    let stop = c.passed_from-stop.ensures.2 c.if-stop.true in
    let i = l.at + c.passed_from-stop.result.passed + 1 in
    let here : a.oldest + (i - a.oldest) ≡ i = omega (arith, l.invariant.0) in
    sym (any_missing (ring_of a.slots a.first a.rows.now) a.kind (over_of a.slot a.which) a.oldest (a.last - a.oldest) (i - a.oldest)
    (omega (arith, stop.0)) (rw here (sym stop.1 ∙ c.in-None.is)))

pub loop-at-smaller-in-Some : goal.loop-at-smaller-in-Some
loop-at-smaller-in-Some c =
    let stop = c.passed_from-stop.ensures.2 c.if-stop.true in
    omega (arith, stop.0)

-- a row that has it
pub loop-at-preserved-in-Some : goal.loop-at-preserved-in-Some
unfolding pick
loop-at-preserved-in-Some c =
    let l = c.loop-at in
    let a = c.args in
    let stop = c.passed_from-stop.ensures.2 c.if-stop.true in
    let i = l.at + c.passed_from-stop.result.passed in
    let le : a.oldest ≤ i = omega (arith, l.invariant.0) in (
      omega (arith, le),
      omega (arith, stop.0),
      rw (
        extreme_more (ring_of a.slots a.first a.rows.now) a.kind (over_of a.slot a.which) a.oldest i le,
        ← c.passed_from-stop.ensures.1 a.oldest l.invariant.0 l.invariant.2,
        ← stop.1,
        c.in-Some.is,
        c.took-best.ensures,
      ),
    )

pub loop-at-smaller : goal.loop-at-smaller
loop-at-smaller c = omega (arith, c.passed_from-stop.ensures.3 c.if-stop.false, c.loop-at-test.true)

-- none was better
pub loop-at-preserved : goal.loop-at-preserved
loop-at-preserved c =
    let l = c.loop-at in
    let a = c.args in
    (omega (arith, l.invariant.0), c.passed_from-stop.ensures.0, c.passed_from-stop.ensures.1 a.oldest l.invariant.0 l.invariant.2)

pub returns : goal.returns
returns c =
    let l = c.loop-at in
    let a = c.args in
    let end : l.at ≡ a.last = omega (arith, c.loop-at-test.false, l.invariant.1) in
    l.invariant.2
    ∙ ap (λ (m : ℕ). extreme_over (ring_of a.slots a.first a.rows.now) a.kind (over_of a.slot a.which) a.oldest (m - a.oldest)) end
