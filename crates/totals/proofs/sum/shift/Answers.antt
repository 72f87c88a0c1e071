use Rattle.words.specs.Prelude.{◌≡◌, refl, sym, ap, subst, ◌∙◌, Bool, true, false, ℕ, ◌+◌, ◌*◌, ◌^◌, zero-mul, arith, add-one, rules, length}
use Rattle.words.specs.Prelude.{length-set}
use Rattle.totals.specs.{Number.Moves, Number.number_of, Number.place}
use Rattle.totals.proofs.{Numbers.moves_on, Numbers.words_settled, Numbers.past, Numbers.set_words}
use Rattle.totals.proofs.sum.shift.Goals as goal

same : (down : Bool) (a x : ℕ) → Moves down a x a x
same false a x = refl
same true a x = refl

nothing : (lo hi i n : ℕ) → lo ≡ 0 → hi ≡ 0 → (lo + 2 ^ 64 * hi) * place i ≡ 0 * place n
nothing lo hi i n e f =
    let none : lo + 2 ^ 64 * hi ≡ 0 = omega arith in
    ap (λ (z : ℕ). z * place i) none ∙ zero-mul (place i) ∙ sym (zero-mul (place n))

pub loop-i-init : goal.loop-i-init
loop-i-init c = (refl, λ i. omega (arith, c.type_inv.sum i), c.requires, same c.args.down _ _)

pub returns-then-hi-eq0 : goal.returns-then-hi-eq0
returns-then-hi-eq0 c =
    let l = c.loop-i in
    let start = c.args in
    words_settled start.down l.sum start.sum.now 0 _ l.invariant.1 l.invariant.0
    (subst (λ (r : ℕ). Moves start.down (number_of l.sum) r (number_of start.sum.now) ((start.low + 2 ^ 64 * start.high) * place start.at))
    (nothing l.lo l.hi l.i (length start.sum.now) c.if-lo-eq0.true c.if-hi-eq0.true) l.invariant.3)

pub overflow_add-lo : goal.overflow_add-lo
overflow_add-lo c = omega (arith, c.digit-d.ensures.2)

pub loop-i-preserved : goal.loop-i-preserved
loop-i-preserved c =
    let l = c.loop-i in
    let d = c.digit-d in
    let start = c.args in (
      length-set l.sum l.i d.result.word ∙ l.invariant.0,
      set_words l.sum l.i d.result.word l.invariant.1 d.ensures.1,
      omega arith,
      rw add-one (moves_on start.down l.sum l.i d.result.word d.result.carry l.lo l.hi (number_of start.sum.now)
          ((start.low + 2 ^ 64 * start.high) * place start.at) (search rules) d.ensures.0 l.invariant.3),
    )

pub returns : goal.returns
returns c =
    let l = c.loop-i in
    let start = c.args in
    words_settled start.down l.sum start.sum.now _ _ l.invariant.1 l.invariant.0
    (subst (λ (r : ℕ). Moves start.down (number_of l.sum) r (number_of start.sum.now) ((start.low + 2 ^ 64 * start.high) * place start.at))
    (past (l.lo + 2 ^ 64 * l.hi) (length start.sum.now) l.i (omega (arith, l.invariant.0))) l.invariant.3)
