-- The depth less n - 1 is compared, so that nothing wraps.
use Rattle.words.specs.Prelude.{lt-ltb, le-ltb, arith, ℕ, ◌+◌, ◌-◌, ◌<◌, ◌≤◌, ◌≡◌, sym, ◌∙◌, ⊎_elim, ltb}
use Rattle.words.specs.{Laws.Numbers.less_or_not}
use Rattle.steps.specs.{WellFormed.looks_within}
use Rattle.steps.proofs.wellformed.looks_within.Goals as goal

shifted : (back rest depth : ℕ) → rest < depth → ltb back (depth - rest) ≡ ltb (back + rest) depth
shifted back rest depth h =
    ⊎_elim (λ (near : back + rest < depth). rw (lt-ltb (back + rest) depth near, lt-ltb back (depth - rest) (omega arith)))
    (λ (far : depth ≤ back + rest). rw (le-ltb (back + rest) depth far, le-ltb back (depth - rest) (omega arith))) (less_or_not (back + rest) depth)

pub returns-then-depth-rest : goal.returns-then-depth-rest
unfolding looks_within
returns-then-depth-rest c =
    let a = c.args in
    rw (
      sym c.series_within.ensures ∙ c.if-series_within.true,
      le-ltb (a.back + (a.n - 1)) a.depth (omega (arith, c.saturating_sub-rest.ensures, c.if-depth-rest.true)),
    )

pub returns-then-series_within : goal.returns-then-series_within
unfolding looks_within
returns-then-series_within c =
    rw (sym c.series_within.ensures ∙ c.if-series_within.true, ← c.saturating_sub-rest.ensures) (shifted _ _ _ c.if-depth-rest.false)

pub returns : goal.returns
unfolding looks_within
returns c = rw (sym c.series_within.ensures ∙ c.if-series_within.false)
