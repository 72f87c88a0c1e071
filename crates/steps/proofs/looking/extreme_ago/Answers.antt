-- Missing where the newest or the oldest of the rows is not there.
use Rattle.std.specs.Prelude.{None}
use Rattle.words.specs.Prelude.{arith, ◌≡◌, sym, ◌∙◌, ℕ, ◌-◌, ◌<◌, ◌≤◌}
use Rattle.rows.specs.{History.History}
use Rattle.table.specs.{declared.series.Series.Series, Trees.extreme}
use Rattle.rules.specs.{Meaning.extreme_over, Laws.Meaning.extreme_value, Laws.Meaning.extreme_early}
use Rattle.rules.specs.{Laws.Meaning.extreme_late}
use Rattle.steps.specs.{Machine.ago}
use Rattle.steps.proofs.{Rows.ring_held, Rows.there_ago, Rows.ago_late}
use Rattle.steps.proofs.looking.extreme_ago.Goals as goal

module _ (h : History) (kind : ℕ) (over : Series) (n back held : ℕ) (is : held ≡ h.rows) (near : back < held) where
  too_few : held - 1 - back < n - 1 → ago h (extreme kind over n) back ≡ None
  too_few l =
      there_ago h (extreme kind over n) back (rw is at near)
      ∙ extreme_value h kind over n (h.rows - 1 - back)
      ∙ extreme_early h kind over n (h.rows - 1 - back) (rw is at l)

  enough : n - 1 ≤ held - 1 - back → (m : ℕ) → m ≡ n - 1
      → ago h (extreme kind over n) back ≡ extreme_over h kind over (held - 1 - back - m) (held - 1 - back - (held - 1 - back - m))
  enough l m e =
      let rest : held - 1 - back - (held - 1 - back - m) ≡ n - 1 = omega arith in
      there_ago h (extreme kind over n) back (rw is at near)
      ∙ extreme_value h kind over n (h.rows - 1 - back)
      ∙ extreme_late h kind over n (h.rows - 1 - back) (rw is at l)
      ∙ rw (rest, e, is)

pub returns-then-held-back : goal.returns-then-held-back
returns-then-held-back c = sym (ago_late _ _ _ _ (ring_held _ _ _ _ c.requires.0) c.if-held-back.true)

pub returns-then-newest-rest : goal.returns-then-newest-rest
returns-then-newest-rest c =
    sym (too_few _ _ _ _ _ _ (ring_held _ _ _ _ c.requires.0) c.if-held-back.false (rw c.saturating_sub-rest.ensures at c.if-newest-rest.true))

pub extreme_over-requires : goal.extreme_over-requires
extreme_over-requires c =
    let p = c.requires in
    (p.0, p.1, omega arith, omega (arith, c.if-held-back.false))

pub returns : goal.returns
returns c =
    rw c.extreme_over.ensures
    (sym (enough _ _ _ _ _ _ (ring_held _ _ _ _ c.requires.0) c.if-held-back.false (rw c.saturating_sub-rest.ensures at c.if-newest-rest.false) _
    c.saturating_sub-rest.ensures))
