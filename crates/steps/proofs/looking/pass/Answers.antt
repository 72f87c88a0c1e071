-- Rows that do not have the slot: the first of them stops it.
use Rattle.words.specs.Prelude.{ℕ, ◌+◌, ◌*◌, ◌≡◌, sym, ap, ◌∙◌, true≢false, arith}
use Rattle.rules.specs.{Values.words_from, Values.slot_of}
use Rattle.steps.proofs.looking.pass.Goals as goal

pub pass_rows-requires : goal.pass_rows-requires
pass_rows-requires c = record { slots_in_bounds = c.requires.1; which_lt_slots = λ e. (omega (arith, c.if-which-slots.true), omega (arith, c.if-which-lt64.true)) }

pub returns-then-which-lt64 : goal.returns-then-which-lt64
returns-then-which-lt64 c = c.pass_rows.ensures

pub returns-then-slot : goal.returns-then-slot
returns-then-slot c =
    let a = c.args in
    let here : a.base ≡ a.base + 0 * (7 + a.slots) = omega arith in
    let stop = c.stopped_at.ensures in
    rw (stop.0, stop.1, stop.2, c.if-slot.true) (
      λ k l. absurd (omega (arith, l)),
      (omega (arith, c.requires.0), c.slot_at.ensures ∙ ap (λ (at : ℕ). slot_of (words_from a.rows.now at) a.which) here),
    )

pub pass_rows-requires-2 : goal.pass_rows-requires-2
pass_rows-requires-2 c = record { slots_in_bounds = c.requires.1; which_lt_slots = λ e. absurd (true≢false (sym e ∙ c.if-slot.false)) }

pub returns : goal.returns
returns c = c.pass_rows-2.ensures
